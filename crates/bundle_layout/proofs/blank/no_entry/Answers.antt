-- `blank::no_entry`: every field is zero. Assumes nothing.
use Rattle.bundle_layout.proofs.blank.no_entry.Goals as goal

pub returns : goal.returns
returns c = rw c.no_offer-offer.ensures
