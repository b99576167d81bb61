-- `blank::no_offer`: every field is zero. Assumes nothing.
use Rattle.bundle_layout.proofs.blank.no_offer.Goals as goal

pub returns : goal.returns
returns c = rw c.new.ensures
