-- `blank::no_entries`: no entry, as often as the limit. Assumes nothing.
use Rattle.bundle_layout.proofs.blank.no_entries.Goals as goal

pub returns : goal.returns
returns c = rw c.no_entry-none.ensures
