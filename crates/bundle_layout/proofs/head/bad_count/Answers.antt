-- `head::bad_count`: the count is byte 0. Assumes nothing.
use Rattle.bundle_layout.proofs.head.bad_count.Goals as goal

pub returns : goal.returns
returns c = rw c.byte_at-count.ensures
