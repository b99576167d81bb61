-- `contents_laid`: the contents by the row, if any. Assumes nothing.
use Rattle.host_bytes.specs.Layout.{contents_bytes}
use Rattle.host_bytes.proofs.contents_laid.Goals as goal

pub returns-in-None : goal.returns-in-None
unfolding contents_bytes
returns-in-None c = rw c.in-None.is c.laid.ensures

pub returns-in-Some : goal.returns-in-Some
unfolding contents_bytes
returns-in-Some c = rw (c.in-Some.is, ← c.number.ensures) c.laid-in-Some.ensures
