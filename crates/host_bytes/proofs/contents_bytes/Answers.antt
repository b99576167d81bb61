-- `contents_bytes`: the contents of an accepted bundle, or the refusal. Assumes nothing.
use Rattle.host_bytes.specs.Layout.{contents_bytes}
use Rattle.host_bytes.proofs.contents_bytes.Goals as goal

pub returns-in-Ok : goal.returns-in-Ok
unfolding contents_bytes
returns-in-Ok c = rw c.in-Ok.is c.laid.ensures

pub returns-in-Err : goal.returns-in-Err
unfolding contents_bytes
returns-in-Err c = rw (c.in-Err.is, ← c.number.ensures, ← c.no_entries.ensures) c.laid-in-Err.ensures
