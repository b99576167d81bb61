-- `staged_bytes` meets its contract: by what is staged. Assumes nothing.
use Rattle.device_component_bytes.proofs.staged_bytes.Goals as goal

pub returns-in-None : goal.returns-in-None
returns-in-None c = rw c.in-None.is

pub returns-in-Some : goal.returns-in-Some
returns-in-Some c = rw (c.in-Some.is, c.bytes-b.ensures)
