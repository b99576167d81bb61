-- `stage_bytes` meets its contract: by the stage. Assumes nothing.
use Rattle.device_session_bytes.proofs.stage_bytes.Goals as goal

pub returns-in-Idle : goal.returns-in-Idle
returns-in-Idle c = rw c.in-Idle.is

pub returns-in-Offered : goal.returns-in-Offered
returns-in-Offered c = rw c.in-Offered.is

pub returns-in-Receiving : goal.returns-in-Receiving
returns-in-Receiving c = rw (c.in-Receiving.is, c.bytes16-n.ensures)
