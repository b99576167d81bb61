-- `step::cursor_for`: by the stage; of a block, a walk past its record. Assumes nothing.
use Rattle.host.proofs.step.cursor_for.Goals as goal

pub returns-in-Sending : goal.returns-in-Sending
returns-in-Sending c = rw c.in-Sending.is c.place_after.ensures
