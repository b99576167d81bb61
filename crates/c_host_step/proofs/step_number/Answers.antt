-- `step_number` meets its contract: by the refusal. Assumes nothing.
use Rattle.c_host_step.proofs.step_number.Goals as goal

pub returns-in-Bundle : goal.returns-in-Bundle
returns-in-Bundle c = rw (c.number-number.ensures, c.in-Bundle.is)

pub returns-in-N1 : goal.returns-in-N1
returns-in-N1 c = rw (c.number-number.ensures, c.in-N1.is)
