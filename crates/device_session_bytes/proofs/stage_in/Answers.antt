-- `stage_in` meets its contract: by its tests. Assumes nothing.
use borrow.Author.Tests.{eq-eqb, ne_eqb}
use Rattle.device_session_bytes.proofs.stage_in.Goals as goal

pub returns-then-stage-eq1 : goal.returns-then-stage-eq1
returns-then-stage-eq1 c = rw (eq-eqb _ _ c.if-stage-eq1.true)

pub returns-then-stage-eq2 : goal.returns-then-stage-eq2
returns-then-stage-eq2 c = rw (ne_eqb _ _ c.if-stage-eq1.false, eq-eqb _ _ c.if-stage-eq2.true)

pub returns : goal.returns
returns c = rw (ne_eqb _ _ c.if-stage-eq1.false, ne_eqb _ _ c.if-stage-eq2.false)
