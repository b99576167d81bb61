-- `end_number` meets its contract: by the number of the end's row. Assumes nothing.
use borrow.Author.Tests.{eq-eqb, ne_eqb}
use Rattle.c_host.proofs.Laws.{ended, not_done}
use Rattle.c_host.proofs.end_number.Goals as goal

pub returns-then-number-eq0 : goal.returns-then-number-eq0
returns-then-number-eq0 c = ended c.args.end c.number-number.ensures (eq-eqb _ _ c.if-number-eq0.true)

pub returns-else-number-eq0 : goal.returns-else-number-eq0
returns-else-number-eq0 c = not_done c.args.end c.number-number.ensures (ne_eqb _ _ c.if-number-eq0.false)
