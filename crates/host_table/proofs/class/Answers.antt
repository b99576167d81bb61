-- `class`: by the test. Assumes nothing.
use borrow.Author.Tests.{lt-ltb, le-ltb}
use Rattle.host_table.proofs.class.Goals as goal

pub returns-then-status-lt5 : goal.returns-then-status-lt5
returns-then-status-lt5 c = rw (lt-ltb _ _ c.if-status-lt5.true)

pub returns-else-status-lt5 : goal.returns-else-status-lt5
returns-else-status-lt5 c = rw (le-ltb _ _ c.if-status-lt5.false)
