-- `decide::offer_from`: by the test. Assumes nothing.
use borrow.Author.Tests.{lt-ltb, le-ltb}
use Rattle.host_decide.proofs.decide.offer_from.Goals as goal

pub returns-then-entry-n : goal.returns-then-entry-n
returns-then-entry-n c = rw (lt-ltb _ _ c.if-entry-n.true) c.sends.ensures

pub returns-else-entry-n : goal.returns-else-entry-n
returns-else-entry-n c = rw (le-ltb _ _ c.if-entry-n.false) c.sends-else-entry-n.ensures
