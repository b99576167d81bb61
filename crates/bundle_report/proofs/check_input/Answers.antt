-- `check_input`: row B1 where there is more, and otherwise the check. Assumes nothing.
use Rattle.bundle_report.proofs.check_input.Goals as goal

pub returns-then-more : goal.returns-then-more
returns-then-more c = rw (c.refused.ensures, c.if-more.true)

pub returns : goal.returns
returns c = rw c.if-more.false c.check.ensures
