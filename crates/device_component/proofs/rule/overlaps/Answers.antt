-- `rule::overlaps` meets its contract: the two tests, over the numbers of the bases. Assumes nothing.
use Rattle.device_component.proofs.rule.overlaps.Goals as goal

pub returns : goal.returns
returns c = rw (c.number-base.ensures, c.number-next.ensures)
