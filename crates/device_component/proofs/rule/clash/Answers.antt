-- `rule::clash` meets its contract: the two tests. Assumes nothing.
use Rattle.device_component.proofs.rule.clash.Goals as goal

pub returns : goal.returns
returns c = rw c.overlaps.ensures
