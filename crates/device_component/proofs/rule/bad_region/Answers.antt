-- `rule::bad_region` meets its contract: the two tests, over the number of its base. Assumes nothing.
use Rattle.device_component.proofs.rule.bad_region.Goals as goal

pub returns : goal.returns
returns c = rw c.number.ensures
