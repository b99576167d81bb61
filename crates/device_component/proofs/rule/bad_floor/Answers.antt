-- `rule::bad_floor` meets its contract: the floor's variant is compared with 0. Assumes nothing.
use Rattle.device_component.proofs.rule.bad_floor.Goals as goal

pub returns : goal.returns
returns c = rw c.variant.ensures
