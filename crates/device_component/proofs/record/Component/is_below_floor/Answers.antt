-- `Component::is_below_floor` meets its contract: two releases are compared. Assumes nothing.
use Rattle.device_component.proofs.record.Component.is_below_floor.Goals as goal

pub returns : goal.returns
returns c = cc
