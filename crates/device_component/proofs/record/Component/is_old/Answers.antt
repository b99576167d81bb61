-- `Component::is_old` meets its contract: two releases are compared. Assumes nothing.
use Rattle.device_component.proofs.record.Component.is_old.Goals as goal

pub returns : goal.returns
returns c = cc
