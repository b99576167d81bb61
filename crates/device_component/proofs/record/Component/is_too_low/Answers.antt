-- `Component::is_too_low` meets its contract: the two tests. Assumes nothing.
use Rattle.device_component.proofs.record.Component.is_too_low.Goals as goal

pub returns : goal.returns
returns c = rw (c.is_old.ensures, c.is_below_floor.ensures)
