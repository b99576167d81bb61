-- `Component::may_follow` meets its contract: the variant and the floor as their helpers say, and two releases are compared. Assumes nothing.
use Rattle.device_component.proofs.record.Component.may_follow.Goals as goal

pub returns : goal.returns
returns c = rw (c.is_wrong_variant.ensures, c.release.ensures, c.release-2.ensures, c.is_below_floor.ensures)
