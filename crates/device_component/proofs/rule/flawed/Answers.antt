-- `rule::flawed` meets its contract: the four tests. Assumes nothing.
use Rattle.device_component.proofs.rule.flawed.Goals as goal

pub returns : goal.returns
returns c = rw (c.bad_id.ensures, c.bad_region.ensures, c.bad_floor.ensures, c.keeps_staged.ensures)
