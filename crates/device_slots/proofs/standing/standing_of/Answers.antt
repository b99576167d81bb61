-- `standing::standing_of` meets its contract: what `find` answers, and the component in its slot. Assumes nothing.
use Rattle.device_slots.proofs.standing.standing_of.Goals as goal

pub returns : goal.returns
returns c = rw (c.component_at-component.ensures, c.unwrap_or.ensures, c.find-at.ensures)
