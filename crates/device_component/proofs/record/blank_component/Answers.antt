-- `record::blank_component` meets its contract: all is zero. Assumes nothing.
use Rattle.device_component.proofs.record.blank_component.Goals as goal

pub returns : goal.returns
returns c = rw (c.new-running.ensures, c.new.ensures)
