-- `Device::blank` meets its contract: all is zero. Assumes nothing.
use Rattle.device.proofs.record.Device.blank.Goals as goal

pub returns : goal.returns
returns c = rw (c.idle-session.ensures, c.blank_component-component.ensures)
