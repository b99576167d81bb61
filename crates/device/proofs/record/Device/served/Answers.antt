-- `Device::served` meets its contract: what the packet does, and the record after it. Assumes nothing.
use Rattle.device.proofs.record.Device.served.Goals as goal

pub returns : goal.returns
returns c = rw c.with_session-device.ensures
