-- `Device::reset` meets its contract: D1, or the components reset and the session idle. Assumes nothing.
use Rattle.device.specs.Entries.{reset_entry}
use Rattle.wire.proofs.Chain.{by}
use Rattle.device.proofs.record.Device.reset.Goals as goal

pub returns-then-breaks_d1 : goal.returns-then-breaks_d1
unfolding reset_entry
returns-then-breaks_d1 c = rw (by c.breaks_d1.ensures c.if-breaks_d1.true)

pub returns : goal.returns
unfolding reset_entry
returns c =
    rw (by c.breaks_d1.ensures c.if-breaks_d1.false, c.with_session.ensures, c.idle.ensures, c.reset_components-next.ensures)
