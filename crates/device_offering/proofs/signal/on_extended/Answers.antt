-- `signal::on_extended` meets its contract: notify on ready, any other. Assumes nothing.
use borrow.Author.Tests.{eq-eqb, ne_eqb}
use Rattle.device_offering.specs.Signal.{on_extended}
use Rattle.device_offering.proofs.signal.on_extended.Goals as goal

pub returns-then-s-eq-NOTIFY_ON_READY : goal.returns-then-s-eq-NOTIFY_ON_READY
unfolding on_extended
returns-then-s-eq-NOTIFY_ON_READY c = rw (eq-eqb _ _ c.if-s-eq-NOTIFY_ON_READY.true) c.on_notify.ensures

pub returns-else-s-eq-NOTIFY_ON_READY : goal.returns-else-s-eq-NOTIFY_ON_READY
unfolding on_extended
returns-else-s-eq-NOTIFY_ON_READY c = rw (ne_eqb _ _ c.if-s-eq-NOTIFY_ON_READY.false) c.plain_reply.ensures
