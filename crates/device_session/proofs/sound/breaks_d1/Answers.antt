-- `sound::breaks_d1` meets its contract: D1 in another order, each part as its helper says. Assumes nothing.
use Rattle.std.proofs.Common.{sym}
use Rattle.device_session.proofs.sound.Grouped.{grouped}
use Rattle.device_session.proofs.sound.breaks_d1.Goals as goal

pub returns : goal.returns
returns c =
    let a = c.args in
    rw (
      c.staging_too_long.ensures,
      c.bad_count.ensures,
      c.wrong_slot.ensures,
      c.wrong_previous.ensures,
      c.owes_on.ensures,
      c.some_unsound.ensures,
      c.component_at-component.ensures,
      c.unwrap_or.ensures,
      c.open_slot-slot.ensures,
    )
    (sym (grouped a.n a.count a.components a.session))
