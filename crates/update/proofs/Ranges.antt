-- A device or both ends that a parameter holds are values of their types. Assumes nothing.
use mathlib.Core.Path.{◌≡◌}
use mathlib.Core.List.{List}
use lib.ListN.{length}
use mir.Val.{Val}
use denote.Laws.{Is}
use Rattle.device_component.proofs.record.Ranges.{components_range}
use Rattle.device_session.proofs.effect.Ranges.{session_range}
use Rattle.device.specs.Record.{FitsDevice}
use Rattle.device.specs.declared.record.Device.{Device}
use Rattle.device.specs.contracts.record.Device as D
use Rattle.update.specs.declared.turn.BothEnds.{BothEnds}
use Rattle.update.specs.contracts.turn.BothEnds as E

-- a device
pub device_fits : (d : Device) (vs : List Val) → Is D.the_row d vs → FitsDevice d
device_fits d vs h =
    let f = h.1.1 in
    let a = f.1.1.1.0 in
    record {
      platform = f.0.1;
      staging = f.1.0.1;
      count = f.1.1.0.1;
      slots = a.1.0.1;
      each = components_range d.components a.0 a.1.1;
      session = session_range d.session _ f.1.1.1.1.0;
    }

-- the last reply of both ends
pub reply_length : (e : BothEnds) (vs : List Val) → Is E.the_row e vs → length e.replies.reply ≡ 16
reply_length e vs h = h.1.1.1.1.0.1.1.1.0.1.0.1
