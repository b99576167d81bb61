-- `Device::on_packet` meets its contract: what the packet does over the two components that it names, put into the record. Assumes nothing.
use mathlib.Core.Path.{◌∙◌}
use Rattle.device.proofs.record.Device.on_packet.Goals as goal

pub returns : goal.returns
returns c =
    c.served.ensures
    ∙ rw (
      c.on_packet-effect.ensures,
      c.standing_of-needed.ensures,
      c.need_of.ensures,
      c.standing_of-target.ensures,
      c.id_of.ensures,
    )
