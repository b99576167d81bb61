-- `offer::on_packet` meets its contract: what the packet does over the two components that it names, its session stored over its own bytes. Assumes nothing.
use mathlib.Core.Path.{◌≡◌, ap, ◌∙◌}
use Rattle.device_session.specs.declared.effect.Effect.{Effect}
use Rattle.device_offering.specs.Packet.{on_packet}
use Rattle.device.specs.Refusals.{served_with}
use Rattle.device_bytes.specs.Layout.{device_in, with_session_bytes}
use Rattle.device_in_place.specs.InPlace.{outcome_of}
use Rattle.std.specs.Prelude.{Ok}
use Rattle.device_bytes.proofs.Fields.{platform_read, session_read}
use Rattle.device_in_place.proofs.offer.on_packet.Goals as goal

pub returns : goal.returns
returns c =
    let b = c.args.bytes.now in
    let d = device_in b in
    let next = on_packet d.platform d.count d.components d.session c.args.p in
    let e : c.on_packet-effect.result ≡ next
    = c.on_packet-effect.ensures
    ∙ rw (
      c.platform_in.ensures ∙ platform_read b,
      c.standing_in-needed.ensures,
      c.need_of.ensures,
      c.standing_in-target.ensures,
      c.id_of.ensures,
      c.session_in-session.ensures ∙ session_read b,
    ) in (
      ap (λ (x : Effect). outcome_of (Ok x.replies) (served_with d d.components next).device) e,
      c.store_session.ensures ∙ ap (λ (x : Effect). with_session_bytes x.session b) e,
    )
