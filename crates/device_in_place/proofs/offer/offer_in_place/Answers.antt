-- `offer::offer_in_place` meets its contract: D1 to D3, or the answer by kind. Assumes nothing.
use mathlib.Core.Path.{◌≡◌, refl, sym, ap, subst, ◌∙◌}
use Rattle.std.specs.Prelude.{Ok}
use Rattle.std.proofs.lemmas.Result.{err_from_is_err_and}
use borrow.Author.Tests.{eq-eqb}
use Rattle.wire.specs.Rows as wire
use Rattle.wire.specs.Rows.{Told}
use Rattle.wire_offer.specs.Kind.{Kind, kind_in, read_of, told_read}
use Rattle.device_offering.specs.Packet as packet
use Rattle.device_offering.proofs.packet.Laws.{read_packet}
use Rattle.device_session.specs.declared.effect.Effect.{Effect}
use Rattle.device.specs.Refusals.{served_with}
use Rattle.device.specs.Offer.{offer_entry}
use Rattle.device.proofs.Passes.{serves}
use Rattle.device_bytes.specs.Layout.{device_in, with_session_bytes}
use Rattle.device_bytes.proofs.Flags.{record_sized}
use Rattle.device_in_place.specs.InPlace.{outcome_of}
use Rattle.device_in_place.proofs.Stands.{stands}
use Rattle.device_in_place.proofs.sound.Rows.{read_in}
use Rattle.device_in_place.proofs.offer.offer_in_place.Goals as goal

pub returns-in_err-refusal_in : goal.returns-in_err-refusal_in
unfolding offer_entry
returns-in_err-refusal_in c =
    let p = err_from_is_err_and c.from_residual.result c.from_residual.ensures.1 in
    let e = c.in_err-refusal_in.ensures in
    (rw (p.1, p.2, ← e), rw (← e))

-- no row refuses the call, so the bytes are a record, and the report is read as what it is
pub on_packet-requires : goal.on_packet-requires
on_packet-requires c = record_sized _ (stands 16 c.args.bytes.now _ _ (sym c.in_ok-refusal_in.ensures))

pub returns : goal.returns
unfolding offer_entry read_of
returns c =
    let b = c.args.bytes.now in
    let d = device_in b in
    let q = sym c.in_ok-refusal_in.ensures in
    let v = read_in b (stands 16 b _ _ q) in
    let r = rw v at q in
    let p : told_read c.read_offer_packet.result ≡ record { row = wire.served; value = kind_in c.args.report.now }
    = c.read_offer_packet.ensures ∙ rw (eq-eqb _ _ (serves 16 _ _ _ q).report) refl in
    let o = c.on_packet in
    let e = read_packet d.platform d.count d.components d.session c.read_offer_packet.result (ap (λ (t : Told Kind). t.row) p)
    ∙ ap (λ (t : Told Kind). packet.on_kind d.platform d.count d.components d.session t.value) p in (
      rw (v, r) (subst (λ (t : Effect). outcome_of (Ok o.result) (served_with d d.components t).device ≡ served_with d d.components t) e o.ensures.0),
      rw (v, r) (o.ensures.1 ∙ ap (λ (t : Effect). with_session_bytes (served_with d d.components t).device.session b) e),
    )
