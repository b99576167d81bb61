-- `Device::offer` meets its contract: D1 to D3, or the answer by kind. Assumes nothing.
use mathlib.Core.Path.{◌≡◌, refl, sym, ap, ◌∙◌}
use Rattle.std.proofs.lemmas.Result.{err_from_is_err_and}
use borrow.Author.Tests.{eq-eqb}
use Rattle.wire.specs.Rows as wire
use Rattle.wire.specs.Rows.{Told}
use Rattle.wire_offer.specs.Kind.{Kind, kind_in, read_of, told_read}
use Rattle.device_offering.proofs.packet.Laws.{read_packet}
use Rattle.device.specs.Refusals.{served_with}
use Rattle.device.specs.Offer.{on_kind, offer_entry}
use Rattle.device.proofs.Passes.{serves}
use Rattle.device.proofs.record.Device.offer.Goals as goal

pub returns-in_err-refusal : goal.returns-in_err-refusal
unfolding offer_entry
returns-in_err-refusal c =
    let p = err_from_is_err_and c.from_residual.result c.from_residual.ensures.1 in
    rw (p.1, p.2, ← c.in_err-refusal.ensures) refl

-- no row refuses the call, so the report is read as what it is
pub returns : goal.returns
unfolding offer_entry read_of
returns c =
    let d = c.args.self in
    let r = sym c.in_ok-refusal.ensures in
    let p : told_read c.read_offer_packet.result ≡ record { row = wire.served; value = kind_in c.args.report.now }
    = c.read_offer_packet.ensures ∙ rw (eq-eqb _ _ (serves 16 _ _ _ r).report) refl in
    rw r
    (c.on_packet.ensures
    ∙ ap (served_with d d.components) (read_packet d.platform d.count d.components d.session c.read_offer_packet.result (ap (λ (t : Told Kind). t.row) p))
    ∙ ap (λ (t : Told Kind). on_kind d t.value) p)
