-- `content::content_in_place` meets its contract: D1 to D3, or the answer to a block. Assumes nothing.
use mathlib.Core.Path.{sym, ◌∙◌}
use Rattle.std.proofs.lemmas.Result.{err_from_is_err_and}
use Rattle.device_session.specs.Stage.{at_slot}
use Rattle.device_receiving.specs.Receive.{on_content}
use Rattle.device.specs.Content.{session_component, content_entry, content_staging}
use Rattle.device_bytes.specs.Layout.{device_in, with_session_bytes}
use Rattle.device_bytes.proofs.Flags.{record_sized}
use Rattle.device_in_place.specs.Inside.{content_by}
use Rattle.device_in_place.proofs.Stands.{stands}
use Rattle.device_bytes.proofs.Fields.{full_in, same_slot}
use Rattle.device_in_place.proofs.sound.Rows.{read_in}
use Rattle.device_in_place.proofs.content.content_in_place.Goals as goal

pub returns-in_err-refusal_in : goal.returns-in_err-refusal_in
unfolding content_entry content_staging
returns-in_err-refusal_in c =
    let p = err_from_is_err_and c.from_residual.result c.from_residual.ensures.1 in
    let e = c.in_err-refusal_in.ensures in
    (rw (p.1, p.2, ← e), rw (← e), rw (← e))

-- no row refuses the call, so the bytes are a record
pub on_content-requires : goal.on_content-requires
on_content-requires c = record_sized _ (stands 60 c.args.bytes.now _ _ (sym c.in_ok-refusal_in.ensures))

pub returns : goal.returns
unfolding content_entry content_staging
returns c =
    let a = c.args in
    let b = a.bytes.now in
    let d = device_in b in
    let q = sym c.in_ok-refusal_in.ensures in
    let v = read_in b (stands 60 b _ _ q) in
    let r = rw v at q in
    let t = on_content (session_component d) d.session a.report.now a.staging.now in
    let left = with_session_bytes (content_by b a.staging.now a.report.now).device.session b in
    let o = c.on_content.ensures in
    (rw (v, r) o.0, rw (v, r) (o.1 ∙ sym (same_slot (at_slot d.session.stage) t.component d.components left (full_in b))), rw (v, r) o.2)
