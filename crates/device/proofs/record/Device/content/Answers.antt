-- `Device::content` meets its contract: D1 to D3, or the answer to a block. Assumes nothing.
use mathlib.Core.Path.{sym}
use Rattle.std.proofs.lemmas.Result.{err_from_is_err_and}
use Rattle.device.specs.Content.{content_entry, content_staging}
use Rattle.device.proofs.record.Device.content.Goals as goal

pub returns-in_err-refusal : goal.returns-in_err-refusal
unfolding content_entry content_staging
returns-in_err-refusal c =
    let p = err_from_is_err_and c.from_residual.result c.from_residual.ensures.1 in
    let e = c.in_err-refusal.ensures in
    (rw (p.1, p.2, ← e), rw (← e))

pub returns : goal.returns
unfolding content_entry content_staging
returns c =
    let r = sym c.in_ok-refusal.ensures in (rw r c.on_content.ensures.0, rw r c.on_content.ensures.1)
