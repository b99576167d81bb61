-- `inner::moved`: the step of what is written. Assumes nothing.
use mathlib.Core.Path.{◌≡◌, refl, ap, ◌∙◌}
use Rattle.std.specs.Prelude.{Option, Some, None, Result, Err, ok_or}
use Rattle.std.specs.Result.{result_ok}
use Rattle.std.proofs.lemmas.Result.{err_from_is_err_and}
use borrow.Author.Rules.{rules}
use lib.ListN.{length}
use Rattle.host_packet.specs.Packet.{packet_size}
use Rattle.host_packet.specs.declared.answer.StepRefusal.{StepRefusal}
use Rattle.host_packet.specs.declared.answer.StepRefusal.TheVariants.{N1}
use Rattle.host_packet.specs.declared.answer.Written.{Written}
use Rattle.host_packet.specs.Made.{Laid, laid_by, laid_of, written_of, step_of_laid}
use Rattle.host.proofs.inner.moved.Goals.{After-written}
use Rattle.host.proofs.inner.moved.Goals as goal

-- what is written into 60 bytes
laid : (c : After-written) → let a = c.args in
    laid_by a.cursor c.written.result c.written.new.packet ≡ laid_of a.b.now a.hand a.cursor a.m.host.token a.m.action
unfolding written_of
laid c =
    let n : length c.args.packet.now ≡ packet_size = search rules in
    rw n at c.written.ensures

-- where nothing was written the row is N1
lacked : (w : Option Written) (r : Result Written StepRefusal) (e : StepRefusal) → r ≡ ok_or w N1 → r ≡ Err e → (w ≡ None) × (e ≡ N1)
lacked None r e a b = (refl, cc)
lacked (Some x) r e a b = cc

pub returns : goal.returns
returns c = λ h.
    let a = c.args in
    let n : c.written.result ≡ Some c.in_ok-w.w = c.ok_or.ensures.ok_part ∙ ap result_ok c.in_ok-w.was in
    rw n at (ap (λ (l : Laid). step_of_laid l h a.m.host) (laid (goal.at.returns c).After-written))

pub returns-in_err-w : goal.returns-in_err-w
returns-in_err-w c = λ h.
    let a = c.args in
    let p = err_from_is_err_and c.from_residual.result c.from_residual.ensures.1 in
    let k = lacked c.written.result c.ok_or.result c.in_err-w.field-0.0 c.ok_or.ensures.value c.in_err-w.was in
    let r : c.from_residual.result ≡ Err N1 = cc in
    rw r (rw k.0 at (ap (λ (l : Laid). step_of_laid l h a.m.host) (laid (goal.at.returns-in_err-w c).After-written)))
