-- `step::step`: the inner step over what the check answers, with the cursor that a walk finds. Assumes nothing.
use mathlib.Core.Path.{◌≡◌, ap, ◌∙◌}
use Prim.Native.Nat.{ℕ}
use Rattle.std.specs.Prelude.{Ok}
use Rattle.bundle.specs.Contents.{Contents, told_checked}
use Rattle.host_record.specs.declared.fits.Body.{Body}
use Rattle.host_record.specs.Fits.{body_of, in_hand}
use Rattle.std.proofs.lemmas.Result.{err_from_is_err_and}
use Rattle.host_packet.specs.Made.{InnerStep, told_inner}
use Rattle.host.specs.Step.{step_of}
use Rattle.host.specs.Inner.{inner_of, inner_for, cursor_at, cursor_of}
use Rattle.host.proofs.step.Laws.{step_is_inner, bundle_step, refused_step}
use Rattle.host.proofs.step.step.Goals.{After-body_at-hand, After-cursor_for-cursor, After-inner_step}
use Rattle.host.proofs.step.step.Goals as goal

-- the body in hand is that of the contents
hand_is : (c : After-body_at-hand) → c.body_at-hand.result ≡ body_of (told_checked (Ok c.in_ok-c.c)) (in_hand c.args.host.stage)
hand_is c = c.body_at-hand.ensures ∙ ap (body_of (told_checked (Ok c.in_ok-c.c))) c.in_hand.ensures

-- the inner step is the step
inner_is : (c : After-inner_step) → let a = c.args in
    (told_inner a.host c.cursor_for-cursor.result c.inner_step.result c.inner_step.new.packet).step ≡ step_of a.bundle.now a.host a.reply.now
inner_is c =
    let f = (goal.at.After-inner_step c).After-cursor_for-cursor in
    let g = (goal.at.After-inner_step c).After-body_at-hand in
    let k = g in
    let a = k.args in
    let r = told_checked (Ok k.in_ok-c.c) in
    ap (λ (x : InnerStep). x.step) c.inner_step.ensures
    ∙ ap (λ (n : ℕ). (inner_of a.bundle.now r.row r.count g.body_at-hand.result n a.host a.reply.now).step) f.cursor_for-cursor.ensures
    ∙ ap (λ (y : Body). (inner_of a.bundle.now r.row r.count y (cursor_at a.bundle.now y a.host.stage) a.host a.reply.now).step) (hand_is g)
    ∙ ap (λ (x : Contents). (inner_for a.bundle.now x (cursor_of a.bundle.now x a.host.stage) a.host a.reply.now).step) k.in_ok-c.ensures
    ∙ step_is_inner a.bundle.now a.host a.reply.now (λ i. (c.type_inv.bundle i).fits)

pub returns : goal.returns
returns c = rw c.in_ok-s.was at (inner_is (goal.at.returns c).After-inner_step)

pub returns-in_err-c : goal.returns-in_err-c
returns-in_err-c c =
    let a = c.args in
    let p = err_from_is_err_and c.from_residual.result c.from_residual.ensures.1 in
    rw (p.1, p.2) (bundle_step a.bundle.now a.host a.reply.now c.in_err-c.field-0.0 c.in_err-c.ensures)

pub returns-in_err-s : goal.returns-in_err-s
returns-in_err-s c =
    let a = c.args in
    let p = err_from_is_err_and c.from_residual-in_err-s.result c.from_residual-in_err-s.ensures.1 in
    let k = rw c.in_err-s.was at (inner_is (goal.at.returns-in_err-s c).After-inner_step) in
    rw (p.1, p.2) (refused_step a.bundle.now a.host a.reply.now _ _ k)
