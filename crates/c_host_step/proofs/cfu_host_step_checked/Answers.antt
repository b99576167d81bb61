-- `cfu_host_step_checked` meets its contract: C1, C3, or the step over contents. Assumes nothing.
use mathlib.Core.Path.{◌≡◌, ◌∙◌}
use lib.ListN.{length}
use Rattle.c_host_step.proofs.Laws.{checked_refused, checked_fit, checked_left}
use borrow.Author.Rules.{rules}
use Rattle.c_host_step.proofs.cfu_host_step_checked.Goals as goal

pub returns-then-number-ne-SERVED : goal.returns-then-number-ne-SERVED
returns-then-number-ne-SERVED c =
    let a = c.args in
    checked_refused a.host.now a.contents.now a.packet.now a.bundle.now a.reply.now c.are_contents.result c.lent_number-number.result c.are_contents.ensures c.lent_number-number.ensures c.refused.result c.if-number-ne-SERVED.true c.refused.ensures

pub inner_over-stepped-requires : goal.inner_over-stepped-requires
inner_over-stepped-requires c =
    let a = c.args in
    let f = checked_fit a.host.now a.contents.now a.packet.now a.bundle.now a.reply.now c.are_contents.result c.lent_number-number.result c.are_contents.ensures c.lent_number-number.ensures c.if-number-ne-SERVED.false in (f.1, f.2)

pub kept-requires : goal.kept-requires
kept-requires c =
    let a = c.args in
    (checked_fit a.host.now a.contents.now a.packet.now a.bundle.now a.reply.now c.are_contents.result c.lent_number-number.result c.are_contents.ensures c.lent_number-number.ensures c.if-number-ne-SERVED.false).0

pub returns : goal.returns
returns c =
    let a = c.args in
    let e = c.kept.ensures in
    let w : length c.inner_over-stepped.new.packet ≡ length a.packet.now = search rules in
    let f = checked_fit a.host.now a.contents.now a.packet.now a.bundle.now a.reply.now c.are_contents.result c.lent_number-number.result c.are_contents.ensures c.lent_number-number.ensures c.if-number-ne-SERVED.false in
    checked_left a.host.now a.contents.now a.packet.now a.bundle.now a.reply.now c.are_contents.result c.lent_number-number.result c.are_contents.ensures c.lent_number-number.ensures _ _ c.inner_over-stepped.result c.kept.result _ _ _
    c.if-number-ne-SERVED.false c.inner_over-stepped.ensures (w ∙ f.2) e.0 e.1 e.2
