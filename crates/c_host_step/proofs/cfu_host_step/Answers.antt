-- `cfu_host_step` meets its contract: C1, C3, or the step. Assumes nothing.
use mathlib.Core.Path.{◌≡◌}
use lib.ListN.{length}
use Rattle.c_host_step.proofs.Laws.{step_refused, host_fits, step_served, step_row}
use borrow.Author.Rules.{rules}
use Rattle.wire.specs.Codes.{long_size}
use Rattle.c_host_step.proofs.cfu_host_step.Goals.{Then-number-ne-SERVED}
use Rattle.c_host_step.proofs.cfu_host_step.Goals as goal

pub returns-then-number-ne-SERVED : goal.returns-then-number-ne-SERVED
returns-then-number-ne-SERVED c =
    let t = (goal.at.returns-then-number-ne-SERVED c).Then-number-ne-SERVED in
    let n = t in
    let a = n.args in
    step_refused a.host.now a.packet.now a.bundle.now a.reply.now n.lent_number-number.result n.lent_number-number.ensures c.refused.result t.if-number-ne-SERVED.true c.refused.ensures

pub served_step-requires : goal.served_step-requires
served_step-requires c =
    let a = c.args in
    host_fits a.host.now a.packet.now a.bundle.now a.reply.now c.lent_number-number.result c.lent_number-number.ensures c.if-number-ne-SERVED.false

pub returns-in-Ok : goal.returns-in-Ok
returns-in-Ok c =
    let a = c.args in
    let m : length c.in-Ok.a.packet ≡ long_size = search rules in
    step_served a.host.now a.packet.now a.bundle.now a.reply.now c.lent_number-number.result c.lent_number-number.ensures c.read_host-h.result c.in-Ok.a c.served_step.result c.served_step.new.host c.copy.new.target
    c.if-number-ne-SERVED.false c.read_host-h.ensures c.in-Ok.ensures m c.copy.ensures c.served_step.ensures.0 c.served_step.ensures.1

pub returns-in-Err : goal.returns-in-Err
returns-in-Err c =
    let a = c.args in
    step_row a.host.now a.packet.now a.bundle.now a.reply.now c.lent_number-number.result c.lent_number-number.ensures c.read_host-h.result c.in-Err.r c.refused_step.result c.fill.new.s
    c.if-number-ne-SERVED.false c.read_host-h.ensures c.in-Err.ensures c.fill.ensures c.refused_step.ensures
