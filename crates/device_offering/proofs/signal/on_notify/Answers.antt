-- `signal::on_notify` meets its contract: idle, nothing owed, owed already. Assumes nothing.
use mathlib.Core.Path.{sym, ap, ap₂, ◌∙◌}
use mathlib.Core.Bool.{Bool}
use Rattle.device_offering.specs.Signal.{on_notify}
use Rattle.wire.proofs.Chain.{by}
use Rattle.device_offering.proofs.signal.on_notify.Goals as goal

pub returns-in-None : goal.returns-in-None
returns-in-None c =
    let a = c.args in
    c.silent.ensures ∙ rw c.owing-next.ensures
    (sym (ap₂ (on_notify a.session a.token) (by c.is_open.ensures c.if-is_open.true) c.in-None.is))

pub returns-in-Some : goal.returns-in-Some
returns-in-Some c =
    let a = c.args in
    c.plain_reply.ensures
    ∙ sym (ap₂ (on_notify a.session a.token) (by c.is_open.ensures c.if-is_open.true) c.in-Some.is)

pub returns-else-is_open : goal.returns-else-is_open
returns-else-is_open c =
    let a = c.args in
    c.plain_reply-else-is_open.ensures
    ∙ sym (ap (λ (b : Bool). on_notify a.session a.token b a.session.owed) (by c.is_open.ensures c.if-is_open.false))
