-- `cfu_device_offer` meets its contract: C1, C3, or the answer. Assumes nothing.
use lib.ListN.{length}
use Rattle.c_device_packet.proofs.Laws.{offer_refused, replies_fit, offer_served}
use Rattle.c_device_packet.proofs.cfu_device_offer.Goals.{After-answered, After-offer_in_place, Else-number-ne-SERVED}
use Rattle.c_device_packet.proofs.cfu_device_offer.Goals as goal

pub returns-then-number-ne-SERVED : goal.returns-then-number-ne-SERVED
returns-then-number-ne-SERVED c =
    let n = c in
    let a = n.args in
    offer_refused a.device.now a.replies.now n.lent_number-number.result n.lent_number-number.ensures (length a.staging.now) a.report.now c.if-number-ne-SERVED.true

pub answered-requires : goal.answered-requires
answered-requires c =
    let t = (goal.at.answered-requires c).Else-number-ne-SERVED in
    let n = t in
    let a = n.args in replies_fit a.device.now a.replies.now n.lent_number-number.result n.lent_number-number.ensures t.if-number-ne-SERVED.false

pub returns : goal.returns
returns c =
    let y = (goal.at.returns c).After-answered in
    let x = (goal.at.returns c).After-offer_in_place in
    let t = (goal.at.returns c).Else-number-ne-SERVED in
    let n = t in
    let a = n.args in
    let o = x.offer_in_place.ensures in
    offer_served a.device.now a.replies.now n.lent_number-number.result n.lent_number-number.ensures (length a.staging.now) a.report.now y.answered.result x.offer_in_place.result _ _ t.if-number-ne-SERVED.false o.0 o.1 y.answered.ensures.0 y.answered.ensures.1
