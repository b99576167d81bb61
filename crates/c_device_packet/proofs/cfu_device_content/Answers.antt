-- `cfu_device_content` meets its contract: C1, C3, or the answer. Assumes nothing.
use Rattle.c_device_packet.proofs.Laws.{content_refused, replies_fit, content_served, staging_served}
use Rattle.c_device_packet.proofs.cfu_device_content.Goals.{After-answered, After-content_in_place, Else-number-ne-SERVED}
use Rattle.c_device_packet.proofs.cfu_device_content.Goals as goal

pub returns-then-number-ne-SERVED : goal.returns-then-number-ne-SERVED
returns-then-number-ne-SERVED c =
    let n = c in
    let a = n.args in
    content_refused a.device.now a.replies.now n.lent_number-number.result n.lent_number-number.ensures a.staging.now a.report.now c.if-number-ne-SERVED.true

pub answered-requires : goal.answered-requires
answered-requires c =
    let t = (goal.at.answered-requires c).Else-number-ne-SERVED in
    let n = t in
    let a = n.args in replies_fit a.device.now a.replies.now n.lent_number-number.result n.lent_number-number.ensures t.if-number-ne-SERVED.false

pub returns : goal.returns
returns c =
    let y = (goal.at.returns c).After-answered in
    let x = (goal.at.returns c).After-content_in_place in
    let t = (goal.at.returns c).Else-number-ne-SERVED in
    let n = t in
    let a = n.args in
    let o = x.content_in_place.ensures in (
      content_served a.device.now a.replies.now n.lent_number-number.result n.lent_number-number.ensures a.staging.now a.report.now y.answered.result x.content_in_place.result _ _ t.if-number-ne-SERVED.false o.0 o.1 y.answered.ensures.0 y.answered.ensures.1,
      staging_served a.device.now a.replies.now n.lent_number-number.result n.lent_number-number.ensures a.staging.now a.report.now _ t.if-number-ne-SERVED.false o.2,
    )
