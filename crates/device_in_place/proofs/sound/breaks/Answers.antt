-- `sound::breaks` meets its contract: D1 in another order, each part as its helper says. Assumes nothing.
use Rattle.device_in_place.proofs.sound.Rows.{broken}
use Rattle.device_in_place.proofs.sound.breaks.Goals.{After-bad_count, After-component_at-component, After-open_slot-slot, After-owes_on, After-session_in-session, After-staging_too_long, After-wrong_previous, After-wrong_slot}
use Rattle.device_in_place.proofs.sound.breaks.Goals as goal

pub returns : goal.returns
returns c =
    let o = (goal.at.returns c).After-owes_on in
    let v = (goal.at.returns c).After-wrong_previous in
    let w = (goal.at.returns c).After-wrong_slot in
    let d = (goal.at.returns c).After-bad_count in
    let l = (goal.at.returns c).After-staging_too_long in
    let p = (goal.at.returns c).After-component_at-component in
    let s = (goal.at.returns c).After-open_slot-slot in
    let r = (goal.at.returns c).After-session_in-session in
    let n = r in
    let a = n.args in
    broken a.b.now a.n p.unwrap_or.result n.count_in-count.result l.staging_too_long.result d.bad_count.result w.wrong_slot.result v.wrong_previous.result o.owes_on.result c.some_unsound.result
    r.session_in-session.result s.open_slot-slot.result p.component_at-component.result n.count_in-count.ensures r.session_in-session.ensures s.open_slot-slot.ensures p.unwrap_or.ensures p.component_at-component.ensures
    l.staging_too_long.ensures d.bad_count.ensures w.wrong_slot.ensures v.wrong_previous.ensures o.owes_on.ensures c.some_unsound.ensures
