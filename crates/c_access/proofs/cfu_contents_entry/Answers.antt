-- `cfu_contents_entry` meets its contract: C1, the row that the contents keep, C4, or what is told of the body. Assumes nothing.
use mathlib.Core.Path.{ap, ◌∙◌}
use native.Mathlib.Omega.{arith}
use Rattle.wire.proofs.Chain.{by}
use Rattle.c_access.specs.Access.{body_told, entry_call}
use Rattle.c_access.proofs.Laws.{row_told, no_entry_told, entry_here, body_tells}
use Rattle.c_access.proofs.cfu_contents_entry.Goals.{After-count_in, After-row_in-row, Else-count_in-place, Else-row-ne0, Then-row-ne0}
use Rattle.c_access.proofs.cfu_contents_entry.Goals as goal

pub returns-then-not-are_contents : goal.returns-then-not-are_contents
unfolding entry_call
returns-then-not-are_contents c = rw (by c.are_contents.ensures c.if-not-are_contents.true) c.no_entry.ensures

pub returns-then-row-ne0 : goal.returns-then-row-ne0
returns-then-row-ne0 c =
    let t = (goal.at.returns-then-row-ne0 c).Then-row-ne0 in
    let r = (goal.at.returns-then-row-ne0 c).After-row_in-row in
    let s = r in
    let a = s.args in
    c.no_entry-then-row-ne0.ensures
    ∙ row_told a.contents.now a.place (by s.are_contents.ensures s.if-not-are_contents.false) r.row_in-row.result c.entry_in.result r.row_in-row.ensures c.entry_in.ensures t.if-row-ne0.true

pub returns-then-count_in-place : goal.returns-then-count_in-place
returns-then-count_in-place c =
    let n = (goal.at.returns-then-count_in-place c).After-count_in in
    let t = (goal.at.returns-then-count_in-place c).Else-row-ne0 in
    let r = (goal.at.returns-then-count_in-place c).After-row_in-row in
    let s = r in
    let a = s.args in
    c.no_entry-then-count_in-place.ensures
    ∙ no_entry_told a.contents.now a.place (by s.are_contents.ensures s.if-not-are_contents.false) r.row_in-row.result n.count_in.result r.row_in-row.ensures t.if-row-ne0.false n.count_in.ensures (omega (arith, c.if-count_in-place.true))

pub body_told-requires : goal.body_told-requires
body_told-requires c =
    let a = c.args in
    body_tells a.contents.now a.place c.read_body.result (λ i. (c.type_inv.contents i).fits) c.read_body.ensures

pub returns : goal.returns
returns c =
    let u = (goal.at.returns c).Else-count_in-place in
    let n = (goal.at.returns c).After-count_in in
    let t = (goal.at.returns c).Else-row-ne0 in
    let r = (goal.at.returns c).After-row_in-row in
    let s = r in
    let a = s.args in
    c.body_told.ensures ∙ ap body_told c.read_body.ensures
    ∙ entry_here a.contents.now a.place (by s.are_contents.ensures s.if-not-are_contents.false) r.row_in-row.result n.count_in.result r.row_in-row.ensures t.if-row-ne0.false n.count_in.ensures u.if-count_in-place.false
