-- `chain::gap_place`: the entries that are left, from where the body before ends, give the answer for all. Assumes nothing.
use mathlib.Core.Path.{◌≡◌, ap, ◌∙◌}
use native.Mathlib.Omega.{arith}
use borrow.Author.Tests.{eq-eqb, ne_eqb}
use lib.ListN.{length}
use Rattle.bundle_layout.specs.Layout.{count_in, offset_in, length_in}
use Rattle.bundle_layout.specs.Rows.{row_b7}
use Rattle.bundle_layout.proofs.Places.{placed_at, placed_some, placed_none}
use Rattle.bundle.proofs.table.Laws.{entry_at}
use Rattle.bundle.proofs.chain.Laws.{gap_here, gap_on, gap_end}
use Rattle.bundle.proofs.chain.gap_place.Goals.{After-length_in, After-offset_in-offset}
use Rattle.bundle.proofs.chain.gap_place.Goals as goal

-- where the body of this turn's entry starts, and its length
starts : (c : After-offset_in-offset) → c.offset_in-offset.result ≡ offset_in (entry_at c.args.b.now c.loop-i.i)
starts c = c.offset_in-offset.ensures ∙ ap offset_in c.entry_at-e.ensures.0

ends : (c : After-length_in) → c.length_in.result ≡ length_in (entry_at c.args.b.now c.loop-i.i)
ends c = c.length_in.ensures ∙ ap length_in c.entry_at-e.ensures.0

pub loop-i-init : goal.loop-i-init
unfolding row_b7
loop-i-init c = rw c.table_end-at.ensures

pub returns-then-offset-at : goal.returns-then-offset-at
returns-then-offset-at c =
    let l = c.loop-i in
    placed_some l.i _
    (gap_here _ _ l.at l.i (omega arith) (rw (← starts (goal.at.returns-then-offset-at c).After-offset_in-offset) (ne_eqb _ _ c.if-offset-at.true)) ∙ l.invariant)

pub loop-i-preserved : goal.loop-i-preserved
loop-i-preserved c =
    let l = c.loop-i in
    let s = starts (goal.at.loop-i-preserved c).After-offset_in-offset in
    let z = ends c in
    rw (s, z) (gap_on _ _ l.at l.i (omega arith) (rw (← s) (eq-eqb _ _ c.if-offset-at.false))) ∙ l.invariant

pub returns-then-at-b : goal.returns-then-at-b
returns-then-at-b c =
    let l = c.loop-i in
    let b = c.args.b.now in
    placed_none _ ((rw (eq-eqb _ _ c.if-at-b.true) at (gap_end b (length b) l.at l.i (omega arith))) ∙ l.invariant)

pub returns-else-at-b : goal.returns-else-at-b
returns-else-at-b c =
    let l = c.loop-i in
    let b = c.args.b.now in
    placed_at (count_in b) _ c.requires.0 ((rw (ne_eqb _ _ c.if-at-b.false) at (gap_end b (length b) l.at l.i (omega arith))) ∙ l.invariant)
