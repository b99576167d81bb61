-- `table::bad_offer_place`: the entries that are left give the answer for all. Assumes nothing.
use mathlib.Core.Path.{refl, sym, ◌∙◌}
use native.Mathlib.Omega.{arith}
use Rattle.bundle_layout.specs.Rows.{bad_offer, row_b5}
use Rattle.bundle_layout.proofs.Places.{placed_some, placed_none}
use Rattle.bundle.proofs.table.Laws.{first_here, first_on, first_end}
use Rattle.bundle.proofs.table.bad_offer_place.Goals as goal

pub loop-i-init : goal.loop-i-init
unfolding row_b5
loop-i-init c = refl

pub returns-then-bad_offer : goal.returns-then-bad_offer
returns-then-bad_offer c =
    let l = c.loop-i in
    placed_some l.i _ (first_here _ bad_offer l.i (omega arith) (rw (← c.entry_at-e.ensures.0) (sym c.bad_offer.ensures ∙ c.if-bad_offer.true)) ∙ l.invariant)

pub loop-i-preserved : goal.loop-i-preserved
loop-i-preserved c =
    let l = c.loop-i in
    first_on _ bad_offer l.i (omega arith) (rw (← c.entry_at-e.ensures.0) (sym c.bad_offer.ensures ∙ c.if-bad_offer.false)) ∙ l.invariant

pub returns : goal.returns
returns c = let l = c.loop-i in placed_none _ (first_end _ bad_offer l.i (omega arith) ∙ l.invariant)
