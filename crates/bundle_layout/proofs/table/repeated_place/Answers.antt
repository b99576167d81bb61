-- `table::repeated_place`: the entries that are left, after the ids of those before, give the answer for all. Assumes nothing.
use mathlib.Core.Path.{refl, sym, ◌∙◌}
use native.Mathlib.Omega.{arith}
use Rattle.bundle_layout.proofs.Entries.{ids_to, repeated_here, repeated_on, repeated_end}
use Rattle.bundle_layout.proofs.Places.{placed_some, placed_none}
use Rattle.bundle_layout.proofs.table.repeated_place.Goals as goal

pub loop-i-init : goal.loop-i-init
unfolding ids_to
loop-i-init c = refl

pub returns-then-is_used : goal.returns-then-is_used
returns-then-is_used c =
    let l = c.loop-i in
    placed_some l.i _
    (repeated_here _ _ l.i (omega arith) (rw (← c.id_at.ensures) (sym c.is_used.ensures ∙ c.if-is_used.true)) ∙ l.invariant)

pub loop-i-preserved : goal.loop-i-preserved
loop-i-preserved c =
    let l = c.loop-i in
    repeated_on _ _ l.i (omega arith) (rw (← c.id_at.ensures) (sym c.is_used.ensures ∙ c.if-is_used.false)) ∙ l.invariant

pub returns : goal.returns
returns c = let l = c.loop-i in placed_none _ (repeated_end _ _ l.i (omega arith) ∙ l.invariant)
