-- The entry that a row names, and none where it names 0. Assumes nothing.
use mathlib.Core.Path.{◌≡◌, refl}
use mathlib.Core.Bool.{Bool, true, false, cond, not}
use Prim.Native.Nat.{ℕ, ◌+◌, ◌≤◌}
use native.Mathlib.Omega.{arith}
use borrow.Author.Tests.{eqb-true, ne_eqb}
use lib.Dec.{eqb}
use Rattle.std.specs.Prelude.{Option, Some, None}
use Rattle.bundle_layout.specs.Rows.{placed}

-- the one that is named
pub placed_at : (k m : ℕ) → 1 ≤ k → k ≡ m → Some k ≡ placed m
placed_at k m h e = rw (← e, ne_eqb k 0 (λ z. omega arith))

pub placed_some : (i k : ℕ) → i + 1 ≡ k → Some (i + 1) ≡ placed k
placed_some i k e = rw (← e, ne_eqb (i + 1) 0 (λ z. omega arith))

pub placed_none : (k : ℕ) → 0 ≡ k → None ≡ placed k
placed_none k e = rw (← e)

-- and what follows of it
pub some_placed : (o : Option ℕ) (p k : ℕ) → o ≡ placed k → o ≡ Some p → (p ≡ k) × (eqb k 0 ≡ false)
some_placed o p k e f = go (eqb k 0) refl (rw (← e) f) where
  go : (t : Bool) → eqb k 0 ≡ t → cond (not t) (Some k) None ≡ Some p → (p ≡ k) × (eqb k 0 ≡ false)
  go true q r = cc
  go false q r = (cc, q)

pub none_placed : (o : Option ℕ) (k : ℕ) → o ≡ placed k → o ≡ None → k ≡ 0
none_placed o k e f = go (eqb k 0) refl (rw (← e) f) where
  go : (t : Bool) → eqb k 0 ≡ t → cond (not t) (Some k) None ≡ None → k ≡ 0
  go true q r = eqb-true k 0 q
  go false q r = cc
