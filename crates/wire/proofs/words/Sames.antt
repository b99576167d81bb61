-- A comparison, byte by byte. Assumes nothing.
use mathlib.Core.Path.{◌≡◌, refl, ap, ap₂}
use mathlib.Core.Bool.{Bool, true, ◌&&◌}
use mathlib.Core.List.{List, [], ◌∷◌}
use Prim.Native.Nat.{ℕ}
use borrow.Author.Tests.{eq-eqb, eqb-true}
use lib.Dec.{eqb}
use lib.Pointwise.{pointwise}
use Rattle.wire.specs.Bytes.{same}
use Rattle.wire.proofs.Tests.{both}

-- a list is the same as itself
pub same_refl : (l : List ℕ) → same l l ≡ true
unfolding same
same_refl [] = refl
same_refl (x ∷ l) = rw (eq-eqb x x refl) (same_refl l)

-- lists that are the same are equal
pub same_eq : (a b : List ℕ) → same a b ≡ true → a ≡ b
unfolding same
same_eq [] [] h = refl
same_eq [] (y ∷ b) h = cc
same_eq (x ∷ a) [] h = cc
same_eq (x ∷ a) (y ∷ b) h =
    let k = both (eqb x y) (same a b) h in
    ap₂ (λ (u : ℕ) (v : List ℕ). u ∷ v) (eqb-true x y k.0) (same_eq a b k.1)

-- what `==` says of two slices
pub by_pairs : (a b : List ℕ) → pointwise eqb a b ≡ same a b
unfolding same
by_pairs [] [] = refl
by_pairs [] (y ∷ b) = refl
by_pairs (x ∷ a) [] = refl
by_pairs (x ∷ a) (y ∷ b) = ap (λ (t : Bool). eqb x y && t) (by_pairs a b)
