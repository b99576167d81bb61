-- What is known where a test holds. Assumes nothing.
use mathlib.Core.Path.{◌≡◌, refl}
use mathlib.Core.Bool.{Bool, true, false, not, cond, ◌&&◌, ◌||◌}
use mathlib.Core.List.{List, [], ◌∷◌}
use Prim.Native.Nat.{ℕ, zero, suc}
use native.Mathlib.Omega.{arith}
use borrow.Author.Tests.{leb-false, eqb-true, not-false}
use lib.Dec.{leb, eqb}
use Rattle.wire.specs.Bytes.{Bytes}
use Rattle.wire.specs.Checks.{any}
use Rattle.wire.specs.Rows.{served, row_p, Told}

-- both parts of a conjunction
pub both : (a b : Bool) → (a && b) ≡ true → (a ≡ true) × (b ≡ true)
both true b h = (refl, h)
both false b h = let z : ◌≡◌ {A = ℕ} 0 1 = cc in absurd (omega arith)

-- the test, where its answer is served and not a row of P
pub served_true : {A : Type 0} (b : Bool) (x y : A) (n : ℕ) → (cond {A = Told A} b (record { row = served; value = x }) (record { row = row_p n; value = y })).row ≡ served → b ≡ true
served_true true x y n h = refl
served_true false x y n h = cc

-- neither part of a disjunction
pub neither : (a b : Bool) → (a || b) ≡ false → (a ≡ false) × (b ≡ false)
neither false b h = (refl, h)
neither true b h = let z : ◌≡◌ {A = ℕ} 0 1 = cc in absurd (omega arith)

-- a number that is not unlike n is n
pub equal : (m n : ℕ) → not (eqb m n) ≡ false → m ≡ n
equal m n h = eqb-true m n (not-false (eqb m n) h)

-- a list of which no element is tested to be over a byte
pub all_bytes : (l : List ℕ) → any (leb 256) l ≡ false → Bytes l
unfolding any
all_bytes [] h i = omega arith
all_bytes (x ∷ l) h zero = leb-false 256 x (neither (leb 256 x) (any (leb 256) l) h).0
all_bytes (x ∷ l) h (suc i) = all_bytes l (neither (leb 256 x) (any (leb 256) l) h).1 i
