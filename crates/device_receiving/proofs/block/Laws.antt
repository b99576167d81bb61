-- How many bytes of a block's data count. Assumes nothing.
use Rattle.std.proofs.Common.{◌≡◌, ℕ, zero, suc, min, List, [], ◌∷◌, length, take, ap}
use native.Mathlib.Nat.{zero-min, min-zero, suc-min-suc}

-- no more of it counts than there is
pub counts : (n : ℕ) (d : List ℕ) → take (min n (length d)) d ≡ take n d
counts zero d = rw zero-min
counts (suc n) [] = rw min-zero
counts (suc n) (x ∷ d) = rw suc-min-suc (ap (λ (t : List ℕ). x ∷ t) (counts n d))
