-- Words in bytes read back, at every width. Assumes nothing.
use mathlib.Core.Path.{◌≡◌, refl, ap, ap₂, ◌∙◌}
use mathlib.Core.List.{List, ◌∷◌, ◌++◌}
use Prim.Native.Nat.{ℕ, zero, suc, ◌+◌, ◌*◌, ◌/◌, ◌%◌, ◌^◌, ◌<◌, ◌≤◌}
use native.Mathlib.Omega.{arith}
use lib.ListN.{length, get_or, drop}
use lib.Seq.{drop-cons}
use Rattle.wire.specs.Bytes.{Bytes, number, bytes_of, bytes_at}

-- a number that fits k bytes is read back
pub round : (k v : ℕ) → v < 256 ^ k → number (bytes_of k v) ≡ v
round zero v h = omega arith
round (suc k) v h =
    let l : v / 256 < 256 ^ k = omega arith in
    let e = round k (v / 256) l in omega arith

-- bytes that were read are written again
pub back : (k i : ℕ) (p : List ℕ) → Bytes p → bytes_of k (number (bytes_at k i p)) ≡ bytes_at k i p
back zero i p h = refl
back (suc k) i p h =
    let n = number (bytes_at k (suc i) p) in
    let b = get_or p i 0 in
    let l : b < 256 = h i in
    let e : (b + 256 * n) % 256 ≡ b = omega arith in
    let f : (b + 256 * n) / 256 ≡ n = omega arith in
    ap₂ (λ (x : ℕ) (y : List ℕ). x ∷ y) e (ap (bytes_of k) f ∙ back k (suc i) p h)

-- what follows place i is the k bytes up to place j, and what follows those
splits : (k i j : ℕ) (p : List ℕ) → j ≡ i + k → j ≤ length p → drop i p ≡ bytes_at k i p ++ drop j p
splits zero i j p e h = let q : i ≡ j = omega arith in ap (λ (n : ℕ). drop n p) q
splits (suc k) i j p e h = drop-cons p i 0 (omega arith) ∙ ap (λ (t : List ℕ). get_or p i 0 ∷ t) (splits k (suc i) j p (omega arith) h)

-- a packet is its first k bytes, each by its place, and the rest
pub split : (k : ℕ) (p : List ℕ) → k ≤ length p → p ≡ bytes_at k 0 p ++ drop k p
split k p h = splits k 0 k p (omega arith) h
