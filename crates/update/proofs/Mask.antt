-- A mask by its bits: a bit is set, the mask stays below its width, and its ones are counted. Assumes nothing.
use mathlib.Core.Path.{◌≡◌, refl, sym, ap, ap₂, ◌∙◌}
use mathlib.Core.Bool.{Bool, true, false, cond, ◌||◌}
use Prim.Native.Nat.{ℕ, zero, suc, ◌+◌, ◌/◌, ◌%◌, ◌^◌, ◌<◌}
use native.Mathlib.Nat.{pow-suc, pow-succ', div-div-eq-div-mul, div-one, not-suc-le-zero, le_of_suc-le-suc, mod-eq_of_lt, mod-lt, zero-div}
use native.Mathlib.Omega.{arith}
use borrow.Author.Tests.{eqb-true, eqb-false}
use lib.Count.{ones, ones_cat}
use lib.Dec.{eqb, eqb-zero-suc, eqb-suc-zero, eqb-suc-suc}
use lib.Pow.{pow_pos, mod-pow-add}
use Rattle.host_record.specs.Record.{has_bit, with_bit}

-- an empty mask has no bit
pub no_bit : (i : ℕ) → has_bit 0 i ≡ false
no_bit i = rw (zero-div (2 ^ i))

-- a clear bit is 0
clear : (m i : ℕ) → has_bit m i ≡ false → m / 2 ^ i % 2 ≡ 0
clear m i h = omega (arith, eqb-false (m / 2 ^ i % 2) 1 h)

-- the bit above: of the half
half : (i m : ℕ) → m / 2 ^ suc i ≡ m / 2 / 2 ^ i
half i m = ap (λ (x : ℕ). m / x) (pow-succ' 2 i) ∙ sym (div-div-eq-div-mul m 2 (2 ^ i))

-- a bit that is clear is so in the half
half_clear : (i m : ℕ) → m / 2 ^ suc i % 2 ≡ 0 → m / 2 / 2 ^ i % 2 ≡ 0
half_clear i m h = ap (λ (x : ℕ). x % 2) (sym (half i m)) ∙ h

-- bit j after bit i, which was clear, is set
set_bit : (i j m : ℕ) → m / 2 ^ i % 2 ≡ 0 → (m + 2 ^ i) / 2 ^ j % 2 ≡ cond (eqb j i) 1 (m / 2 ^ j % 2)
set_bit zero zero m h = omega (arith, div-one m, div-one (m + 1))
set_bit zero (suc j) m h =
    let e : (m + 1) / 2 ≡ m / 2 = omega (arith, div-one m) in
    rw eqb-suc-zero (ap (λ (x : ℕ). x % 2) (half j (m + 1) ∙ ap (λ (x : ℕ). x / 2 ^ j) e ∙ sym (half j m)))
set_bit (suc i) zero m h = rw eqb-zero-suc (omega (arith, div-one m, div-one (m + 2 ^ suc i), pow-suc 2 i))
set_bit (suc i) (suc j) m h =
    let e : (m + 2 ^ suc i) / 2 ≡ m / 2 + 2 ^ i = omega (arith, pow-suc 2 i) in
    rw (eqb-suc-suc, half j (m + 2 ^ suc i), half j m, e) (set_bit i j (m / 2) (half_clear i m h))

-- and the mask stays below its width
set_below : (i n m : ℕ) → m / 2 ^ i % 2 ≡ 0 → m < 2 ^ n → i < n → m + 2 ^ i < 2 ^ n
set_below i zero m h l k = absurd (not-suc-le-zero k)
set_below zero (suc n) m h l k = omega (arith, div-one m, pow-suc 2 n)
set_below (suc i) (suc n) m h l k =
    let e : m / 2 + 2 ^ i < 2 ^ n = set_below i n (m / 2) (half_clear i m h) (omega (arith, pow-suc 2 n)) (le_of_suc-le-suc k) in
    omega (arith, pow-suc 2 i, pow-suc 2 n)

-- the bits of a mask with bit i set
pub with_bit_lem : (m i j : ℕ) → has_bit (with_bit m i) j ≡ (eqb j i || has_bit m j)
with_bit_lem m i j = go (has_bit m i) refl
  where
    same : (t : Bool) → eqb j i ≡ t → has_bit m i ≡ true → has_bit m j ≡ (t || has_bit m j)
    same true e h = ap (has_bit m) (eqb-true j i e) ∙ h
    same false e h = refl

    other : (t : Bool) → eqb (cond t 1 (m / 2 ^ j % 2)) 1 ≡ (t || has_bit m j)
    other true = refl
    other false = refl

    go : (t : Bool) → has_bit m i ≡ t → has_bit (cond t m (m + 2 ^ i)) j ≡ (eqb j i || has_bit m j)
    go true h = same (eqb j i) refl h
    go false h = ap (λ (x : ℕ). eqb x 1) (set_bit i j m (clear m i h)) ∙ other (eqb j i)

-- a mask with bit i set is below its width
pub with_bit_below : (m i n : ℕ) → m < 2 ^ n → i < n → with_bit m i < 2 ^ n
with_bit_below m i n l k = go (has_bit m i) refl
  where
    go : (t : Bool) → has_bit m i ≡ t → cond t m (m + 2 ^ i) < 2 ^ n
    go true h = l
    go false h = set_below i n m (clear m i h) l k

-- the ones of the lowest n bits
unfoldable pub ones_below : (m n : ℕ) → ℕ
ones_below m zero = 0
ones_below m (suc n) = cond (has_bit m n) 1 0 + ones_below m n

-- the ones of one bit
one_bit : (m n : ℕ) → ones (m / 2 ^ n % 2) ≡ cond (has_bit m n) 1 0
unfolding ones
one_bit m n = go (m / 2 ^ n % 2) (mod-lt (m / 2 ^ n) (omega arith))
  where
    go : (x : ℕ) → x < 2 → ones x ≡ cond (eqb x 1) 1 0
    go zero l = refl
    go (suc zero) l = refl
    go (suc (suc x)) l = absurd (omega arith)

-- the ones of what the lowest n bits make
low_ones : (m n : ℕ) → ones (m % 2 ^ n) ≡ ones_below m n
unfolding ones_below ones
low_ones m zero = let e : m % 1 ≡ 0 = omega arith in ap ones e
low_ones m (suc n) =
    let e : suc n ≡ 1 + n = omega arith in
    ap (λ (x : ℕ). ones (m % 2 ^ x)) e ∙ ap ones (mod-pow-add m 1 n) ∙ ones_cat n (m / 2 ^ n % 2) (m % 2 ^ n) (mod-lt m (pow_pos n))
    ∙ ap₂ (λ (x y : ℕ). x + y) (one_bit m n) (low_ones m n)

-- the ones of a mask of n bits
pub ones_below_lem : (m n : ℕ) → m < 2 ^ n → ones m ≡ ones_below m n
ones_below_lem m n l = ap ones (sym (mod-eq_of_lt l)) ∙ low_ones m n
