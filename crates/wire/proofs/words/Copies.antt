-- A copy, byte by byte. Assumes nothing.
use mathlib.Core.Path.{◌≡◌, refl, ap, ◌∙◌}
use mathlib.Core.List.{List, [], ◌∷◌, ◌++◌, append-nil}
use Prim.Native.Nat.{ℕ, zero, suc, ◌+◌, ◌<◌}
use native.Mathlib.Nat.{not-suc-le-zero, le_of_suc-le-suc}
use native.Mathlib.Numerals.{add-one}
use borrow.Author.Tests.{eq-eqb}
use lib.ListN.{length, get_or, set, take, drop}
use lib.Seq.{drop-length, take-length}
use Rattle.wire.specs.Bytes.{copy_of}

copy_suc : (n : ℕ) (s d : List ℕ) → n < length s → n < length d → set (take n s ++ drop n d) n (get_or s n 0) ≡ take (suc n) s ++ drop (suc n) d
copy_suc n [] d h k = absurd (not-suc-le-zero h)
copy_suc n (y ∷ s) [] h k = absurd (not-suc-le-zero k)
copy_suc zero (y ∷ s) (x ∷ d) h k = refl
copy_suc (suc n) (y ∷ s) (x ∷ d) h k = ap (λ (t : List ℕ). y ∷ t) (copy_suc n s d (le_of_suc-le-suc h) (le_of_suc-le-suc k))

-- one byte more
pub copy_more : (n : ℕ) (s d : List ℕ) → n < length s → n < length d → set (take n s ++ drop n d) n (get_or s n 0) ≡ take (n + 1) s ++ drop (n + 1) d
copy_more n s d h k = rw add-one (copy_suc n s d h k)

-- all of them
pub copied : (s d l : List ℕ) (i : ℕ) → l ≡ take i s ++ drop i d → i ≡ length d → length d ≡ length s → l ≡ s
copied s d l i e p q =
    e ∙ ap (λ (k : ℕ). take k s ++ drop k d) p ∙ ap (λ (t : List ℕ). take (length d) s ++ t) (drop-length d) ∙ append-nil _
    ∙ ap (λ (k : ℕ). take k s) q ∙ take-length s

-- between equally long ones a copy leaves the source
pub copy_same : (d s : List ℕ) → length d ≡ length s → copy_of d s ≡ s
copy_same d s h = rw (eq-eqb (length d) (length s) h)

pub copied_same : (x d s : List ℕ) → x ≡ copy_of d s → length d ≡ length s → x ≡ s
copied_same x d s e h = e ∙ copy_same d s h
