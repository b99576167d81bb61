-- Row B7, from entry to entry. Assumes nothing.
use mathlib.Core.Path.{◌≡◌, refl}
use mathlib.Core.Bool.{Bool, true, false, cond}
use mathlib.Core.List.{List, [], ◌∷◌}
use Prim.Native.Nat.{ℕ, zero, suc, ◌+◌, ◌-◌, ◌≤◌, ◌<◌}
use native.Mathlib.Nat.{not-suc-le-zero, le_of_suc-le-suc}
use native.Mathlib.Numerals.{add-one}
use native.Mathlib.Omega.{arith}
use borrow.Author.Tests.{eqb-true}
use lib.Dec.{eqb}
use lib.ListN.{length, get_or, drop}
use Rattle.bundle_layout.specs.Layout.{count_in, table_end, entries_in, offset_in, length_in}
use Rattle.bundle_layout.specs.Rows.{gap, row_b7}
use Rattle.bundle.proofs.table.Laws.{entry_at, length_entries, entry_is, from_here, from_end}

module _ (b : List ℕ) (size at i : ℕ) where
  pub gap_here : i < count_in b → eqb (offset_in (entry_at b i)) at ≡ false → i + 1 ≡ gap size at (i + 1) (drop i (entries_in b))
  unfolding gap
  gap_here h e = rw (from_here b i h, e)

  pub gap_on : i < count_in b → eqb (offset_in (entry_at b i)) at ≡ true
      → gap size (offset_in (entry_at b i) + length_in (entry_at b i)) (i + 1 + 1) (drop (i + 1) (entries_in b)) ≡ gap size at (i + 1) (drop i (entries_in b))
  unfolding gap
  gap_on h e = rw (from_here b i h, e, add-one (i + 1))

  pub gap_end : count_in b ≡ i → cond (eqb at size) 0 (count_in b) ≡ gap size at (i + 1) (drop i (entries_in b))
  unfolding gap
  gap_end h = let e : i + 1 - 1 ≡ count_in b = omega arith in let l : count_in b ≤ i = omega arith in rw (from_end b i l, e)

-- where row B7 says nothing, each body ends within the file

gap_at : (size at k : ℕ) (es : List (List ℕ)) → 1 < k → gap size at k es ≡ 0 → at ≤ size
unfolding gap
gap_at size at k [] l h = go (eqb at size) refl where
  go : (x : Bool) → eqb at size ≡ x → at ≤ size
  go true q = let e = eqb-true at size q in omega arith
  go false q = let w : k - 1 ≡ 0 = rw q at h in absurd (omega arith)
gap_at size at k (e ∷ es) l h = go (eqb (offset_in e) at) refl (λ q. gap_at size (offset_in e + length_in e) (suc k) es (omega arith) q) where
  go : (x : Bool) → eqb (offset_in e) at ≡ x → (gap size (offset_in e + length_in e) (suc k) es ≡ 0 → offset_in e + length_in e ≤ size) → at ≤ size
  go true q ih = let w = eqb-true (offset_in e) at q in let m = ih (rw q at h) in omega arith
  go false q ih = let w : k ≡ 0 = rw q at h in absurd (omega arith)

gap_inside : (size at k : ℕ) (es : List (List ℕ)) → 0 < k → gap size at k es ≡ 0 → (i : ℕ) → i < length es → offset_in (get_or es i []) + length_in (get_or es i []) ≤ size
unfolding gap
gap_inside size at k [] z h i l = absurd (not-suc-le-zero l)
gap_inside size at k (e ∷ es) z h i l = go (eqb (offset_in e) at) refl i l (λ q j m. gap_inside size (offset_in e + length_in e) (suc k) es (omega arith) q j m) where
  go : (x : Bool) → eqb (offset_in e) at ≡ x → (j : ℕ) → j < suc (length es)
      → (gap size (offset_in e + length_in e) (suc k) es ≡ 0 → (m : ℕ) → m < length es → offset_in (get_or es m []) + length_in (get_or es m []) ≤ size)
      → offset_in (get_or (e ∷ es) j []) + length_in (get_or (e ∷ es) j []) ≤ size
  go true q zero l ih = gap_at size (offset_in e + length_in e) (suc k) es (omega arith) (rw q at h)
  go true q (suc j) l ih = ih (rw q at h) j (le_of_suc-le-suc l)
  go false q j l ih = let w : k ≡ 0 = rw q at h in absurd (omega arith)

pub bodies_inside : (b : List ℕ) → row_b7 b ≡ 0 → (i : ℕ) → i < count_in b → offset_in (entry_at b i) + length_in (entry_at b i) ≤ length b
unfolding row_b7
bodies_inside b h i l = rw (← entry_is b i l) (gap_inside (length b) (table_end (count_in b)) 1 (entries_in b) (omega arith) h i (rw (length_entries b) l))
