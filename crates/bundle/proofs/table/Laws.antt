-- The entries of a bundle, from one to the next, and the rows that look at each. Assumes nothing.
use mathlib.Core.Path.{◌≡◌, refl, ap, ◌∙◌}
use mathlib.Core.Bool.{Bool, true, false, cond}
use mathlib.Core.List.{List, [], ◌∷◌, ◌++◌}
use Prim.Native.Nat.{ℕ, zero, suc, ◌+◌, ◌*◌, ◌≤◌, ◌<◌}
use native.Mathlib.Nat.{not-suc-le-zero, le_of_suc-le-suc}
use native.Mathlib.Numerals.{add-one}
use native.Mathlib.Omega.{arith}
use lib.ListN.{length, get_or, take, drop, length-take, length-drop, drop_of_length-le}
use lib.Seq.{take-suc, drop-cons, drop-drop}
use Rattle.wire.proofs.Pieces.{read_sized, read_at}
use Rattle.bundle_layout.specs.Layout.{head_size, entry_size, count_in, table_end, entries_from, entries_in}
use Rattle.bundle_layout.specs.Rows.{first_entry}

-- entry i of a bundle
abbrev pub entry_at : List ℕ → ℕ → List ℕ
entry_at b i = take entry_size (drop (table_end i) b)

pub length_entry : (b : List ℕ) (i : ℕ) → table_end (i + 1) ≤ length b → length (entry_at b i) ≡ entry_size
length_entry b i h = simp (length-take, length-drop) (omega arith)

module _ (b : List ℕ) where
  pub length_entries : length (entries_in b) ≡ count_in b
  unfolding entries_in entries_from
  length_entries = read_sized entry_size (take entry_size) entries_from (λ q. refl) (λ n q. refl) (count_in b) (drop head_size b)

  pub entry_is : (i : ℕ) → i < count_in b → get_or (entries_in b) i [] ≡ entry_at b i
  unfolding entries_in entries_from
  entry_is i h =
      let e : head_size + i * entry_size ≡ table_end i = omega arith in
      read_at entry_size (take entry_size) entries_from (λ q. refl) (λ n q. refl) (count_in b) i (drop head_size b) [] h ∙ ap (take entry_size) (drop-drop (i * entry_size) head_size b ∙ ap (λ (n : ℕ). drop n b) e)

  -- the entries from i on are entry i and those from i + 1 on
  pub from_here : (i : ℕ) → i < count_in b → drop i (entries_in b) ≡ entry_at b i ∷ drop (i + 1) (entries_in b)
  from_here i h =
      let k : i < length (entries_in b) = rw length_entries h in
      rw (add-one, drop-cons (entries_in b) i [], entry_is i h)

  -- past the last there are none
  pub from_end : (i : ℕ) → count_in b ≤ i → drop i (entries_in b) ≡ []
  from_end i h = drop_of_length-le (entries_in b) {i = i} (rw length_entries h)

  -- the first n entries, and one more
  pub take_more : (n : ℕ) → n < count_in b → take (suc n) (entries_in b) ≡ take n (entries_in b) ++ (entry_at b n ∷ [])
  take_more n h =
      let l : n < length (entries_in b) = rw length_entries h in
      rw (take-suc (entries_in b) n [], entry_is n h)

  -- the first entry of which p holds

  module _ (p : List ℕ → Bool) (i : ℕ) where
    pub first_here : i < count_in b → p (entry_at b i) ≡ true → i + 1 ≡ first_entry p (i + 1) (drop i (entries_in b))
    unfolding first_entry
    first_here h e = rw (from_here i h, e)

    pub first_on : i < count_in b → p (entry_at b i) ≡ false → first_entry p (i + 1 + 1) (drop (i + 1) (entries_in b)) ≡ first_entry p (i + 1) (drop i (entries_in b))
    unfolding first_entry
    first_on h e = rw (from_here i h, e, add-one (i + 1))

    pub first_end : count_in b ≤ i → 0 ≡ first_entry p (i + 1) (drop i (entries_in b))
    unfolding first_entry
    first_end h = rw (from_end i h)

-- an entry that a search does not name, and the entries after it
pub skips : (t : Bool) (k rest : ℕ) → cond t (suc k) rest ≡ 0 → (t ≡ false) × (rest ≡ 0)
skips true k rest h = absurd (omega arith)
skips false k rest h = (refl, h)

-- p holds of no entry, where the search names none
pub none_of : (p : List ℕ → Bool) (k : ℕ) (es : List (List ℕ)) (i : ℕ) → first_entry p (suc k) es ≡ 0 → i < length es → p (get_or es i []) ≡ false
unfolding first_entry
none_of p k [] i h l = absurd (not-suc-le-zero l)
none_of p k (e ∷ es) zero h l = (skips (p e) k _ h).0
none_of p k (e ∷ es) (suc i) h l = none_of p (suc k) es i (skips (p e) k _ h).1 (le_of_suc-le-suc l)

pub none_bad : (b : List ℕ) (p : List ℕ → Bool) → first_entry p 1 (entries_in b) ≡ 0 → (i : ℕ) → i < count_in b → p (entry_at b i) ≡ false
none_bad b p h i l = rw (← entry_is b i l) (none_of p 0 (entries_in b) i h (rw (length_entries b) l))
