-- The entries of a list that W1 allows. A list with a head before it is a bundle's table, so that what is known of a table holds of it. Assumes nothing.
use mathlib.Core.Path.{◌≡◌, refl, sym, ap, ◌∙◌}
use mathlib.Core.Bool.{false, not, ◌||◌}
use mathlib.Core.List.{List, [], ◌∷◌}
use Prim.Native.Nat.{ℕ, ◌+◌, ◌*◌, ◌%◌, ◌≤◌, ◌<◌}
use native.Mathlib.Omega.{arith}
use lib.Dec.{eqb, ltb}
use lib.ListN.{length, get_or, take, drop}
use lib.Seq.{drop-drop}
use Rattle.wire.proofs.Tests.{neither, equal}
use Rattle.bundle_layout.specs.Layout.{offer_limit, head_size, entry_size, entries_in}
use Rattle.bundle.proofs.Limits.{inside}
use Rattle.bundle.proofs.Entries as table
use Rattle.bundle_given.specs.Given.{count_of, entries_of}
use Rattle.bundle_given.specs.Entry.{bad_list}

-- entry i of a list
abbrev pub entry_of : List ℕ → ℕ → List ℕ
entry_of list i = take entry_size (drop (entry_size * i) list)

-- the list behind a head that has its count
abbrev pub headed : List ℕ → List ℕ
headed list = count_of list ∷ 0 ∷ 0 ∷ 0 ∷ 0 ∷ 0 ∷ 0 ∷ 0 ∷ list

module _ (list : List ℕ) where
  -- a list that W1 allows has 1 to 7 entries, and ends with the last
  pub good_list : bad_list list ≡ false → (length list ≡ entry_size * count_of list) × (1 ≤ count_of list) × (count_of list ≤ offer_limit)
  good_list h =
      let w = neither (not (eqb (length list % entry_size) 0)) (ltb (count_of list) 1 || ltb offer_limit (count_of list)) h in
      let whole : length list % entry_size ≡ 0 = equal (length list % entry_size) 0 w.0 in
      let k = inside 1 offer_limit (count_of list) w.1 in
      (omega (arith, whole), k.0, k.1)

  -- the entries of the list are those of the table
  pub entries_headed : entries_in (headed list) ≡ entries_of list
  unfolding entries_in entries_of
  entries_headed = refl

  pub entry_headed : (i : ℕ) → table.entry_at (headed list) i ≡ entry_of list i
  entry_headed i = ap (take entry_size) (sym (drop-drop (entry_size * i) head_size (headed list)))

  -- how many they are, which each is, and how long
  pub length_entries : length (entries_of list) ≡ count_of list
  length_entries = ap length (sym entries_headed) ∙ table.length_entries (headed list)

  pub entry_is : (i : ℕ) → i < count_of list → get_or (entries_of list) i [] ≡ entry_of list i
  entry_is i h = ap (λ (es : List (List ℕ)). get_or es i []) (sym entries_headed) ∙ table.entry_is (headed list) i h ∙ entry_headed i

  pub length_entry : (i : ℕ) → entry_size * (i + 1) ≤ length list → length (entry_of list i) ≡ entry_size
  length_entry i h = ap length (sym (entry_headed i)) ∙ table.length_entry (headed list) i (omega arith)

  -- where W1 allows the list, entry i is in it
  pub entry_in : bad_list list ≡ false → (i : ℕ) → i < count_of list → entry_size * (i + 1) ≤ length list
  entry_in h i k = omega (arith, (good_list h).0)

  pub length_each : bad_list list ≡ false → (i : ℕ) → i < count_of list → length (get_or (entries_of list) i []) ≡ entry_size
  length_each h i k = ap length (entry_is i k) ∙ length_entry i (entry_in h i k)
