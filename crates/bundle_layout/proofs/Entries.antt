-- The entries of a table, from one to the next, and the rows that look at each. Assumes nothing.
use mathlib.Core.Path.{◌≡◌, refl, sym, ap, ◌∙◌}
use mathlib.Core.Bool.{Bool, true, false, ◌||◌, or_assoc, or_comm}
use mathlib.Core.List.{List, [], ◌∷◌, ◌++◌}
use Prim.Native.Nat.{ℕ, zero, suc, ◌+◌, ◌-◌, ◌*◌, ◌≤◌, ◌<◌, min}
use native.Mathlib.Numerals.{add-one}
use native.Mathlib.Decide.{dec_le}
use native.Mathlib.Omega.{arith}
use lib.Dec.{eqb}
use lib.ListN.{length, get_or, take, drop, length-take, length-drop, drop_of_length-le}
use lib.Seq.{take-suc, take_all, take-nil, drop-cons, drop-length, drop-drop}
use Rattle.wire.specs.Checks.{any}
use Rattle.wire.proofs.Pieces.{read_sized, read_at}
use Rattle.bundle_layout.specs.Layout.{entry_size, entries_from, id_in}
use Rattle.bundle_layout.specs.Rows.{first_entry, repeated}

-- entry i of a table
abbrev pub entry_of : List ℕ → ℕ → List ℕ
entry_of q i = take entry_size (drop (entry_size * i) q)

pub length_entry : (q : List ℕ) (i : ℕ) → entry_size * (i + 1) ≤ length q → length (entry_of q i) ≡ entry_size
length_entry q i h = simp (length-take, length-drop) (omega arith)

-- the part of some bytes between a start and an end that are clamped to them is the whole part, as far as they have it
pub clamped : (base len : ℕ) (s : List ℕ) (start n : ℕ) → start ≡ min base (length s) → n ≡ min len (length s - start) → take (start + n - start) (drop start s) ≡ take len (drop base s)
clamped base len s start n e e' = from (dec_le base (length s)) where
  from : Dec (base ≤ length s) → take (start + n - start) (drop start s) ≡ take len (drop base s)
  from (yes h) =
      let p : start ≡ base = omega arith in
      let q : start + n - start ≡ n = omega arith in
      rw (q, p) (upto (dec_le len (length s - base)))
    where
      upto : Dec (len ≤ length s - base) → take n (drop base s) ≡ take len (drop base s)
      upto (yes k) = let p : n ≡ len = omega arith in rw p
      upto (no k) =
          let p : n ≡ length s - base = omega arith in
          take_all n (drop base s) (rw length-drop (omega arith)) ∙ sym (take_all len (drop base s) (rw length-drop (omega arith)))
  from (no h) =
      let p : start ≡ length s = omega arith in
      simp (p, drop-length, drop_of_length-le s {i = base} (omega arith), take-nil)

module _ (n : ℕ) (q : List ℕ) where
  pub length_entries : length (entries_from n q) ≡ n
  unfolding entries_from
  length_entries = read_sized entry_size (take entry_size) entries_from (λ q. refl) (λ n q. refl) n q

  pub entry_is : (i : ℕ) → i < n → get_or (entries_from n q) i [] ≡ entry_of q i
  unfolding entries_from
  entry_is i h =
      let e : i * entry_size ≡ entry_size * i = omega arith in
      read_at entry_size (take entry_size) entries_from (λ q. refl) (λ n q. refl) n i q [] h ∙ ap (λ (m : ℕ). take entry_size (drop m q)) e

  -- the entries from i on are entry i and those from i + 1 on
  pub from_here : (i : ℕ) → i < n → drop i (entries_from n q) ≡ entry_of q i ∷ drop (i + 1) (entries_from n q)
  from_here i h =
      let k : i < length (entries_from n q) = rw length_entries h in
      rw (add-one, drop-cons (entries_from n q) i [], entry_is i h)

  -- past the last there are none
  pub from_end : (i : ℕ) → n ≤ i → drop i (entries_from n q) ≡ []
  from_end i h = drop_of_length-le (entries_from n q) {i = i} (rw length_entries h)

  -- the first i entries, and one more
  pub take_more : (i : ℕ) → i < n → take (suc i) (entries_from n q) ≡ take i (entries_from n q) ++ (entry_of q i ∷ [])
  take_more i h =
      let l : i < length (entries_from n q) = rw length_entries h in
      rw (take-suc (entries_from n q) i [], entry_is i h)

  -- the first entry of which p holds

  module _ (p : List ℕ → Bool) (i : ℕ) where
    pub first_here : i < n → p (entry_of q i) ≡ true → i + 1 ≡ first_entry p (i + 1) (drop i (entries_from n q))
    unfolding first_entry
    first_here h e = rw (from_here i h, e)

    pub first_on : i < n → p (entry_of q i) ≡ false → first_entry p (i + 1 + 1) (drop (i + 1) (entries_from n q)) ≡ first_entry p (i + 1) (drop i (entries_from n q))
    unfolding first_entry
    first_on h e = rw (from_here i h, e, add-one (i + 1))

    pub first_end : n ≤ i → 0 ≡ first_entry p (i + 1) (drop i (entries_from n q))
    unfolding first_entry
    first_end h = rw (from_end i h)

    -- some of the entries
    pub some_here : i < n → p (entry_of q i) ≡ true → true ≡ any p (drop i (entries_from n q))
    unfolding any
    some_here h e = rw (from_here i h, e)

    pub some_on : i < n → p (entry_of q i) ≡ false → any p (drop (i + 1) (entries_from n q)) ≡ any p (drop i (entries_from n q))
    unfolding any
    some_on h e = rw (from_here i h, e)

    pub some_end : n ≤ i → false ≡ any p (drop i (entries_from n q))
    unfolding any
    some_end h = rw (from_end i h)

any_more : (p : List ℕ → Bool) (es : List (List ℕ)) (e : List ℕ) → any p (es ++ (e ∷ [])) ≡ (p e || any p es)
unfolding any
any_more p [] e = refl
any_more p (x ∷ es) e = rw (any_more p es e) (sym (or_assoc (p x) (p e) (any p es)) ∙ rw (or_comm (p x) (p e)) (or_assoc (p e) (p x) (any p es)))

-- a table of no entry
entries_none : (q : List ℕ) → entries_from 0 q ≡ []
unfolding entries_from
entries_none q = refl

-- a table of one entry more
entries_more : (n : ℕ) (q : List ℕ) → entries_from (suc n) q ≡ entries_from n q ++ (entry_of q n ∷ [])
unfolding entries_from
entries_more zero q = refl
entries_more (suc n) q =
    let e : entry_size * n + entry_size ≡ entry_size * suc n = omega arith in
    let f : entry_size + entry_size * n ≡ entry_size * suc n = omega arith in
    let d : drop (entry_size * n) (drop entry_size q) ≡ drop (entry_size * suc n) q = drop-drop (entry_size * n) entry_size q ∙ ap (λ (m : ℕ). drop m q) f in
    ap (λ (es : List (List ℕ)). take entry_size q ∷ es)
    (entries_more n (drop entry_size q) ∙ ap (λ (r : List ℕ). entries_from n (drop entry_size q) ++ (take entry_size r ∷ [])) d)

module _ (q : List ℕ) where
  -- the ids of the first n entries, the last first
  unfoldable pub ids_to : ℕ → List ℕ
  ids_to zero = []
  ids_to (suc n) = id_in (entry_of q n) ∷ ids_to n

  -- an id is among them where one of the first n entries has it
  ids_any : (id n : ℕ) → any (eqb id) (ids_to n) ≡ any (λ e. eqb id (id_in e)) (entries_from n q)
  unfolding any ids_to
  ids_any id zero = rw (entries_none q)
  ids_any id (suc n) = rw (entries_more n q, any_more (λ e. eqb id (id_in e)) (entries_from n q) (entry_of q n), ids_any id n)

module _ (n : ℕ) (q : List ℕ) (i : ℕ) where
  pub repeated_here : i < n → any (λ e. eqb (id_in (entry_of q i)) (id_in e)) (entries_from i q) ≡ true → i + 1 ≡ repeated (ids_to q i) (i + 1) (drop i (entries_from n q))
  unfolding repeated
  repeated_here h e = rw (from_here n q i h, ids_any q (id_in (entry_of q i)) i, e)

  pub repeated_on : i < n → any (λ e. eqb (id_in (entry_of q i)) (id_in e)) (entries_from i q) ≡ false
      → repeated (ids_to q (i + 1)) (i + 1 + 1) (drop (i + 1) (entries_from n q)) ≡ repeated (ids_to q i) (i + 1) (drop i (entries_from n q))
  unfolding repeated ids_to
  repeated_on h e = rw (from_here n q i h, ids_any q (id_in (entry_of q i)) i, e, add-one (i + 1), add-one i)

  pub repeated_end : n ≤ i → 0 ≡ repeated (ids_to q i) (i + 1) (drop i (entries_from n q))
  unfolding repeated
  repeated_end h = rw (from_end n q i h)
