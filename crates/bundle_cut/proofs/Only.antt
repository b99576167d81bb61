-- No other list of records has the rule. Assumes nothing.
use mathlib.Core.Path.{◌≡◌, refl, ap₂, ◌∙◌}
use mathlib.Core.Logic.{◌⊎◌, inl, inr, ◌↔◌}
use mathlib.Core.List.{List, [], ◌∷◌}
use Prim.Native.Nat.{ℕ, ◌+◌, ◌≤◌, ◌<◌}
use native.Mathlib.Decide.{dec_lt}
use native.Mathlib.Omega.{arith}
use lib.ListN.{length}
use Rattle.wire.specs.Checks.{All}
use Rattle.bundle_records.specs.Record.{Block, data_limit}
use Rattle.bundle_records.specs.Walk.{between}
use Rattle.bundle_cut.specs.Cut.{record_of, cut}
use Rattle.bundle_cut.specs.Rule.{Kept, end_of, Covers, Apart, Full, TakenFrom, CutOnly}
use Rattle.bundle_cut.proofs.Pieces.{IsGap, IsData, by_pieces}
use Rattle.bundle_cut.proofs.Longest.{left_out, Clear, clear_start, gap_goes, clear_gap, clear_data, data_stays}

-- the rest of records that are apart, or full where they touch

apart_rest : (r : Block) (rs : List Block) → Apart (r ∷ rs) → Apart rs
unfolding Apart
apart_rest r [] h = tt
apart_rest r (s ∷ rs) h = h.1

full_rest : (r : Block) (rs : List Block) → Full (r ∷ rs) → Full rs
unfolding Full
full_rest r [] h = tt
full_rest r (s ∷ rs) h = h.1

-- what the records after one cover stands after it
covered_after : (r : Block) (rs : List Block) (x : ℕ) → Apart (r ∷ rs) → Covers rs x → end_of r ≤ x
unfolding Apart Covers
covered_after r (s ∷ rs) x h (inl c) = omega (arith, h.0, c.0)
covered_after r (s ∷ rs) x h (inr c) = omega (arith, h.0, covered_after s rs x h.1 c)
covered_after r [] x h x4 = elim x4 [ ]

-- a record whose next place is covered is full
touched : (r : Block) (rs : List Block) → Apart (r ∷ rs) → Full (r ∷ rs) → Covers rs (end_of r) → length r.bytes ≡ data_limit
unfolding Apart Full Covers
touched r (s ∷ rs) h f (inl c) = f.0 (omega (arith, h.0, c.0))
touched r (s ∷ rs) h f (inr c) = f.0 (omega (arith, h.0, covered_after s rs (end_of r) h.1 c))
touched r [] h f x3 = elim x3 [ ]

module _ (d : List ℕ) where
  -- records with the rule from a place on
  record Rest (at : ℕ) (rs : List Block) : Type 0 where
    covers : (x : ℕ) → Covers rs x ↔ ((at ≤ x) × Kept d x)
    apart : Apart rs
    full : Full rs
    parts : All (TakenFrom d) rs

  -- at the end there is none
  only_none : (at : ℕ) (rs : List Block) → at ≡ length d → Rest at rs → rs ≡ []
  unfolding Covers
  only_none at [] e t = refl
  only_none at (r ∷ rs) e t =
      let k = (t.covers r.address.0).0 (inl (omega arith, omega (arith, t.parts.0.some))) in
      absurd (omega (arith, k.0, k.1.0))

  -- where a gap stands, they are those from its end on
  rest_gap : (at to : ℕ) (rs : List Block) → IsGap d at to → Rest at rs → Rest to rs
  rest_gap at to rs g t =
      record {
        covers = λ x. (λ c. forth x ((t.covers x).0 c) (dec_lt x to), λ h. (t.covers x).1 (omega (arith, g.next, h.0), h.1));
        apart = t.apart;
        full = t.full;
        parts = t.parts;
      }
    where
      forth : (x : ℕ) → (at ≤ x) × Kept d x → Dec (x < to) → (to ≤ x) × Kept d x
      forth x h (yes k) = absurd (h.1.1 (gap_goes d at to g x h.0 k))
      forth x h (no k) = (omega arith, h.1)

  -- where a record is due, the first is it

  module _ (at to : ℕ) (c : Clear d at) (g : IsData d at to) where
    due : (x : ℕ) → at ≤ x → x < to → Kept d x
    due x h k = (omega (arith, g.inside), data_stays d at to c g x h k)

    module _ (r : Block) (rs : List Block) (t : Rest at (r ∷ rs)) where
      begins_there : r.address.0 ≡ at
      unfolding Covers
      begins_there = go ((t.covers at).1 (omega arith, due at (omega arith) g.some)) where
        k : at ≤ r.address.0
        k = ((t.covers r.address.0).0 (inl (omega arith, omega (arith, t.parts.0.some)))).0

        go : ((r.address.0 ≤ at) × (at < end_of r)) ⊎ Covers rs at → r.address.0 ≡ at
        go (inl h) = omega (arith, h.0, k)
        go (inr h) = absurd (omega (arith, k, covered_after r rs at t.apart h, t.parts.0.some))

      ends_there : end_of r ≡ to
      unfolding Covers
      ends_there = go (dec_lt to (end_of r)) (dec_lt (end_of r) to) where
        b : r.address.0 ≡ at
        b = begins_there

        few : end_of r ≤ at + data_limit
        few = omega (arith, b, t.parts.0.few)

        -- it would go on over what is left out
        over : to < end_of r → ⊥
        over k =
            let h = ((t.covers to).0 (inl (omega (arith, b, g.some), k))).1 in
            let l = g.stops (omega (arith, few)) h.0 in
            h.1 (left_out d to to g.inside l (omega arith) (omega arith))

        -- it would stop before it is full, and be touched
        under : end_of r < to → ((r.address.0 ≤ end_of r) × (end_of r < end_of r)) ⊎ Covers rs (end_of r) → ⊥
        under k (inl h) = omega (arith, h.1)
        under k (inr h) = omega (arith, b, g.few, touched r rs t.apart t.full h)

        go : Dec (to < end_of r) → Dec (end_of r < to) → end_of r ≡ to
        go (yes k) l = absurd (over k)
        go (no k) (yes l) =
            let m : at ≤ end_of r = omega (arith, b) in
            absurd (under l ((t.covers (end_of r)).1 (m, due (end_of r) m l)))
        go (no k) (no l) = omega arith

      first_is : r ≡ record_of d at to
      first_is =
          ap₂ (λ (a : ℕ) (b : List ℕ). record { address = record { 0 = a }; bytes = b }) begins_there
          (t.parts.0.bytes ∙ ap₂ (between d) begins_there ends_there)

      rest_data : Rest to rs
      unfolding Covers
      rest_data =
          record {
            covers = λ x. (forth x, λ h. back x h ((t.covers x).1 (omega (arith, g.some, h.0), h.1)));
            apart = apart_rest r rs t.apart;
            full = full_rest r rs t.full;
            parts = t.parts.1;
          }
        where
          forth : (x : ℕ) → Covers rs x → (to ≤ x) × Kept d x
          forth x h = (omega (arith, ends_there, covered_after r rs x t.apart h), ((t.covers x).0 (inr h)).1)

          back : (x : ℕ) → (to ≤ x) × Kept d x → ((r.address.0 ≤ x) × (x < end_of r)) ⊎ Covers rs x → Covers rs x
          back x h (inl k) = absurd (omega (arith, h.0, k.1, ends_there))
          back x h (inr k) = k

  -- the records from a place on are the only ones
  abbrev Only : (at : ℕ) → List Block → Type 0
  Only at cs = Clear d at → (rs : List Block) → Rest at rs → rs ≡ cs

  only_data : (at to : ℕ) (cs : List Block) → IsData d at to → Only to cs → Only at (record_of d at to ∷ cs)
  unfolding Covers
  only_data at to cs g ih c [] t = absurd ((t.covers at).1 (omega arith, due at to c g at (omega arith) g.some))
  only_data at to cs g ih c (r ∷ rs) t =
      ap₂ (λ (x : Block) (xs : List Block). x ∷ xs) (first_is at to c g r rs t) (ih (clear_data d at to c g) rs (rest_data at to c g r rs t))

  only : Only 0 (cut d)
  only = by_pieces d Only (λ at e c rs t. only_none at rs e t) (λ at to cs g ih c rs t. ih (clear_gap d at to g) rs (rest_gap at to rs g t)) only_data

pub cut_only : CutOnly
cut_only d rs c =
    only d (clear_start d) rs
    (record { covers = λ x. (λ k. (omega arith, (c.covers x).0 k), λ k. (c.covers x).1 k.1); apart = c.apart; full = c.full; parts = c.parts })
