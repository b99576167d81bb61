-- `cut` has the rule of the runs, and the records of an image end with its CRC. Assumes nothing.
use mathlib.Core.Path.{◌≡◌, refl, ap, ◌∙◌}
use mathlib.Core.Logic.{◌⊎◌, inl, inr, ◌↔◌}
use mathlib.Core.List.{List, [], ◌∷◌}
use Prim.Native.Nat.{ℕ, suc, ◌+◌, ◌-◌, ◌≤◌, ◌<◌}
use native.Mathlib.Decide.{dec_lt}
use native.Mathlib.Omega.{arith}
use lib.ListN.{length, get_or, take, drop}
use lib.Seq.{length-take-le, drop-cons}
use Rattle.wire.specs.Checks.{All}
use Rattle.bundle_records.specs.Record.{Block, data_limit}
use Rattle.bundle_records.specs.Walk.{between}
use Rattle.bundle_cut.specs.Cut.{run_least, run_at, record_of, cut, crc_place, before_crc}
use Rattle.bundle_cut.specs.Rule.{Kept, end_of, Covers, Full, CutRule, ImageRule}
use Rattle.bundle_cut.proofs.Pieces.{IsGap, IsData, by_pieces}
use Rattle.bundle_cut.proofs.Order.{data_ends, rising_apart, cut_taken, cut_rising}
use Rattle.bundle_cut.proofs.Longest.{Clear, clear_start, gap_goes, clear_gap, clear_data, data_stays}

module _ (d : List ℕ) where
  -- the records from a place on cover what is kept from there on
  abbrev CoversFrom : (at : ℕ) → List Block → Type 0
  CoversFrom at rs = Clear d at → (x : ℕ) → Covers rs x ↔ ((at ≤ x) × Kept d x)

  covers_gap : (at to : ℕ) (rs : List Block) → IsGap d at to → CoversFrom to rs → CoversFrom at rs
  covers_gap at to rs g ih c x = (λ k. let h = forth k in (omega (arith, g.next, h.0), h.1), λ h. back h (dec_lt x to)) where
    forth : Covers rs x → (to ≤ x) × Kept d x
    forth = (ih (clear_gap d at to g) x).0

    back : (at ≤ x) × Kept d x → Dec (x < to) → Covers rs x
    back h (yes k) = absurd (h.1.1 (gap_goes d at to g x h.0 k))
    back h (no k) = (ih (clear_gap d at to g) x).1 (omega arith, h.1)

  covers_data : (at to : ℕ) (rs : List Block) → IsData d at to → CoversFrom to rs → CoversFrom at (record_of d at to ∷ rs)
  unfolding Covers
  covers_data at to rs g ih c x = (forth, λ h. back h (dec_lt x to)) where
    e : end_of (record_of d at to) ≡ to
    e = data_ends d at to g

    forth : ((at ≤ x) × (x < end_of (record_of d at to))) ⊎ Covers rs x → (at ≤ x) × Kept d x
    forth (inl h) =
        let k : x < to = omega (arith, e, h.1) in
        (h.0, (omega (arith, g.inside), data_stays d at to c g x h.0 k))
    forth (inr h) = let k = (ih (clear_data d at to c g) x).0 h in (omega (arith, g.some, k.0), k.1)

    back : (at ≤ x) × Kept d x → Dec (x < to) → ((at ≤ x) × (x < end_of (record_of d at to))) ⊎ Covers rs x
    back h (yes k) = inl (h.0, omega (arith, e))
    back h (no k) = inr ((ih (clear_data d at to c g) x).1 (omega arith, h.1))

  cut_covers : (x : ℕ) → Covers (cut d) x ↔ ((0 ≤ x) × Kept d x)
  unfolding Covers
  cut_covers =
      by_pieces d CoversFrom (λ at e c x. (λ h. absurd h, λ h. absurd (omega (arith, h.0, h.1.0)))) covers_gap covers_data
      (clear_start d)

  -- each record begins where no run that is left out does, so one that ends before it has 52 bytes ends at such a run or at the end
  abbrev Begins : Block → Type 0
  Begins r = (r.address.0 < length d) × (run_at d r.address.0 < run_least)

  cut_full : All Begins (cut d) × Full (cut d)
  unfolding Full
  cut_full = by_pieces d (λ at rs. All Begins rs × Full rs) (λ at e. (tt, tt)) (λ at to rs g h. h) part where
    part : (at to : ℕ) (rs : List Block) → IsData d at to → All Begins rs × Full rs → All Begins (record_of d at to ∷ rs) × Full (record_of d at to ∷ rs)
    part at to rs g h = (((omega (arith, g.some, g.inside), g.short at (omega arith) g.some), h.0), go rs h) where
      go : (rs : List Block) → All Begins rs × Full rs → Full (record_of d at to ∷ rs)
      go [] h = tt
      go (s ∷ ss) h = (λ e. touch e (dec_lt to (at + data_limit)), h.1) where
        l : end_of (record_of d at to) ≡ to
        l = data_ends d at to g

        touch : end_of (record_of d at to) ≡ s.address.0 → Dec (to < at + data_limit) → length (record_of d at to).bytes ≡ data_limit
        touch e (yes k) =
            let q : s.address.0 ≡ to = omega (arith, e, l) in
            let b : Begins s = h.0.0 in
            absurd (omega (arith, g.stops k (rw q at b.0), rw q at b.1))
        touch e (no k) = omega (arith, l, g.few)

pub cut_rule : CutRule
cut_rule d =
    record {
      covers = λ x. (λ c. ((cut_covers d x).0 c).1, λ k. (cut_covers d x).1 (omega arith, k));
      apart = rising_apart 0 (cut d) (cut_rising d);
      full = (cut_full d).1;
      parts = cut_taken d;
    }

-- the last two bytes
last_two : (m : List ℕ) → 2 ≤ length m → between m (crc_place m) (length m) ≡ get_or m (length m - 2) 0 ∷ get_or m (length m - 1) 0 ∷ []
last_two m h =
    let n : length m - crc_place m ≡ 2 = omega arith in
    let i : suc (length m - 2) ≡ length m - 1 = omega arith in
    let f : drop (suc (length m - 2)) m ≡ get_or m (length m - 1) 0 ∷ drop (suc (length m - 1)) m = rw i (drop-cons m (length m - 1) 0 (omega arith)) in
    ap (λ (k : ℕ). take k (drop (crc_place m) m)) n
    ∙ ap (take 2) (drop-cons m (length m - 2) 0 (omega arith) ∙ ap (λ (t : List ℕ). get_or m (length m - 2) 0 ∷ t) f)

pub image_rule : ImageRule
image_rule m h = record {
  front = cut (before_crc m);
  last = record_of m (crc_place m) (length m);
  whole = refl;
  before = cut_rule (before_crc m);
  size = let e = length-take-le (crc_place m) m (omega arith) in omega arith;
  place = omega arith;
  crc = last_two m h;
}
