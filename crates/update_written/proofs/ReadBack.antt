-- The records of an image, written in order after an erase, give the image: each record writes the image's own bytes, and what none covers is erased.
use mathlib.Core.Path.{◌≡◌, refl, sym, ap, ◌∙◌}
use mathlib.Core.Logic.{◌⊎◌, inl, inr}
use mathlib.Core.Bool.{Bool, true, false}
use mathlib.Core.List.{List, [], ◌∷◌}
use Prim.Native.Nat.{ℕ, ◌+◌, ◌-◌, ◌≤◌, ◌<◌}
use native.Mathlib.Omega.{arith}
use borrow.Author.Tests.{ltb-true, ltb-false, leb-true, leb-false}
use lib.Dec.{ltb, leb}
use lib.ListN.{length, get_or, drop, get_or-replicate}
use lib.Seq.{get_or-take, get_or-drop, ext_get_or}
use Rattle.wire.specs.Checks.{All}
use Rattle.image.specs.Region.{blank, put}
use Rattle.image.proofs.region.Within.{put_length, blank_length}
use Rattle.bundle_records.specs.Record.{Block}
use Rattle.bundle_records.specs.Walk.{between}
use Rattle.bundle_cut.specs.Cut.{image_records}
use Rattle.bundle_cut.specs.Rule.{end_of, Covers}
use Rattle.bundle_cut.proofs.Order.{image_inside, image_parts, uncovered}
use Rattle.device.proofs.Staging.{Outside, put_in, put_out}
use Rattle.update.specs.Claim.{writes, image_of, Inside}
use Rattle.update.proofs.Filled.{image_length}
use Rattle.update_written.specs.Stages.{ImageReadsBack}

-- place x is among the n places from `at` on, or it is not
place : (at n x : ℕ) → ((at ≤ x) × (x < at + n)) ⊎ Outside at n x
place at n x = go (ltb x at) (leb (at + n) x) refl refl
  where
    go : (s t : Bool) → ltb x at ≡ s → leb (at + n) x ≡ t → ((at ≤ x) × (x < at + n)) ⊎ Outside at n x
    go true t p q = inr (inl (ltb-true x at p))
    go false true p q = inr (inr (leb-true (at + n) x q))
    go false false p q = inl (ltb-false x at p, leb-false (at + n) x q)

-- not both
apart : (at n x : ℕ) → Outside at n x → at ≤ x → x < at + n → ⊥
apart at n x (inl o) h k = omega arith
apart at n x (inr o) h k = omega arith

-- some record covers a place, or none does
covered : (rs : List Block) (x : ℕ) → Covers rs x ⊎ (Covers rs x → ⊥)
unfolding Covers
covered [] x = inr (λ c. c)
covered (r ∷ rs) x = go (place r.address.0 (length r.bytes) x) (covered rs x)
  where
    go : ((r.address.0 ≤ x) × (x < end_of r)) ⊎ Outside r.address.0 (length r.bytes) x → Covers rs x ⊎ (Covers rs x → ⊥)
        → Covers (r ∷ rs) x ⊎ (Covers (r ∷ rs) x → ⊥)
    go (inl i) c = inl (inl i)
    go (inr o) (inl c) = inl (inr c)
    go (inr o) (inr n) = inr none
      where
        none : ((r.address.0 ≤ x) × (x < end_of r)) ⊎ Covers rs x → ⊥
        none (inl i) = apart r.address.0 (length r.bytes) x o i.0 i.1
        none (inr c) = n c

module _ (m : List ℕ) where
  -- the bytes of a record are m's at its address
  abbrev Own : Block → Type 0
  Own r = r.bytes ≡ between m r.address.0 (end_of r)

  own_byte : (r : Block) → Own r → (x : ℕ) → r.address.0 ≤ x → x < end_of r → get_or r.bytes (x - r.address.0) 0 ≡ get_or m x 0
  own_byte r e x h k =
      let at = r.address.0 in
      let i : at + (x - at) ≡ x = omega arith in
      ap (λ (l : List ℕ). get_or l (x - at) 0) e ∙ get_or-take (end_of r - at) (drop at m) (x - at) 0 (omega arith) ∙ get_or-drop at m (x - at) 0
      ∙ ap (λ (j : ℕ). get_or m j 0) i

  -- after a record, m's byte stands at a place where it stood before, or which the record covers
  one_written : (r : Block) (l : List ℕ) → end_of r ≤ length l → Own r → (x : ℕ) → (P : Type 0)
      → (get_or l x 0 ≡ get_or m x 0) ⊎ (((r.address.0 ≤ x) × (x < end_of r)) ⊎ P) → (get_or (put r.address.0 r.bytes l) x 0 ≡ get_or m x 0) ⊎ P
  one_written r l fits own x P h = go (place r.address.0 (length r.bytes) x) h
    where
      go : ((r.address.0 ≤ x) × (x < end_of r)) ⊎ Outside r.address.0 (length r.bytes) x
          → (get_or l x 0 ≡ get_or m x 0) ⊎ (((r.address.0 ≤ x) × (x < end_of r)) ⊎ P) → (get_or (put r.address.0 r.bytes l) x 0 ≡ get_or m x 0) ⊎ P
      go (inl i) z =
          let at = r.address.0 in
          let j : at + (x - at) ≡ x = omega (arith, i.0) in
          inl (ap (λ (n : ℕ). get_or (put at r.bytes l) n 0) (sym j) ∙ put_in at r.bytes l fits (x - at) (omega (arith, i.0, i.1))
          ∙ own_byte r own x i.0 i.1)
      go (inr o) (inl e) = inl (put_out r.address.0 r.bytes l fits x o ∙ e)
      go (inr o) (inr (inl i)) = absurd (apart r.address.0 (length r.bytes) x o i.0 i.1)
      go (inr o) (inr (inr c)) = inr c

  -- so it is after all of them
  all_written : (rs : List Block) (l : List ℕ) → length l ≡ length m → Inside (length m) rs → All Own rs
      → (x : ℕ) → (get_or l x 0 ≡ get_or m x 0) ⊎ Covers rs x → get_or (writes l rs) x 0 ≡ get_or m x 0
  unfolding writes Covers
  all_written [] l n i p x (inl e) = e
  all_written [] l n i p x (inr c) = absurd c
  all_written (r ∷ rs) l n i p x h =
      let fits : end_of r ≤ length l = omega (arith, i.0) in
      all_written rs (put r.address.0 r.bytes l) (put_length r.address.0 r.bytes l fits ∙ n) i.1 p.1 x
      (one_written r l fits p.0 x (Covers rs x) h)

-- what an erase leaves
blank_byte : (n x : ℕ) → x < n → get_or (blank n) x 0 ≡ 0xFF
unfolding blank
blank_byte n x h = get_or-replicate n x 0xFF 0 h

pub image_reads_back : ImageReadsBack
unfolding image_of
image_reads_back m h = ext_get_or 0 (image_of (length m) rs) m size (λ x k. byte x (rw size at k) (covered rs x))
  where
    rs : List Block
    rs = image_records m

    size : length (image_of (length m) (image_records m)) ≡ length m
    size = image_length (length m) (image_records m) (image_inside m h)

    byte : (x : ℕ) → x < length m → Covers (image_records m) x ⊎ (Covers (image_records m) x → ⊥) → get_or (image_of (length m) (image_records m)) x 0 ≡ get_or m x 0
    byte x k c = all_written m (image_records m) (blank (length m)) (blank_length (length m)) (image_inside m h) (image_parts m h) x (start c)
      where
        start : Covers (image_records m) x ⊎ (Covers (image_records m) x → ⊥) → (get_or (blank (length m)) x 0 ≡ get_or m x 0) ⊎ Covers (image_records m) x
        start (inl y) = inr y
        start (inr n) = inl (blank_byte (length m) x k ∙ sym (uncovered m x h k n))
