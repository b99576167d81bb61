-- The records of an image are parts of it in rising address that can be written, and a place that none covers holds 0xFF. Assumes nothing.
use mathlib.Core.Path.{◌≡◌, sym, ap, ◌∙◌}
use mathlib.Core.Logic.{inl, inr}
use mathlib.Core.List.{List, [], ◌∷◌, ◌++◌}
use Prim.Native.Nat.{ℕ, ◌+◌, ◌-◌, ◌^◌, ◌≤◌, ◌<◌}
use native.Mathlib.Decide.{dec_lt}
use native.Mathlib.Omega.{arith}
use lib.ListN.{length, get_or, take, drop, length-take, length-drop}
use lib.Seq.{take-take, length-take-le, get_or-take}
use Rattle.wire.specs.Bytes.{Bytes}
use Rattle.wire.specs.Checks.{All}
use Rattle.wire.proofs.Bounds.{first_bytes, rest_bytes}
use Rattle.bundle_records.specs.Record.{Block, Sound, data_limit}
use Rattle.bundle_records.specs.Walk.{between}
use Rattle.bundle_records.proofs.Parts.{drop_take}
use Rattle.bundle_cut.specs.Cut.{erased_byte, crc_size, record_of, cut, crc_place, before_crc, image_records}
use Rattle.bundle_cut.specs.Rule.{end_of, Covers, Apart, TakenFrom, ImageApart, ImageSound}
use Rattle.bundle_cut.proofs.Runs.{run_erased}
use Rattle.bundle_cut.proofs.Pieces.{IsGap, IsData, by_pieces}

-- every member of two lists, one after the other, and what follows of each
module _ {A : Type 0} where
  pub all_append : (P : A → Type 0) (xs ys : List A) → All P xs → All P ys → All P (xs ++ ys)
  all_append P [] ys h k = k
  all_append P (x ∷ xs) ys h k = (h.0, all_append P xs ys h.1 k)

  pub all_map : {P Q : A → Type 0} (xs : List A) → ((x : A) → P x → Q x) → All P xs → All Q xs
  all_map [] f h = tt
  all_map (x ∷ xs) f h = (f x h.0, all_map xs f h.1)

-- the record of a part

pub record_ends : (d : List ℕ) (at to : ℕ) → at ≤ to → to ≤ length d → end_of (record_of d at to) ≡ to
record_ends d at to h k = omega (arith, length-take-le (to - at) (drop at d) (omega (arith, length-drop at d)))

pub data_ends : (d : List ℕ) (at to : ℕ) → IsData d at to → end_of (record_of d at to) ≡ to
data_ends d at to g = record_ends d at to (omega (arith, g.some)) g.inside

taken : (d : List ℕ) (at to : ℕ) → at < to → to ≤ at + data_limit → to ≤ length d → TakenFrom d (record_of d at to)
taken d at to s f i =
    let e = record_ends d at to (omega arith) i in
    record { some = omega arith; few = omega arith; bytes = ap (between d at) (sym e) }

taken_inside : (d : List ℕ) (r : Block) → TakenFrom d r → end_of r ≤ length d
taken_inside d r t =
    let a = r.address.0 in
    omega (arith, t.some, ap length t.bytes, length-take (end_of r - a) (drop a d), length-drop a d)

-- it is a part too of the bytes that d is the first of
taken_more : (m : List ℕ) (n : ℕ) (r : Block) → TakenFrom (take n m) r → TakenFrom m r
taken_more m n r t =
    let a = r.address.0 in
    let l : end_of r ≤ n = omega (arith, taken_inside (take n m) r t, length-take n m) in record {
      some = t.some;
      few = t.few;
      bytes = t.bytes ∙ ap (take (end_of r - a)) (drop_take a n m) ∙ take-take (end_of r - a) (n - a) (drop a m) (omega arith);
    }

taken_sound : (m : List ℕ) → Bytes m → length m ≤ 256 ^ 4 → (r : Block) → TakenFrom m r → Sound r
taken_sound m h l r t =
    let a = r.address.0 in record {
      address = omega (arith, taken_inside m r t, t.some);
      some = t.some;
      few = t.few;
      bytes = rw t.bytes (first_bytes (end_of r - a) (drop a m) (rest_bytes a m h));
    }

-- records in rising address, from a place on
unfoldable pub Rising : (at : ℕ) → List Block → Type 0
Rising at [] = Unit {0}
Rising at (r ∷ rs) = (at ≤ r.address.0) × Rising (end_of r) rs

pub rising_apart : (at : ℕ) (rs : List Block) → Rising at rs → Apart rs
unfolding Rising Apart
rising_apart at [] h = tt
rising_apart at (r ∷ []) h = tt
rising_apart at (r ∷ s ∷ rs) h = (h.1.0, rising_apart (end_of r) (s ∷ rs) h.1)

rising_on : (at end : ℕ) (rs : List Block) (s : Block) → at ≤ end → end ≤ s.address.0 → All (λ r. end_of r ≤ end) rs → Rising at rs
    → Rising at (rs ++ (s ∷ []))
unfolding Rising
rising_on at end [] s h k i r = (omega arith, tt)
rising_on at end (x ∷ xs) s h k i r = (r.0, rising_on (end_of x) end xs s i.0 k i.1 r.1)

-- the records of the bytes before the CRC

pub cut_taken : (d : List ℕ) → All (TakenFrom d) (cut d)
cut_taken d =
    by_pieces d (λ at rs. All (TakenFrom d) rs) (λ at e. tt) (λ at to rs g h. h)
    (λ at to rs g h. (taken d at to g.some g.few g.inside, h))

pub cut_rising : (d : List ℕ) → Rising 0 (cut d)
unfolding Rising
cut_rising d = by_pieces d Rising (λ at e. tt) gap part where
  lower : (at to : ℕ) (rs : List Block) → at ≤ to → Rising to rs → Rising at rs
  lower at to [] h r = tt
  lower at to (x ∷ xs) h r = (omega (arith, r.0), r.1)

  gap : (at to : ℕ) (rs : List Block) → IsGap d at to → Rising to rs → Rising at rs
  gap at to rs g h = lower at to rs (omega (arith, g.next)) h

  part : (at to : ℕ) (rs : List Block) → IsData d at to → Rising to rs → (at ≤ at) × Rising (end_of (record_of d at to)) rs
  part at to rs g h = (omega arith, rw (data_ends d at to g) h)

cut_uncovered : (d : List ℕ) (x : ℕ) → x < length d → (Covers (cut d) x → ⊥) → get_or d x 0 ≡ erased_byte
unfolding Covers
cut_uncovered d x l c =
    by_pieces d (λ at rs. at ≤ x → (Covers rs x → ⊥) → get_or d x 0 ≡ erased_byte) (λ at e h n. absurd (omega arith)) gap part (omega arith) c
  where
    gap : (at to : ℕ) (rs : List Block) → IsGap d at to → (to ≤ x → (Covers rs x → ⊥) → get_or d x 0 ≡ erased_byte) → at ≤ x → (Covers rs x → ⊥) → get_or d x 0 ≡ erased_byte
    gap at to rs g ih h n = go (dec_lt x to) where
      go : Dec (x < to) → get_or d x 0 ≡ erased_byte
      go (yes k) = run_erased d at x h (omega (arith, g.next))
      go (no k) = ih (omega arith) n

    part : (at to : ℕ) (rs : List Block) → IsData d at to → (to ≤ x → (Covers rs x → ⊥) → get_or d x 0 ≡ erased_byte) → at ≤ x → (Covers (record_of d at to ∷ rs) x → ⊥)
        → get_or d x 0 ≡ erased_byte
    part at to rs g ih h n = go (dec_lt x to) where
      go : Dec (x < to) → get_or d x 0 ≡ erased_byte
      go (yes k) = absurd (n (inl (h, omega (arith, data_ends d at to g))))
      go (no k) = ih (omega arith) (λ c. n (inr c))

-- the records of an image

module _ (m : List ℕ) where
  abbrev crc : Block
  crc = record_of m (crc_place m) (length m)

  before_length : length (before_crc m) ≡ crc_place m
  before_length = length-take-le (crc_place m) m (omega arith)

  before_inside : All (λ r. end_of r ≤ crc_place m) (cut (before_crc m))
  before_inside = all_map (cut (before_crc m)) (λ r t. omega (arith, taken_inside (before_crc m) r t, before_length)) (cut_taken (before_crc m))

  pub image_taken : crc_size ≤ length m → All (TakenFrom m) (image_records m)
  image_taken h =
      all_append (TakenFrom m) (cut (before_crc m)) (crc ∷ []) (all_map (cut (before_crc m)) (taken_more m (crc_place m)) (cut_taken (before_crc m)))
      (taken m (crc_place m) (length m) (omega arith) (omega arith) (omega arith), tt)

pub image_apart : ImageApart
image_apart m =
    let d = before_crc m in
    rising_apart 0 (image_records m) (rising_on 0 (crc_place m) (cut d) (crc m) (omega arith) (omega arith) (before_inside m) (cut_rising d))

pub image_sound : ImageSound
image_sound m b h l = all_map (image_records m) (taken_sound m b l) (image_taken m h)

pub image_inside : (m : List ℕ) → crc_size ≤ length m → All (λ r. end_of r ≤ length m) (image_records m)
image_inside m h = all_map (image_records m) (taken_inside m) (image_taken m h)

pub image_parts : (m : List ℕ) → crc_size ≤ length m → All (λ r. r.bytes ≡ between m r.address.0 (end_of r)) (image_records m)
image_parts m h = all_map (image_records m) (λ r t. t.bytes) (image_taken m h)

-- a place that a record covers is covered with more records before or after

covers_first : (rs ss : List Block) (x : ℕ) → Covers rs x → Covers (rs ++ ss) x
unfolding Covers
covers_first (r ∷ rs) ss x (inl h) = inl h
covers_first (r ∷ rs) ss x (inr h) = inr (covers_first rs ss x h)
covers_first [] ss x x3 = elim x3 [ ]

covers_last : (rs ss : List Block) (x : ℕ) → Covers ss x → Covers (rs ++ ss) x
unfolding Covers
covers_last [] ss x h = h
covers_last (r ∷ rs) ss x h = inr (covers_last rs ss x h)

pub uncovered : (m : List ℕ) (x : ℕ) → crc_size ≤ length m → x < length m → (Covers (image_records m) x → ⊥) → get_or m x 0 ≡ erased_byte
unfolding Covers
uncovered m x h l n = go (dec_lt x (crc_place m)) where
  go : Dec (x < crc_place m) → get_or m x 0 ≡ erased_byte
  go (yes k) =
      sym (get_or-take (crc_place m) m x 0 k)
      ∙ cut_uncovered (before_crc m) x (omega (arith, before_length m)) (λ c. n (covers_first (cut (before_crc m)) (crc m ∷ []) x c))
  go (no k) =
      let e = record_ends m (crc_place m) (length m) (omega arith) (omega arith) in
      absurd (n (covers_last (cut (before_crc m)) (crc m ∷ []) x (inl (omega arith, omega arith))))
