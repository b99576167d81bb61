-- The staging buffer keeps its length, and changes only by a valid block of the accepted offer: every byte of it afterwards. Assumes nothing.
use mathlib.Core.Path.{◌≡◌, refl, sym, ap, ◌∙◌}
use mathlib.Core.Bool.{Bool, true, false, cond}
use mathlib.Core.Logic.{◌⊎◌, inl, inr}
use mathlib.Core.List.{List, ◌++◌, append-nil}
use Prim.Native.Nat.{ℕ, ◌+◌, ◌-◌, ◌≤◌, ◌<◌}
use native.Mathlib.Omega.{arith}
use borrow.Author.Tests.{le-leb}
use lib.ListN.{length, get_or, take, drop, length-take, length-drop, get_or-replicate, drop_of_length-le, get_or-append}
use lib.Seq.{get_or-append-add, get_or-take, get_or-drop, length-take-le}
use Rattle.wire_content.specs.Content.{fields_in}
use Rattle.wire_content.specs.Head.{head_in}
use Rattle.wire_content.specs.declared.head.ContentHead.{ContentHead}
use Rattle.image.specs.Region.{is_inside, region_bytes, blank, put, erase_of}
use Rattle.image.specs.declared.region.Region.{Region}
use Rattle.image.proofs.region.Within.{region_length, blank_length, within_same, inside, erase_inside, put_place, erase_length, write_put, write_length}
use Rattle.device_receiving.specs.declared.checks.ContentVerdict.{ContentVerdict}
use Rattle.device_receiving.specs.declared.checks.ContentVerdict.TheVariants.{Answer, Take}
use Rattle.device.specs.declared.record.Device.{Device}
use Rattle.device.specs.Record.{FitsDevice}
use Rattle.device.specs.Refusals.{Row, served, row_d, refusal_of}
use Rattle.device_receiving.specs.Content.{is_first, is_copy, take_block}
use Rattle.device_receiving.proofs.checks.Laws.{ContentSays, content_says}
use Rattle.device.specs.Content.{window, session_component, content_verdict, content_entry, content_staging}
use Rattle.device.specs.Promises.{TakesBlock, StagingChanges}
use Rattle.wire.proofs.Chain.{either}
use Rattle.device_session.proofs.sound.Laws.{open_slot_lem, region_inside}
use Rattle.device.proofs.Passes.{serves}

-- place j is not among the n places from `at` on
abbrev pub Outside : (at n j : ℕ) → Type 0
Outside at n j = (j < at) ⊎ (at + n ≤ j)

module _ (at : ℕ) (bytes l : List ℕ) (h : at + length bytes ≤ length l) where
  front : length (take at l) ≡ at
  front = length-take-le at l (omega arith)

  -- bytes that are put stand where they were put
  pub put_in : (i : ℕ) → i < length bytes → get_or (put at bytes l) (at + i) 0 ≡ get_or bytes i 0
  unfolding put
  put_in i k =
      ap (λ (n : ℕ). get_or (take at l ++ (bytes ++ drop (at + length bytes) l)) (n + i) 0) (sym front)
      ∙ get_or-append-add (take at l) _ i 0 ∙ get_or-append bytes _ 0 i k

  -- every other byte stays
  pub put_out : (j : ℕ) → Outside at (length bytes) j → get_or (put at bytes l) j 0 ≡ get_or l j 0
  unfolding put
  put_out j (inl k) = get_or-append (take at l) _ 0 j (omega (arith, front)) ∙ get_or-take at l j 0 k
  put_out j (inr k) =
      let n = at + length bytes in
      let e : length (take at l) + (length bytes + (j - n)) ≡ j = omega (arith, front) in
      let f : n + (j - n) ≡ j = omega arith in
      ap (λ (i : ℕ). get_or (take at l ++ (bytes ++ drop n l)) i 0) (sym e)
      ∙ get_or-append-add (take at l) (bytes ++ drop n l) (length bytes + (j - n)) 0
      ∙ get_or-append-add bytes (drop n l) (j - n) 0 ∙ get_or-drop n l (j - n) 0 ∙ ap (λ (i : ℕ). get_or l i 0) f

module _ (r : Region) (s : List ℕ) (h : is_inside r (length s) ≡ true) where
  -- an erase puts as many bytes as the region has at its base
  erase_put : erase_of r s ≡ put r.base.0 (blank r.len) s
  unfolding blank put
  erase_put =
      let n = region_length r s (inside r (length s) h) in
      erase_inside r s h
      ∙ within_same r (λ old. blank r.len) (put 0 (blank r.len)) s
      (sym (ap (λ (t : List ℕ). blank r.len ++ t) (drop_of_length-le (region_bytes r s) {i = 0 + length (blank r.len)} (omega (arith, n, blank_length r.len))) ∙ append-nil _))
      ∙ put_place r (record { 0 = 0 }) (blank r.len) s (inside r (length s) h) (omega (arith, blank_length r.len))
      ∙ ap (λ (a : ℕ). put a (blank r.len) s) (base_zero r.base.0)
    where
      base_zero : (b : ℕ) → b + 0 ≡ b
      base_zero b = omega arith

  -- so that each of its bytes is 0xFF
  erased : (j : ℕ) → j < r.len → get_or (erase_of r s) (r.base.0 + j) 0 ≡ 0xFF
  unfolding blank
  erased j k =
      let n = inside r (length s) h in
      rw erase_put
      (put_in r.base.0 (blank r.len) s (omega (arith, blank_length r.len)) j (omega (arith, blank_length r.len))
      ∙ get_or-replicate r.len j 0xFF 0 k)

  -- and every other byte stays
  erased_out : (j : ℕ) → Outside r.base.0 r.len j → get_or (erase_of r s) j 0 ≡ get_or s j 0
  erased_out j k =
      let n = inside r (length s) h in
      let l = blank_length r.len in rw erase_put (put_out r.base.0 (blank r.len) s (omega (arith, l)) j (rw l k))

-- the data that a block uses: as many bytes as it says, each from its place in the report
module _ (n : ℕ) (p : List ℕ) where
  used_length : n ≤ 52 → length p ≡ 60 → length (take n (drop 8 p)) ≡ n
  used_length h l = simp (length-take, length-drop) (omega arith)

  used_byte : (i : ℕ) → i < n → get_or (take n (drop 8 p)) i 0 ≡ get_or p (8 + i) 0
  used_byte i k = get_or-take n (drop 8 p) i 0 k ∙ get_or-drop 8 p i 0

-- a byte of a buffer that a test picks
picked : (b : Bool) (l m : List ℕ) (j : ℕ) → get_or (cond b l m) j 0 ≡ cond b (get_or l j 0) (get_or m j 0)
picked true l m j = refl
picked false l m j = refl

module _ (r : Region) (c : ContentHead) (bytes s : List ℕ) where
  -- the buffer that a block's data are written to
  abbrev before : List ℕ
  before = cond (is_first c) (erase_of r s) s

  before_length : length before ≡ length s
  before_length = either (λ (l : List ℕ). length l ≡ length s) (is_first c) _ _ (erase_length r s) refl

  block_length : length (take_block r c bytes s) ≡ length s
  unfolding take_block
  block_length = write_length r before c.address _ ∙ before_length

  module _ (i : is_inside r (length s) ≡ true) (u : length (take c.length bytes) ≡ c.length) (f : c.address.0 + c.length ≤ r.len) where
    n : r.base.0 + r.len ≤ length s
    n = inside r (length s) i

    -- a block puts its data at the offset of their address
    block_put : take_block r c bytes s ≡ put (r.base.0 + c.address.0) (take c.length bytes) before
    unfolding take_block
    block_put = write_put r before c.address _ (rw before_length i) (rw u (le-leb _ _ f))

    room : r.base.0 + c.address.0 + length (take c.length bytes) ≤ length before
    room = rw (u, before_length) (omega (arith, n))

    block_in : (j : ℕ) → c.address.0 ≤ j → j < c.address.0 + c.length
        → get_or (take_block r c bytes s) (r.base.0 + j) 0 ≡ get_or (take c.length bytes) (j - c.address.0) 0
    block_in j p q =
        let a = c.address.0 in
        let e : r.base.0 + a + (j - a) ≡ r.base.0 + j = omega arith in
        rw (block_put, ← e) (put_in (r.base.0 + a) _ before room (j - a) (omega (arith, u)))

    block_out : (j : ℕ) → Outside (r.base.0 + c.address.0) c.length j → get_or (take_block r c bytes s) j 0 ≡ get_or before j 0
    block_out j o = rw block_put (put_out (r.base.0 + c.address.0) _ before room j (rw u o))

    block_rest : (j : ℕ) → j < r.len → Outside c.address.0 c.length j
        → get_or (take_block r c bytes s) (r.base.0 + j) 0 ≡ cond (is_first c) 0xFF (get_or s (r.base.0 + j) 0)
    block_rest j p o =
        block_out (r.base.0 + j) (past o) ∙ picked (is_first c) (erase_of r s) s (r.base.0 + j) ∙ rw (erased r s i j p)
      where
        past : Outside c.address.0 c.length j → Outside (r.base.0 + c.address.0) c.length (r.base.0 + j)
        past (inl q) = inl (omega arith)
        past (inr q) = inr (omega arith)

    block_beside : (j : ℕ) → Outside r.base.0 r.len j → get_or (take_block r c bytes s) j 0 ≡ get_or s j 0
    block_beside j o =
        block_out j (past o) ∙ either (λ (l : List ℕ). get_or l j 0 ≡ get_or s j 0) (is_first c) _ _ (erased_out r s i j o) refl
      where
        past : Outside r.base.0 r.len j → Outside (r.base.0 + c.address.0) c.length j
        past (inl q) = inl (omega arith)
        past (inr q) = inr (omega arith)

-- the buffer keeps its length, and changes only by a block
abbrev ByBlock : Device → (staging report : List ℕ) → Type 0
ByBlock d staging report =
    (length (content_staging d staging report) ≡ length staging) × ((content_staging d staging report ≡ staging) ⊎ TakesBlock d staging report)

-- .. whatever numbers stand in the report
pub changes : (d : Device) (staging report : List ℕ) → FitsDevice d → ByBlock d staging report
unfolding content_staging content_entry fields_in
changes d staging report f = go (refusal_of 60 d (length staging) (length report)) refl where
  c : ContentHead
  c = head_in report

  by_verdict : (v : ContentVerdict) → content_verdict d report ≡ v → ContentSays (session_component d).fixed.region d.session.stage c v → refusal_of 60 d (length staging) (length report) ≡ served → ByBlock d staging report
  by_verdict (Answer s) e says r = (rw (r, e), inl (rw (r, e)))
  by_verdict (Take k) e says r =
      let v = serves 60 d (length staging) (length report) r in
      let i : is_inside (window d k) (length staging) ≡ true = rw v.staging (region_inside k v.record_passes f.slots (open_slot_lem k v.record_passes says.0).0) in
      let u = used_length c.length report says.1 v.report in
      let fit : c.address.0 + c.length ≤ (window d k).len = rw says.0 at says.2 in (
        rw (r, e, says.0) (block_length (window d k) c (drop 8 report) staging),
        inr (record {
          slot = k;
          opened = says.0;
          row = rw r;
          verdict = e;
          written = λ j p q. rw (r, e, says.0) (block_in (window d k) c (drop 8 report) staging i u fit j p q ∙ used_byte c.length report (j - c.address.0) (omega arith));
          rest = λ j p o. rw (r, e, says.0) (block_rest (window d k) c (drop 8 report) staging i u fit j p o);
          beside = λ j o. rw (r, e, says.0) (block_beside (window d k) c (drop 8 report) staging i u fit j o);
        }),
      )

  go : (row : Row) → refusal_of 60 d (length staging) (length report) ≡ row → ByBlock d staging report
  go served r = by_verdict (content_verdict d report) refl (content_says (session_component d).fixed.region d.session.stage (is_copy d.session.previous report) c) r
  go (row_d k) r = (rw r, inl (rw r))

pub staging_changes : StagingChanges
staging_changes d staging report f h = changes d staging report f
