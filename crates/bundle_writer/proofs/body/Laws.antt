-- What is left of a body at a place of the walk, and one step of it. Assumes nothing.
use mathlib.Core.Path.{◌≡◌, refl, sym, ap, ◌∙◌}
use mathlib.Core.List.{List, [], ◌∷◌, ◌++◌, append_assoc, append-nil}
use Prim.Native.Nat.{ℕ, ◌+◌, ◌-◌, ◌≤◌, ◌<◌}
use native.Mathlib.Omega.{arith}
use lib.ListN.{length, take, drop, take-append-drop, length-append, length-take, length-drop}
use lib.Seq.{length-take-le, take_all, take-take}
use Rattle.bundle_records.specs.Record.{Block, data_limit, block_bytes}
use Rattle.bundle_records.specs.Parse.{written}
use Rattle.bundle_records.proofs.Parts.{drop_take}
use Rattle.image.specs.Region.{put}
use Rattle.image.proofs.region.Within.{put_length}
use Rattle.bundle_cut.specs.declared.Piece.{Piece}
use Rattle.bundle_cut.specs.declared.Piece.TheVariants.{End, Gap, Data}
use Rattle.bundle_cut.specs.Cut.{piece_at, record_of, onwards, cut_from, cut, crc_place, before_crc, image_body}
use Rattle.bundle_cut.proofs.Pieces.{Says, says, one_step}
use Rattle.bundle_writer.proofs.Puts.{part_long, part_on, part_left}

-- the bytes of the records of d from place `at` on
abbrev pub left : (d : List ℕ) → (at : ℕ) → List ℕ
left d at = written (cut_from (length d) d at)

-- a record's bytes
pub record_length : (d : List ℕ) (at to : ℕ) → to ≤ length d → length (block_bytes (record_of d at to)) ≡ 5 + (to - at)
record_length d at to h = simp (length-take, length-drop) (omega arith)

-- the bytes before the CRC are as many as its place says
pub length_before : (m : List ℕ) → length (before_crc m) ≡ crc_place m
length_before m = length-take-le (crc_place m) m (omega arith)

-- what a step says of it
abbrev pub Step : (d : List ℕ) → (at : ℕ) → Piece → Type 0
Step d at End = left d at ≡ []
Step d at (Gap to) = (left d at ≡ left d to) × (at < to) × (to ≤ length d)
Step d at (Data to) = (left d at ≡ block_bytes (record_of d at to) ++ left d to) × (at < to) × (to ≤ length d) × (to ≤ at + data_limit)

-- one step
pub step : (d : List ℕ) (at : ℕ) → Step d at (piece_at d at)
unfolding written
step d at = go (piece_at d at) (says d at) (one_step d (length d) at (omega arith)) where
  go : (p : Piece) → Says d at p → cut_from (length d) d at ≡ onwards (cut_from (length d) d) d at p → Step d at p
  go End s e = ap written e
  go (Gap to) s e = (ap written e, omega (arith, s.long, s.next), s.inside)
  go (Data to) s e = (ap written e, s.some, s.inside, s.few)

-- a record less to count
pub left_data : (d : List ℕ) (at to : ℕ) → Step d at (Data to) → length (left d at) ≡ 5 + (to - at) + length (left d to)
left_data d at to s =
    ap length s.0 ∙ length-append (block_bytes (record_of d at to)) (left d to) ∙ ap (λ n. n + length (left d to)) (record_length d at to s.2)

-- a body is the bytes of its records and those of the CRC's
written_append : (rs ss : List Block) → written (rs ++ ss) ≡ written rs ++ written ss
unfolding written
written_append [] ss = refl
written_append (r ∷ rs) ss = rw (written_append rs ss) (sym (append_assoc (block_bytes r) (written rs) (written ss)))

abbrev pub crc_bytes : List ℕ → List ℕ
crc_bytes m = block_bytes (record_of m (crc_place m) (length m))

pub body_is : (m : List ℕ) → image_body m ≡ left (before_crc m) 0 ++ crc_bytes m
unfolding written
body_is m = written_append (cut (before_crc m)) (record_of m (crc_place m) (length m) ∷ []) ∙ ap (λ t. written (cut (before_crc m)) ++ t) (append-nil (crc_bytes m))

-- a record of the bytes before the CRC is one of the image
pub record_whole : (m : List ℕ) (n at to : ℕ) → to ≤ n → record_of (take n m) at to ≡ record_of m at to
record_whole m n at to h =
    ap (λ (bytes : List ℕ). record { address = record { 0 = at }; bytes = bytes }) (ap (take (to - at)) (drop_take at n m) ∙ take-take (to - at) (n - at) (drop at m) (omega arith))

-- a body that is being written from place `start` of an output: what stands there, and what is left
pub record Going (out₀ : List ℕ) (start : ℕ) (m : List ℕ) (out : List ℕ) (at end : ℕ) : Type 0 where
  pub done : out ≡ put start (take (end - start) (image_body m)) out₀
  pub rest : drop (end - start) (image_body m) ≡ left (before_crc m) at ++ crc_bytes m
  pub begun : start ≤ end
  pub inside : at ≤ crc_place m
  pub long : length out ≡ length out₀

module _ (out₀ : List ℕ) (start : ℕ) (m : List ℕ) where
  -- at the start nothing is written
  pub going : start ≤ length out₀ → Going out₀ start m out₀ 0 start
  unfolding put
  going h =
      let z : start - start ≡ 0 = omega arith in
      let e : start + 0 ≡ start = omega arith in record {
        done = rw (z, e) (sym (take-append-drop start out₀));
        rest = rw z (body_is m);
        begun = omega arith;
        inside = omega arith;
        long = refl;
      }

  module _ (out : List ℕ) (at end : ℕ) (g : Going out₀ start m out at end) where
    -- how much is written, and how much is left
    pub going_long : length (image_body m) ≡ end - start + (length (left (before_crc m) at) + (5 + (length m - crc_place m)))
    going_long =
        let r = record_length m (crc_place m) (length m) (omega arith) in
        let n = length-drop (end - start) (image_body m) in
        let e = ap length g.rest ∙ length-append (left (before_crc m) at) (crc_bytes m) in omega arith

    -- a run that is left out
    pub going_gap : (to : ℕ) → Step (before_crc m) at (Gap to) → Going out₀ start m out to end
    going_gap to s = record {
      done = g.done;
      rest = g.rest ∙ ap (λ l. l ++ crc_bytes m) s.0;
      begun = g.begun;
      inside = omega (arith, s.2, length_before m);
      long = g.long;
    }

    module _ (fits : start + length (image_body m) ≤ length out₀) where
      -- some bytes more of it, with what is left after them
      more : (b rest : List ℕ) → 0 < length b → drop (end - start) (image_body m) ≡ b ++ rest
          → (put end b out ≡ put start (take (end - start + length b) (image_body m)) out₀) × (drop (end - start + length b) (image_body m) ≡ rest)
      more b rest h e =
          let n = part_long start (end - start) (image_body m) b rest out₀ e h in
          let p = part_on start (end - start) (image_body m) b rest out₀ e (omega arith) fits in
          let q : start + (end - start) ≡ end = omega (arith, g.begun) in
          (rw g.done (rw q at p), part_left start (end - start) (image_body m) b rest out₀ e)

      -- a record
      pub going_data : (to : ℕ) → Step (before_crc m) at (Data to) → Going out₀ start m (put end (block_bytes (record_of m at to)) out) to (end + (5 + (to - at)))
      going_data to s =
          let l = length_before m in
          let w = record_whole m (crc_place m) at to (omega (arith, s.2)) in
          let r = record_length m at to (omega (arith, s.2)) in
          let b = block_bytes (record_of m at to) in
          let e : drop (end - start) (image_body m) ≡ b ++ (left (before_crc m) to ++ crc_bytes m) =
          g.rest ∙ ap (λ x. x ++ crc_bytes m) (s.0 ∙ ap (λ x. block_bytes x ++ left (before_crc m) to) w) ∙ append_assoc b (left (before_crc m) to) (crc_bytes m) in
          let t = more b (left (before_crc m) to ++ crc_bytes m) (omega arith) e in
          let k : end - start + length b ≡ end + (5 + (to - at)) - start = omega (arith, g.begun) in record {
            done = rw (← k) t.0;
            rest = rw (← k) t.1;
            begun = omega (arith, g.begun);
            inside = omega (arith, s.2);
            long = put_length end b out (omega (arith, g.begun, g.long, part_long start (end - start) (image_body m) b _ out₀ e (omega arith))) ∙ g.long;
          }

      -- the CRC, and with it the whole
      pub gone : Step (before_crc m) at End → (put end (crc_bytes m) out ≡ put start (image_body m) out₀) × (end + 5 + (length m - crc_place m) ≡ start + length (image_body m))
      gone s =
          let r = record_length m (crc_place m) (length m) (omega arith) in
          let e : drop (end - start) (image_body m) ≡ crc_bytes m ++ [] = g.rest ∙ ap (λ x. x ++ crc_bytes m) s ∙ sym (append-nil (crc_bytes m)) in
          let t = more (crc_bytes m) [] (omega arith) e in
          let n = part_long start (end - start) (image_body m) (crc_bytes m) [] out₀ e (omega arith) in
          (t.0 ∙ ap (λ w. put start w out₀) (take_all (end - start + length (crc_bytes m)) (image_body m) (omega arith)), omega (arith, g.begun))
