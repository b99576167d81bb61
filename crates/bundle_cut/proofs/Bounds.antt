-- How many records an image has, and how long its body is. Assumes nothing.
use mathlib.Core.Path.{◌≡◌, refl}
use mathlib.Core.Logic.{◌⊎◌, inl, inr}
use mathlib.Core.List.{List, [], ◌∷◌, ◌++◌}
use Prim.Native.Nat.{ℕ, suc, ◌+◌, ◌-◌, ◌*◌, ◌≤◌, ◌<◌}
use native.Mathlib.Decide.{dec_lt}
use native.Mathlib.Omega.{arith}
use lib.ListN.{length, length-append}
use Rattle.bundle_records.specs.Record.{Block, data_limit}
use Rattle.bundle_records.specs.Parse.{written}
use Rattle.bundle_cut.specs.Cut.{run_least, crc_size, run_at, record_of, cut, crc_place, before_crc, image_records, image_body}
use Rattle.bundle_cut.specs.Rule.{LeftOut, parts52, BodyBound, BodySize}
use Rattle.bundle_cut.proofs.Runs.{run_inside}
use Rattle.bundle_cut.proofs.Pieces.{IsGap, IsData, by_pieces}
use Rattle.bundle_cut.proofs.Order.{record_ends, data_ends}
use Rattle.bundle_cut.proofs.Longest.{left_out}

-- the data of records, without their heads
unfoldable data_size : List Block → ℕ
data_size [] = 0
data_size (r ∷ rs) = length r.bytes + data_size rs

written_size : (rs : List Block) → length (written rs) ≡ 5 * length rs + data_size rs
unfolding written data_size
written_size [] = refl
written_size (r ∷ rs) = omega (arith, length-append r.bytes (written rs), written_size rs)

data_on : (rs : List Block) (s : Block) → data_size (rs ++ (s ∷ [])) ≡ data_size rs + length s.bytes
unfolding data_size
data_on [] s = omega arith
data_on (r ∷ rs) s = omega (arith, data_on rs s)

module _ (d : List ℕ) where
  -- a record is full, or ends where the bytes end or a run that is left out begins
  data_stops : (at to : ℕ) → IsData d at to → (to ≡ at + data_limit) ⊎ ((to ≡ length d) ⊎ (run_least ≤ run_at d to))
  data_stops at to g = go (dec_lt to (at + data_limit)) (dec_lt to (length d)) where
    go : Dec (to < at + data_limit) → Dec (to < length d) → (to ≡ at + data_limit) ⊎ ((to ≡ length d) ⊎ (run_least ≤ run_at d to))
    go (no h) k = inl (omega (arith, g.few))
    go (yes h) (no k) = inr (inl (omega (arith, g.inside)))
    go (yes h) (yes k) = inr (inr (g.stops h k))

  -- how many records from a place on, and one less where a gap stands there
  record Few (at : ℕ) (rs : List Block) : Type 0 where
    records : 52 * length rs ≤ length d - at + 51
    fewer : run_least ≤ run_at d at → 52 * length rs < length d - at
    bytes : data_size rs ≤ length d - at

  cut_few : Few 0 (cut d)
  unfolding data_size
  cut_few = by_pieces d Few none gap part where
    none : (at : ℕ) → at ≡ length d → Few at []
    none at e = record { records = omega arith; fewer = λ h. absurd (omega (arith, run_inside d at (omega arith))); bytes = omega arith }

    gap : (at to : ℕ) (rs : List Block) → IsGap d at to → Few to rs → Few at rs
    gap at to rs g f =
        let l : at + run_least ≤ to = omega (arith, g.next, g.long) in
        let i = g.inside in
        record { records = omega (arith, f.records); fewer = λ h. omega (arith, f.records); bytes = omega (arith, f.bytes) }

    part : (at to : ℕ) (rs : List Block) → IsData d at to → Few to rs → Few at (record_of d at to ∷ rs)
    part at to rs g f =
        let s = g.some in
        let i = g.inside in
        record {
          records = count (data_stops at to g);
          fewer = λ h. absurd (omega (arith, g.short at (omega arith) s));
          bytes = omega (arith, data_ends d at to g, f.bytes);
        }
      where
        count : (to ≡ at + data_limit) ⊎ ((to ≡ length d) ⊎ (run_least ≤ run_at d to)) → 52 * suc (length rs) ≤ length d - at + 51
        count (inl h) = omega (arith, f.records, g.inside)
        count (inr (inl h)) = omega (arith, f.records, g.some)
        count (inr (inr h)) = omega (arith, f.fewer h, g.some, g.inside)

  -- where no place is left out, each record but the last is full
  record Exact (at : ℕ) (rs : List Block) : Type 0 where
    records : length rs ≡ parts52 (length d - at)
    bytes : data_size rs ≡ length d - at

  cut_exact : ((x : ℕ) → LeftOut d x → ⊥) → Exact 0 (cut d)
  unfolding data_size
  cut_exact n = by_pieces d Exact (λ at e. record { records = omega arith; bytes = omega arith }) gap part where
    no_run : (at : ℕ) → at ≤ length d → run_least ≤ run_at d at → ⊥
    no_run at h l = n at (left_out d at at h l (omega arith) (omega arith))

    gap : (at to : ℕ) (rs : List Block) → IsGap d at to → Exact to rs → Exact at rs
    gap at to rs g f = absurd (no_run at (omega (arith, g.next, g.inside)) g.long)

    part : (at to : ℕ) (rs : List Block) → IsData d at to → Exact to rs → Exact at (record_of d at to ∷ rs)
    part at to rs g f = record { records = count (data_stops at to g); bytes = omega (arith, data_ends d at to g, f.bytes, g.some, g.inside) } where
      count : (to ≡ at + data_limit) ⊎ ((to ≡ length d) ⊎ (run_least ≤ run_at d to)) → suc (length rs) ≡ parts52 (length d - at)
      count (inl h) = omega (arith, f.records, g.inside)
      count (inr (inl h)) = omega (arith, f.records, g.some, g.few)
      count (inr (inr h)) = absurd (no_run to g.inside h)

-- the record of the CRC is one more, of two bytes

module _ (m : List ℕ) (h : crc_size ≤ length m) where
  abbrev before : List Block
  before = cut (before_crc m)

  image_count : length (image_records m) ≡ length before + 1
  image_count = length-append before (record_of m (crc_place m) (length m) ∷ [])

  image_size : length (image_body m) ≡ 5 * length before + data_size before + 7
  image_size =
      let e = record_ends m (crc_place m) (length m) (omega arith) (omega arith) in
      omega (arith, written_size (image_records m), image_count, data_on before (record_of m (crc_place m) (length m)))

pub body_bound : BodyBound
body_bound m h =
    let f = cut_few (before_crc m) in
    let k : length (before m h) ≤ parts52 (length (before_crc m)) = omega (arith, f.records) in
    record { records = omega (arith, image_count m h); body = omega (arith, image_size m h, f.bytes) }

pub body_size : BodySize
body_size m h n =
    let f = cut_exact (before_crc m) n in
    let k : length (before m h) ≡ parts52 (length (before_crc m)) = omega (arith, f.records) in
    record { records = omega (arith, image_count m h); body = omega (arith, image_size m h, f.bytes) }
