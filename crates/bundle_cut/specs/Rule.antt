-- The rule of the records (document 02, A3), said of places and not of a walk; that `cut` is the one list of records with it; and the lengths that follow.
use Rattle.std.specs.Prelude.{ℕ, suc, ◌+◌, ◌-◌, ◌*◌, ◌/◌, ◌^◌, ◌≤◌, ◌<◌, ◌≡◌, ◌⊎◌, ◌↔◌, List, [], ◌∷◌, ◌++◌, length, get_or}
use Rattle.wire.specs.Bytes.{Bytes}
use Rattle.wire.specs.Checks.{All}
use Rattle.bundle_records.specs.Record.{Block, Sound, data_limit}
use Rattle.bundle_records.specs.Walk.{between}
use Rattle.bundle_cut.specs.Cut.{erased_byte, run_least, crc_size, cut, before_crc, image_records, image_body}

-- a longest run: n bytes 0xFF from place a on, with none just before and none just after
pub record LongestRun (d : List ℕ) (a n : ℕ) : Type 0 where
  pub inside : a + n ≤ length d
  pub erased : (x : ℕ) → a ≤ x → x < a + n → get_or d x 0 ≡ erased_byte
  pub begins : (x : ℕ) → suc x ≡ a → get_or d x 0 ≡ erased_byte → ⊥
  pub ends : a + n < length d → get_or d (a + n) 0 ≡ erased_byte → ⊥

-- place x is left out: it stands in a longest run of 52 or more
pub record LeftOut (d : List ℕ) (x : ℕ) : Type 0 where
  pub start : ℕ
  pub size : ℕ
  pub run : LongestRun d start size
  pub long : run_least ≤ size
  pub from : start ≤ x
  pub below : x < start + size

-- every other place of the bytes is kept
abbrev pub Kept : (d : List ℕ) → (x : ℕ) → Type 0
Kept d x = (x < length d) × (LeftOut d x → ⊥)

-- where a record ends
abbrev pub end_of : Block → ℕ
end_of r = r.address.0 + length r.bytes

-- some record has a byte for place x
unfoldable pub Covers : List Block → (x : ℕ) → Type 0
Covers [] x = ⊥
Covers (r ∷ rs) x = ((r.address.0 ≤ x) × (x < end_of r)) ⊎ Covers rs x

-- each record ends before the next one begins, or where it begins
unfoldable pub Apart : List Block → Type 0
Apart [] = Unit {0}
Apart (r ∷ []) = Unit {0}
Apart (r ∷ s ∷ rs) = (end_of r ≤ s.address.0) × Apart (s ∷ rs)

-- a record that the next one follows without a gap is full
unfoldable pub Full : List Block → Type 0
Full [] = Unit {0}
Full (r ∷ []) = Unit {0}
Full (r ∷ s ∷ rs) = (end_of r ≡ s.address.0 → length r.bytes ≡ data_limit) × Full (s ∷ rs)

-- a record has from 1 to 52 bytes, and they are those of d at its address
pub record TakenFrom (d : List ℕ) (r : Block) : Type 0 where
  pub some : 1 ≤ length r.bytes
  pub few : length r.bytes ≤ data_limit
  pub bytes : r.bytes ≡ between d r.address.0 (end_of r)

-- the rule: the records cover exactly the places that are kept, in rising address, cut at 52 bytes. The count starts anew after each run that is left out, so
-- that only the last record before such a run, or before the end, may be shorter.
pub record CutBy (d : List ℕ) (rs : List Block) : Type 0 where
  pub covers : (x : ℕ) → Covers rs x ↔ Kept d x
  pub apart : Apart rs
  pub full : Full rs
  pub parts : All (TakenFrom d) rs

-- `cut` has the rule
abbrev pub CutRule : Type 0
CutRule = (d : List ℕ) → CutBy d (cut d)

-- and no other list of records has
abbrev pub CutOnly : Type 0
CutOnly = (d : List ℕ) (rs : List Block) → CutBy d rs → rs ≡ cut d

-- the rule of an image: the records of the bytes before the CRC, and a last one with the two bytes of the CRC
pub record ImageBy (m : List ℕ) (rs : List Block) : Type 0 where
  pub front : List Block
  pub last : Block
  pub whole : rs ≡ front ++ (last ∷ [])
  pub before : CutBy (before_crc m) front
  pub size : length (before_crc m) + 2 ≡ length m
  pub place : last.address.0 + 2 ≡ length m
  pub crc : last.bytes ≡ get_or m (length m - 2) 0 ∷ get_or m (length m - 1) 0 ∷ []

abbrev pub ImageRule : Type 0
ImageRule = (m : List ℕ) → 2 ≤ length m → ImageBy m (image_records m)

-- the records of an image are in rising address, the CRC's among them, and do not overlap
abbrev pub ImageApart : Type 0
ImageApart = (m : List ℕ) → Apart (image_records m)

-- they can be written
abbrev pub ImageSound : Type 0
ImageSound = (m : List ℕ) → Bytes m → crc_size ≤ length m → length m ≤ 256 ^ 4 → All Sound (image_records m)

-- n bytes in parts of 52, the last of which may be shorter
abbrev pub parts52 : (n : ℕ) → ℕ
parts52 n = (n + 51) / 52

-- how many records an image has at most, and how long its body is at most
pub record BodyAtMost (m : List ℕ) : Type 0 where
  pub records : length (image_records m) ≤ parts52 (length (before_crc m)) + 1
  pub body : length (image_body m) ≤ length (before_crc m) + 5 * parts52 (length (before_crc m)) + 7

abbrev pub BodyBound : Type 0
BodyBound = (m : List ℕ) → crc_size ≤ length m → BodyAtMost m

-- where no run is left out, that is how many and how long
pub record BodyExactly (m : List ℕ) : Type 0 where
  pub records : length (image_records m) ≡ parts52 (length (before_crc m)) + 1
  pub body : length (image_body m) ≡ length (before_crc m) + 5 * parts52 (length (before_crc m)) + 7

abbrev pub BodySize : Type 0
BodySize = (m : List ℕ) → crc_size ≤ length m → ((x : ℕ) → LeftOut (before_crc m) x → ⊥) → BodyExactly m
