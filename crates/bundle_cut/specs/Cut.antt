-- How an image is cut into the records of a body (document 02, A3). The two bytes of the CRC are always the last record. Of the bytes before them, each longest
-- run of 52 or more bytes 0xFF is left out, and what is left is cut at 52 bytes in rising address. Specs.Rule says the same rule without a walk.
use Rattle.std.specs.Prelude.{ℕ, zero, suc, ◌+◌, ◌-◌, cond, List, [], ◌∷◌, ◌++◌, eqb, leb, length, take, drop}
use Rattle.bundle_records.specs.Record.{Block, data_limit}
use Rattle.bundle_records.specs.Parse.{written}
use Rattle.bundle_records.specs.Walk.{between}
use Rattle.bundle_cut.specs.declared.Piece.{Piece}
use Rattle.bundle_cut.specs.declared.Piece.TheVariants.{End, Gap, Data}

-- what an erase leaves
abbrev pub erased_byte : ℕ
erased_byte = 0xFF

-- the shortest run of it that is left out
abbrev pub run_least : ℕ
run_least = 52

-- the bytes of the CRC, at the end of an image
abbrev pub crc_size : ℕ
crc_size = 2

-- how many bytes 0xFF some bytes begin with
unfoldable pub leading : List ℕ → ℕ
leading [] = 0
leading (b ∷ bs) = cond (eqb b erased_byte) (suc (leading bs)) 0

-- how many bytes 0xFF stand from place x on
abbrev pub run_at : (d : List ℕ) → (x : ℕ) → ℕ
run_at d x = leading (drop x d)

-- how many bytes, at most n, stand before the end and before the first place with 52 or more bytes 0xFF from it on
unfoldable pub reach : (n : ℕ) → List ℕ → ℕ
reach zero d = 0
reach (suc n) [] = 0
reach (suc n) (b ∷ bs) = cond (leb run_least (leading (b ∷ bs))) 0 (suc (reach n bs))

-- the piece that begins at place `at`, where a walk from place 0 comes there: nothing more, a run that is left out, or the bytes of a record, with the place
-- after it. The bytes before `at` are not looked at.
unfoldable pub piece_at : (d : List ℕ) → (at : ℕ) → Piece
piece_at d at =
    cond (leb (length d) at) End
    (cond (leb run_least (run_at d at)) (Gap (at + run_at d at)) (Data (at + reach data_limit (drop at d))))

-- the record of the bytes from one place to another
abbrev pub record_of : (d : List ℕ) → (at to : ℕ) → Block
record_of d at to = record { address = record { 0 = at }; bytes = between d at to }

-- by what stands at a place, and what becomes of the rest
abbrev pub onwards : (ℕ → List Block) → (d : List ℕ) → (at : ℕ) → Piece → List Block
onwards next d at End = []
onwards next d at (Gap to) = next to
onwards next d at (Data to) = record_of d at to ∷ next to

-- the records from place `at` on, in at most `fuel` pieces
unfoldable pub cut_from : (fuel : ℕ) → (d : List ℕ) → (at : ℕ) → List Block
cut_from zero d at = []
cut_from (suc fuel) d at = onwards (cut_from fuel d) d at (piece_at d at)

-- the records of the bytes before the CRC: a piece has a byte at least
abbrev pub cut : List ℕ → List Block
cut d = cut_from (length d) d 0

-- the place of the CRC, and the bytes before it
abbrev pub crc_place : List ℕ → ℕ
crc_place m = length m - crc_size

abbrev pub before_crc : List ℕ → List ℕ
before_crc m = take (crc_place m) m

-- the records of an image, and the body that they are written to
abbrev pub image_records : List ℕ → List Block
image_records m = cut (before_crc m) ++ (record_of m (crc_place m) (length m) ∷ [])

abbrev pub image_body : List ℕ → List ℕ
image_body m = written (image_records m)
