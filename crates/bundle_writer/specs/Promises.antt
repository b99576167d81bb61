-- What holds of every bundle that the writer makes (document 02, A3).
use Rattle.std.specs.Prelude.{ℕ, ◌+◌, ◌*◌, ◌≤◌, ◌≡◌, List, [], ◌∷◌, map, length, take, drop}
use Rattle.wire.specs.Bytes.{Bytes}
use Rattle.wire.specs.Checks.{All}
use Rattle.bundle_layout.specs.Layout.{bundle_limit, head_size, entry_size, count_in, entries_in, offer_in}
use Rattle.bundle_layout.specs.Rows as bundle
use Rattle.bundle.specs.Contents.{blocks_in}
use Rattle.bundle_cut.specs.Cut.{image_records, image_body}
use Rattle.bundle_cut.specs.Rule.{Apart}
use Rattle.bundle_given.specs.Given.{count_of, entries_of, image_at}
use Rattle.bundle_writer.specs.Bundle.{made_bundle}
use Rattle.bundle_writer.specs.Rows.{served, row_w, write_row}
use Rattle.bundle_writer.specs.Answer.{Made, make_of}

-- the check accepts it; its table holds the offers that were given, in their order, and its bodies the records of their images
pub record MadeBack (list images b : List ℕ) : Type 0 where
  pub bytes : Bytes b
  pub accepted : bundle.bundle_row b ≡ bundle.served
  pub count : count_in b ≡ count_of list
  pub offers : map offer_in (entries_in b) ≡ map offer_in (entries_of list)
  pub records : map (blocks_in b) (entries_in b) ≡ map (λ e. image_records (image_at images e)) (entries_of list)

abbrev pub MadeReadsBack : Type 0
MadeReadsBack = (list images : List ℕ) (room : ℕ) → Bytes list → Bytes images → write_row list images room ≡ served
    → MadeBack list images (made_bundle list images)

-- in each of its bodies the records are in rising address and do not overlap
abbrev pub MadeApart : Type 0
MadeApart = (list images : List ℕ) (room : ℕ) → Bytes list → Bytes images → write_row list images room ≡ served
    → All (λ e. Apart (blocks_in (made_bundle list images) e)) (entries_in (made_bundle list images))

-- each of its bodies has two records at least: byte 4 of an image is an id, which is not 0xFF, so some place before the CRC is kept
abbrev pub MadeTwo : Type 0
MadeTwo = (list images : List ℕ) (room : ℕ) → Bytes list → Bytes images → write_row list images room ≡ served
    → All (λ e. 2 ≤ length (blocks_in (made_bundle list images) e)) (entries_in (made_bundle list images))

-- the lengths of the bodies, added up
unfoldable pub bodies_length : (images : List ℕ) → List (List ℕ) → ℕ
bodies_length images [] = 0
bodies_length images (e ∷ es) = length (image_body (image_at images e)) + bodies_length images es

-- how long a bundle is: the head, the table and the bodies; and it is within the limit and the room
abbrev pub MadeLength : Type 0
MadeLength = (list images : List ℕ) (room : ℕ) → write_row list images room ≡ served
    → (length (made_bundle list images) ≡ head_size + entry_size * count_of list + bodies_length images (entries_of list))
    × (length (made_bundle list images) ≤ bundle_limit)
    × (length (made_bundle list images) ≤ room)

-- what is left of the output: a refusal leaves all of it; otherwise it begins with the bundle, and from the answered length on it is as it was
pub record Frame (list images out : List ℕ) (made : Made) : Type 0 where
  pub refused : (k entry : ℕ) → made.row ≡ row_w k entry → (made.out ≡ out) × (made.length ≡ 0)
  pub written : made.row ≡ served → take made.length made.out ≡ made_bundle list images
  pub rest : drop made.length made.out ≡ drop made.length out
  pub size : length made.out ≡ length out

abbrev pub MadeFrame : Type 0
MadeFrame = (list images out : List ℕ) → Frame list images out (make_of list images out)
