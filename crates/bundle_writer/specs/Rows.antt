-- Rows W1 to W8 (document 02, A3), in that order. As document 01 has it of the B rows, each is tried over the whole list before the next, and W2 to W6 answer
-- the entry that they name, counted from 1, or 0 where they refuse nothing; W1, W7 and W8 name no entry.
use Rattle.std.specs.Prelude.{ℕ, Result, Ok, Err, List, [], ◌∷◌, ltb, length}
use Rattle.wire.specs.Checks.{first_of}
use Rattle.bundle_layout.specs.Layout.{bundle_limit}
use Rattle.bundle_layout.specs.Rows.{first_entry, repeated, named}
use Rattle.bundle_writer.specs.declared.WriteRefusal.{WriteRefusal}
use Rattle.bundle_writer.specs.declared.rows.WriteRow.{WriteRow}
use Rattle.bundle_writer.specs.declared.rows.WriteRow.TheVariants.{W1, W2, W3, W4, W5, W6, W7, W8}
use Rattle.bundle_given.specs.declared.EntryRule.{EntryRule}
use Rattle.bundle_given.specs.declared.EntryRule.TheVariants.{Offer, Lent, Crc, Bears}
use Rattle.bundle_given.specs.Given.{entries_of}
use Rattle.bundle_given.specs.Entry.{bad_list, breaks}
use Rattle.bundle_writer.specs.Bundle.{made_bundle}

-- the rows of document 02 that the writer gives out, with the entry
pub data Row : Type 0 where
  served : Row
  row_w : (number entry : ℕ) → Row

-- the number of each row
abbrev pub number_of : WriteRow → ℕ
number_of W1 = 1
number_of W2 = 2
number_of W3 = 3
number_of W4 = 4
number_of W5 = 5
number_of W6 = 6
number_of W7 = 7
number_of W8 = 8

-- the number of the row that an answer refuses by, or 0 where no row refuses
abbrev pub number_told : {A : Type 0} → Result A WriteRefusal → ℕ
number_told (Ok x) = 0
number_told (Err r) = number_of r.row

-- the row of a refusal
abbrev pub row_of : WriteRefusal → Row
row_of r = row_w (number_of r.row) r.place

-- the first entry that breaks a rule, or 0
unfoldable pub first_breaking : EntryRule → (list images : List ℕ) → ℕ
first_breaking rule list images = first_entry (breaks rule images) 1 (entries_of list)

-- W3: id already used earlier, B6's rule on the list; the later entry
unfoldable pub row_w3 : List ℕ → ℕ
row_w3 list = repeated [] 1 (entries_of list)

-- the rows, in checking order; `room` is the output's length
unfoldable pub write_row : (list images : List ℕ) → (room : ℕ) → Row
write_row list images room =
    first_of (
    (bad_list list, row_w 1 0)
    ∷ (named (first_breaking Offer list images), row_w 2 (first_breaking Offer list images))
    ∷ (named (row_w3 list), row_w 3 (row_w3 list))
    ∷ (named (first_breaking Lent list images), row_w 4 (first_breaking Lent list images))
    ∷ (named (first_breaking Crc list images), row_w 5 (first_breaking Crc list images))
    ∷ (named (first_breaking Bears list images), row_w 6 (first_breaking Bears list images))
    ∷ (ltb bundle_limit (length (made_bundle list images)), row_w 7 0)
    ∷ (ltb room (length (made_bundle list images)), row_w 8 0)
    ∷ [])
    served
