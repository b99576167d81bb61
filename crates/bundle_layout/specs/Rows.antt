-- Rows B1 to B8 (document 01, "Numbered refusals"), each over the whole bundle before the next. Rows B5 to B8 answer the entry that they name,
-- counted from 1, or 0 where they refuse nothing; B1 to B4 name no entry.
use Rattle.std.specs.Prelude.{ℕ, Option, Some, None, Result, Ok, Err, suc, ◌+◌, ◌-◌, Bool, true, false, not, cond, ◌||◌, List, [], ◌∷◌, ltb, eqb, length, get_or}
use Rattle.wire.specs.Checks.{first_of, any}
use Rattle.wire.specs.Codes.{protocol_number, id_limit}
use Rattle.bundle_records.specs.Parse.{Parsed, whole, broken, records_of}
use Rattle.bundle_layout.specs.declared.BundleRefusal.{BundleRefusal}
use Rattle.bundle_layout.specs.declared.BundleRow.{BundleRow}
use Rattle.bundle_layout.specs.declared.BundleRow.TheVariants.{B1, B2, B3, B4, B5, B6, B7, B8}
use Rattle.bundle_layout.specs.Layout.{bundle_limit, offer_limit, head_size, count_in, table_end, entries_in, id_in, offset_in, length_in, body_in}

-- the rows of document 01 that the check gives out, with the entry
pub data Row : Type 0 where
  served : Row
  row_b : (number entry : ℕ) → Row

-- the number of the last row
abbrev pub last_row : ℕ
last_row = 8

-- the number of each row
abbrev pub number_of : BundleRow → ℕ
number_of B1 = 1
number_of B2 = 2
number_of B3 = 3
number_of B4 = 4
number_of B5 = 5
number_of B6 = 6
number_of B7 = 7
number_of B8 = last_row

-- the number of the row that an answer refuses by, or 0 where no row refuses
abbrev pub number_told : {A : Type 0} → Result A BundleRefusal → ℕ
number_told (Ok x) = 0
number_told (Err r) = number_of r.row

-- the row of a number, with its entry
abbrev pub row_at : (number entry : ℕ) → Row
row_at number entry = cond (eqb number 0) served (row_b number entry)

-- the row that refuses, if any, with its entry; and the row of a refusal
abbrev pub row_of : Option BundleRow → ℕ → Row
row_of None entry = served
row_of (Some row) entry = row_b (number_of row) entry

abbrev pub refusal_row : BundleRefusal → Row
refusal_row r = row_b (number_of r.row) r.place

-- the row of a number: none for 0, and from the last row's on B8
abbrev pub verdict_list : List (Option BundleRow)
verdict_list = None ∷ Some B1 ∷ Some B2 ∷ Some B3 ∷ Some B4 ∷ Some B5 ∷ Some B6 ∷ Some B7 ∷ []

abbrev pub verdict_of : ℕ → Option BundleRow
verdict_of number = get_or verdict_list number (Some B8)

-- the first entry of which p holds, the first being number k
unfoldable pub first_entry : (List ℕ → Bool) → ℕ → List (List ℕ) → ℕ
first_entry p k [] = 0
first_entry p k (e ∷ es) = cond (p e) k (first_entry p (suc k) es)

-- B1: under 8 or over 65,536 bytes
abbrev pub bad_length : List ℕ → Bool
bad_length b = ltb (length b) head_size || ltb bundle_limit (length b)

-- B2: byte 1 not 1, or bytes 2-7 not zero
abbrev pub bad_head : List ℕ → Bool
bad_head b =
    not (eqb (get_or b 1 0) 1)
    || any (λ i. not (eqb (get_or b i 0) 0)) (2 ∷ 3 ∷ 4 ∷ 5 ∷ 6 ∷ 7 ∷ [])

-- B3: count not 1 to the limit
abbrev pub bad_count : List ℕ → Bool
bad_count b = ltb (count_in b) 1 || ltb offer_limit (count_in b)

-- B4: table past the end
abbrev pub cut_table : List ℕ → Bool
cut_table b = ltb (length b) (table_end (count_in b))

-- B5: an offer with bytes 0, 1, 3 or 13 not zero, byte 12 not 2, or id outside 1-0xDF
abbrev pub bad_offer : List ℕ → Bool
bad_offer e =
    any (λ i. not (eqb (get_or e i 0) 0)) (0 ∷ 1 ∷ 3 ∷ 13 ∷ [])
    || (not (eqb (get_or e 12 0) protocol_number) || (ltb (id_in e) 1 || ltb id_limit (id_in e)))

unfoldable pub row_b5 : List ℕ → ℕ
row_b5 b = first_entry bad_offer 1 (entries_in b)

-- B6: id already used earlier; the later entry
unfoldable pub repeated : (seen : List ℕ) → ℕ → List (List ℕ) → ℕ
repeated seen k [] = 0
repeated seen k (e ∷ es) = cond (any (eqb (id_in e)) seen) k (repeated (id_in e ∷ seen) (suc k) es)

unfoldable pub row_b6 : List ℕ → ℕ
row_b6 b = repeated [] 1 (entries_in b)

-- B7: offset not where the table or previous body ends, the first such entry; or last end not the file's end, the last entry
unfoldable pub gap : (size at k : ℕ) → List (List ℕ) → ℕ
gap size at k [] = cond (eqb at size) 0 (k - 1)
gap size at k (e ∷ es) = cond (eqb (offset_in e) at) (gap size (offset_in e + length_in e) (suc k) es) k

unfoldable pub row_b7 : List ℕ → ℕ
row_b7 b = gap (length b) (table_end (count_in b)) 1 (entries_in b)

-- B8: empty body, cut record, record length 0 or over 52
abbrev pub is_bad : Parsed → Bool
is_bad (whole []) = true
is_bad (whole (r ∷ rs)) = false
is_bad broken = true

abbrev pub bad_body : (b e : List ℕ) → Bool
bad_body b e = is_bad (records_of (body_in b e))

unfoldable pub row_b8 : List ℕ → ℕ
row_b8 b = first_entry (bad_body b) 1 (entries_in b)

-- a row that names an entry applies where there is one
abbrev pub named : ℕ → Bool
named place = not (eqb place 0)

-- the entry that a row names, and none where it names 0
abbrev pub placed : ℕ → Option ℕ
placed place = cond (named place) (Some place) None

-- the rows, in checking order
unfoldable pub bundle_row : List ℕ → Row
bundle_row b =
    first_of (
    (bad_length b, row_b 1 0)
    ∷ (bad_head b, row_b 2 0)
    ∷ (bad_count b, row_b 3 0)
    ∷ (cut_table b, row_b 4 0)
    ∷ (named (row_b5 b), row_b 5 (row_b5 b))
    ∷ (named (row_b6 b), row_b 6 (row_b6 b))
    ∷ (named (row_b7 b), row_b 7 (row_b7 b))
    ∷ (named (row_b8 b), row_b 8 (row_b8 b))
    ∷ [])
    served
