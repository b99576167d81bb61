-- The bundle's layout (document 01, "The bundle"): byte 0 count, byte 1 = 1, bytes 2-7 zero; per offer 24 bytes, the offer, the body's offset (4)
-- and its length (4); then the bodies.
use Rattle.std.specs.Prelude.{ℕ, zero, suc, ◌+◌, ◌*◌, List, [], ◌∷◌, get_or, take, drop}
use Rattle.wire.specs.Bytes.{number, bytes_at}
use Rattle.wire.specs.Codes.{short_size}
use Rattle.wire_offer.specs.Offer.{blank_offer}
use Rattle.bundle_layout.specs.declared.Entry.{Entry}

-- the largest bundle, the most offers
abbrev pub bundle_limit : ℕ
bundle_limit = 65536

abbrev pub offer_limit : ℕ
offer_limit = 7

-- the lengths of the head and of an entry of the table
abbrev pub head_size : ℕ
head_size = 8

abbrev pub entry_size : ℕ
entry_size = 24

abbrev pub count_in : List ℕ → ℕ
count_in b = get_or b 0 0

-- where the table of n offers ends
abbrev pub table_end : ℕ → ℕ
table_end n = head_size + entry_size * n

-- n entries of a table, ENTRY bytes each
unfoldable pub entries_from : ℕ → List ℕ → List (List ℕ)
entries_from zero q = []
entries_from (suc n) q = take entry_size q ∷ entries_from n (drop entry_size q)

-- the entries of a bundle
unfoldable pub entries_in : List ℕ → List (List ℕ)
entries_in b = entries_from (count_in b) (drop head_size b)

-- of an entry: the 16 bytes of its offer, the offer's id, its body's offset and length
abbrev pub offer_in : List ℕ → List ℕ
offer_in e = take short_size e

abbrev pub id_in : List ℕ → ℕ
id_in e = get_or e 2 0

abbrev pub offset_in : List ℕ → ℕ
offset_in e = number (bytes_at 4 short_size e)

abbrev pub length_in : List ℕ → ℕ
length_in e = number (bytes_at 4 20 e)

-- the body of an entry
unfoldable pub body_in : (b e : List ℕ) → List ℕ
body_in b e = take (length_in e) (drop (offset_in e) b)

-- no entry
abbrev pub blank_entry : Entry
blank_entry = record { offer = blank_offer; offset = 0; length = 0; records = 0 }
