-- What the check answers: its row and, for an accepted bundle, the contents table; and the promises on accepted bundles.
use Rattle.std.specs.Prelude.{Result, Ok, Err, ℕ, ◌+◌, ◌-◌, ◌≤◌, ◌<◌, ◌≡◌, false, length, get_or, take, replicate}
use mathlib.Core.List.{List, [], ◌∷◌, ◌++◌, map, flatten}
use Rattle.wire.specs.Bytes.{Packet, Bytes, bytes_of}
use Rattle.wire.specs.Checks.{All}
use Rattle.wire.specs.Codes.{short_size}
use Rattle.wire_offer.specs.Offer.{fields_in}
use Rattle.bundle_records.specs.Record.{Block, Sound}
use Rattle.bundle_records.specs.Parse.{whole, records_of, blocks_of, written}
use Rattle.bundle_layout.specs.declared.Entry.{Entry}
use Rattle.bundle_layout.specs.declared.BundleRefusal.{BundleRefusal}
use Rattle.bundle_layout.specs.declared.Checked.{Checked}
use Rattle.bundle_layout.specs.Layout.{blank_entry, bundle_limit, offer_limit, count_in, table_end, entries_in, offer_in, id_in, offset_in, length_in, body_in}
use Rattle.bundle_layout.specs.Rows.{Row, served, row_b, refusal_row, bad_offer, bundle_row}

-- the records of an entry's body
abbrev pub blocks_in : (b e : List ℕ) → List Block
blocks_in b e = blocks_of (records_of (body_in b e))

-- an entry of the contents table
abbrev pub entry_in : (b e : List ℕ) → Entry
entry_in b e = record {
  offer = fields_in (offer_in e);
  offset = offset_in e;
  length = length_in e;
  records = length (blocks_in b e);
}

-- what the check answers: the row, the entry that it names, and the count and the table, which are zero where a row refuses
pub record Contents : Type 0 where
  pub row : Row
  pub place : ℕ
  pub count : ℕ
  pub table : List Entry

abbrev pub contents_by : Row → List ℕ → Contents
contents_by served b = record {
  row = served;
  place = 0;
  count = count_in b;
  table = map (entry_in b) (entries_in b) ++ replicate (offer_limit - count_in b) blank_entry;
}
contents_by (row_b k entry) b = record { row = row_b k entry; place = entry; count = 0; table = replicate offer_limit blank_entry }

-- the check
unfoldable pub check_of : List ℕ → Contents
check_of b = contents_by (bundle_row b) b

abbrev pub told_checked : Result Checked BundleRefusal → Contents
told_checked (Ok c) = record { row = served; place = 0; count = c.count; table = c.table }
told_checked (Err r) = record { row = refusal_row r; place = r.place; count = 0; table = replicate offer_limit blank_entry }

-- the bodies of a bundle
abbrev pub bodies_of : List ℕ → List (List ℕ)
bodies_of b = map (body_in b) (entries_in b)

-- a body that parses into a non-empty list of records
pub record GoodBody (body : List ℕ) : Type 0 where
  pub blocks : List Block
  pub reads : records_of body ≡ whole blocks
  pub some : 0 < length blocks
  pub sound : All Sound blocks

-- an accepted bundle's bodies tile the file, and each parses into a non-empty list of records
abbrev pub AcceptedTiles : Type 0
AcceptedTiles = (b : List ℕ) → Bytes b → bundle_row b ≡ served
    → (b ≡ take (table_end (count_in b)) b ++ flatten (bodies_of b)) × All GoodBody (bodies_of b)

-- a part of a layout: an offer of 16 bytes, with its records
pub record Part : Type 0 where
  pub offer : List ℕ
  pub blocks : List Block

-- the table of a layout, whose first body stands at `at`
unfoldable pub table_bytes : (at : ℕ) → List Part → List ℕ
table_bytes at [] = []
table_bytes at (p ∷ ps) =
    p.offer ++ (bytes_of 4 at ++ (bytes_of 4 (length (written p.blocks)) ++ table_bytes (at + length (written p.blocks)) ps))

-- the bundle of a layout
unfoldable pub bundle_bytes : List Part → List ℕ
bundle_bytes ps =
    length ps ∷ 1 ∷ replicate 6 0 ++ (table_bytes (table_end (length ps)) ps ++ flatten (map (λ p. written p.blocks) ps))

-- a part that B5 and B8 allow
pub record GoodPart (p : Part) : Type 0 where
  pub packet : Packet short_size p.offer
  pub offer : bad_offer p.offer ≡ false
  pub some : 0 < length p.blocks
  pub sound : All Sound p.blocks

-- any well-formed layout within the limits is accepted
abbrev pub LayoutAccepted : Type 0
LayoutAccepted = (ps : List Part) → 1 ≤ length ps → length ps ≤ offer_limit → All GoodPart ps
    → ((i j : ℕ) → i < j → j < length ps → id_in (get_or (map (λ p. p.offer) ps) i []) ≡ id_in (get_or (map (λ p. p.offer) ps) j []) → ⊥)
    → length (bundle_bytes ps) ≤ bundle_limit
    → bundle_row (bundle_bytes ps) ≡ served
