-- Row N1 (document 01, "Numbered refusals"): a record that does not fit a bundle, by how many offers the bundle has and how many records the body in hand has.
use Rattle.std.specs.Prelude.{ℕ, ◌+◌, ◌^◌, Bool, false, ◌||◌, List, ltb, leb, eqb, get_or}
use Rattle.bundle_layout.specs.declared.Entry.{Entry}
use Rattle.bundle_layout.specs.Layout.{offer_limit, blank_entry}
use Rattle.bundle.specs.Contents.{Contents}
use Rattle.host_record.specs.declared.record.Host.{Host}
use Rattle.host_record.specs.declared.record.Turn.{Turn}
use Rattle.host_record.specs.declared.record.Place.{Place}
use Rattle.host_record.specs.declared.fits.Body.{Body}
use Rattle.host_record.specs.declared.record.HostStage.{HostStage}
use Rattle.host_record.specs.declared.record.HostStage.TheVariants.{Fresh, Opening, Listing, Offering, Waiting, Sending, Closing, Ended}

-- the most BUSY replies to one offer in one pass that do not end the host
abbrev pub busy_limit : ℕ
busy_limit = 8

-- a record counts fewer packets than this
abbrev pub packet_limit : ℕ
packet_limit = 2 ^ 31

-- N1, for a bundle of n offers: points at an entry that the bundle lacks, or counts over 8 BUSY
abbrev pub turn_breaks : (n : ℕ) → Turn → Bool
turn_breaks n t = leb n t.entry || ltb busy_limit t.busy

-- N1, where the body in hand has k records: points at an entry or a body record that the bundle lacks; no bundle has an entry past the limit
abbrev pub place_breaks : (n k : ℕ) → Place → Bool
place_breaks n k p = leb n p.entry || (leb offer_limit p.entry || leb k p.block)

abbrev pub stage_breaks : (n k : ℕ) → HostStage → Bool
stage_breaks n k Fresh = false
stage_breaks n k Opening = false
stage_breaks n k Listing = false
stage_breaks n k (Offering t) = turn_breaks n t
stage_breaks n k (Waiting t) = turn_breaks n t
stage_breaks n k (Sending a) = place_breaks n k a.place
stage_breaks n k Closing = false
stage_breaks n k (Ended e) = false

-- N1: .. more passes than offers, 2^31 or more packets, or a mask bit past its offers
abbrev pub record_breaks : (n k : ℕ) → Host → Bool
record_breaks n k h =
    stage_breaks n k h.stage
    || (ltb n h.passes || (leb packet_limit h.packets || leb (2 ^ n) h.mask))

-- the block in hand is the last of its body, which has k records
abbrev pub is_last_of : (k : ℕ) → Place → Bool
is_last_of k p = eqb (p.block + 1) k

abbrev pub last_of : (k : ℕ) → HostStage → Bool
last_of k Fresh = false
last_of k Opening = false
last_of k Listing = false
last_of k (Offering t) = false
last_of k (Waiting t) = false
last_of k (Sending a) = is_last_of k a.place
last_of k Closing = false
last_of k (Ended e) = false

-- an entry of the contents, and how many records its body has
abbrev pub listed_at : Contents → ℕ → Entry
listed_at c i = get_or c.table i blank_entry

abbrev pub records_on : Contents → ℕ → ℕ
records_on c i = (listed_at c i).records

-- the body of an entry: where it starts and ends, and how many records it has
abbrev pub entry_body : Entry → Body
entry_body e = record { start = e.offset; end = e.offset + e.length; records = e.records }

-- .. of the entry at a place of a table; past the table it is empty
abbrev pub body_on : List Entry → ℕ → Body
body_on table i = entry_body (get_or table i blank_entry)

abbrev pub body_of : Contents → ℕ → Body
body_of c i = body_on c.table i

-- the entry in hand, and 0 where there is none
abbrev pub in_hand : HostStage → ℕ
in_hand Fresh = 0
in_hand Opening = 0
in_hand Listing = 0
in_hand (Offering t) = t.entry
in_hand (Waiting t) = t.entry
in_hand (Sending a) = a.place.entry
in_hand Closing = 0
in_hand (Ended e) = 0
