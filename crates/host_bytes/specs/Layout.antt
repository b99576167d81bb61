-- The host's record as bytes of a fixed length, little-endian, for whoever keeps it outside of Rattle; and what the check of a bundle answers, with the
-- cursor of the inner step and the block that it is kept for, as bytes.
use Rattle.std.specs.Prelude.{Option, Some, None, Result, Ok, Err, ℕ, zero, suc, ◌+◌, ◌*◌, ◌-◌, ◌^◌, ◌%◌, Bool, true, false, not, cond, ◌&&◌, ◌||◌, List, [], ◌∷◌, ◌++◌, eqb, leb, ltb, length, get_or, take, drop}
use Rattle.wire.specs.Bytes.{number, bytes_of, bytes_at}
use Rattle.wire_offer.specs.Offer.{blank_offer}
use Rattle.bundle_layout.specs.Layout.{offer_limit}
use Rattle.bundle_layout.specs.Rows.{last_row}
use Rattle.bundle_layout.specs.Rows as bundle
use Rattle.bundle_layout.specs.declared.BundleRefusal.{BundleRefusal}
use Rattle.bundle_layout.specs.declared.BundleRow.{BundleRow}
use Rattle.bundle_layout.specs.declared.Entry.{Entry}
use Rattle.bundle.specs.Contents.{Contents}
use Rattle.host_record.specs.Fits.{body_of, in_hand}
use Rattle.host_record.specs.declared.fits.Body.{Body}
use Rattle.host_record.specs.declared.record.Host.{Host}
use Rattle.host_record.specs.declared.record.Place.{Place}
use Rattle.host_record.specs.declared.record.HostStage.{HostStage}
use Rattle.host_record.specs.declared.record.HostStage.TheVariants.{Fresh, Opening, Listing, Offering, Waiting, Sending, Closing, Ended}
use Rattle.host_record.specs.declared.record.End.{End}
use Rattle.host_record.specs.declared.record.End.TheVariants as end
use Rattle.host_packet.specs.Answer.{Row, served, row_b, row_n}
use Rattle.host_packet.specs.Made.{InnerStep}
use Rattle.host.specs.Inner.{cursor_at}
use Rattle.host_bytes.specs.declared.stage.StageWords.{StageWords}

-- the size of a word
abbrev pub word_size : ℕ
word_size = 4

-- words one after the other
unfoldable pub words_bytes : List ℕ → List ℕ
words_bytes [] = []
words_bytes (v ∷ vs) = bytes_of 4 v ++ words_bytes vs

-- where the fields of a record stand, and its length
abbrev pub token_at : ℕ
token_at = 0

abbrev pub stage_start : ℕ
stage_start = token_at + 1

abbrev pub first_at : ℕ
first_at = stage_start + 1

abbrev pub second_at : ℕ
second_at = first_at + word_size

abbrev pub mask_at : ℕ
mask_at = second_at + word_size

abbrev pub packets_at : ℕ
packets_at = mask_at + word_size

abbrev pub passes_at : ℕ
passes_at = packets_at + word_size

abbrev pub skipped_at : ℕ
skipped_at = passes_at + word_size

abbrev pub landed_at : ℕ
landed_at = skipped_at + 1

abbrev pub passed_offset : ℕ
passed_offset = landed_at + 1

abbrev pub host_size : ℕ
host_size = passed_offset + 1

-- a stage as its number and two words, zero where it has none: the entry and its BUSY replies, the entry and the block, or the end: its number (0 done, 1 to 4
-- for H1 to H4) and the content status of H1
abbrev pub end_words : End → StageWords
end_words end.Done = record { number = 7; first = 0; second = 0 }
end_words (end.Status s) = record { number = 7; first = 1; second = s }
end_words end.Foreign = record { number = 7; first = 2; second = 0 }
end_words end.Unexpected = record { number = 7; first = 3; second = 0 }
end_words end.Busy = record { number = 7; first = 4; second = 0 }

abbrev pub stage_words : HostStage → StageWords
stage_words Fresh = record { number = 0; first = 0; second = 0 }
stage_words Opening = record { number = 1; first = 0; second = 0 }
stage_words Listing = record { number = 2; first = 0; second = 0 }
stage_words (Offering t) = record { number = 3; first = t.entry; second = t.busy }
stage_words (Waiting t) = record { number = 4; first = t.entry; second = t.busy }
stage_words (Sending a) = record { number = 5; first = a.place.entry; second = a.place.block }
stage_words Closing = record { number = 6; first = 0; second = 0 }
stage_words (Ended e) = end_words e

abbrev pub stage_bytes : HostStage → List ℕ
stage_bytes s = (stage_words s).number ∷ bytes_of 4 (stage_words s).first ++ bytes_of 4 (stage_words s).second

-- 1 where it holds
abbrev pub flag_byte : Bool → ℕ
flag_byte false = 0
flag_byte true = 1

-- whether a reply was passed over while a block's is awaited (document 02, A4); never in another stage
abbrev pub passed_in : HostStage → Bool
passed_in Fresh = false
passed_in Opening = false
passed_in Listing = false
passed_in (Offering t) = false
passed_in (Waiting t) = false
passed_in (Sending a) = a.passed
passed_in Closing = false
passed_in (Ended e) = false

-- the record: token, stage, mask, packets, passes, whether this pass had a SKIP and a completed image, and whether a reply was passed over
unfoldable pub host_bytes : Host → List ℕ
host_bytes h =
    h.token
    ∷ stage_bytes h.stage
    ++ (bytes_of 4 h.mask
    ++ (bytes_of 4 h.packets ++ (bytes_of 4 h.passes ++ flag_byte h.skipped ∷ flag_byte h.landed ∷ flag_byte (passed_in h.stage) ∷ [])))

-- the fields that stand in bytes, unjudged (`are_flags` judges the flags, in every stage); what the stage has no use for is no part of them
abbrev pub end_in : (number status : ℕ) → End
end_in n status =
    cond (eqb n 1) (end.Status (status % 256))
    (cond (eqb n 2) end.Foreign (cond (eqb n 3) end.Unexpected (cond (eqb n 4) end.Busy end.Done)))

abbrev pub stage_in : (stage first second : ℕ) → (passed : Bool) → HostStage
stage_in stage first second passed =
    cond (eqb stage 1) Opening
    (cond (eqb stage 2) Listing
    (cond (eqb stage 3) (Offering (record { entry = first; busy = second }))
    (cond (eqb stage 4) (Waiting (record { entry = first; busy = second }))
    (cond (eqb stage 5) (Sending (record { place = record { entry = first; block = second }; passed = passed }))
    (cond (eqb stage 6) Closing
    (cond (eqb stage 7) (Ended (end_in first second)) Fresh))))))

unfoldable pub host_in : List ℕ → Host
host_in b = record {
  token = get_or b token_at 0;
  stage = stage_in (get_or b stage_start 0) (number (bytes_at 4 first_at b)) (number (bytes_at 4 second_at b)) (eqb (get_or b passed_offset 0) 1);
  mask = number (bytes_at 4 mask_at b);
  packets = number (bytes_at 4 packets_at b);
  passes = number (bytes_at 4 passes_at b);
  skipped = eqb (get_or b skipped_at 0) 1;
  landed = eqb (get_or b landed_at 0) 1;
}

-- each number is one that a record has: the stage's, the end's where the host has ended, and the three booleans
abbrev pub are_flags : (stage end skipped landed passed : ℕ) → Bool
are_flags stage end skipped landed passed = leb stage 7 && ((not (eqb stage 7) || leb end 4) && (leb skipped 1 && (leb landed 1 && leb passed 1)))

unfoldable pub flags_fit : List ℕ → Bool
flags_fit b = are_flags (get_or b stage_start 0) (number (bytes_at 4 first_at b)) (get_or b skipped_at 0) (get_or b landed_at 0) (get_or b passed_offset 0)

-- a record that N1 refuses over every bundle: it counts more packets than any host may
abbrev pub refused_host : Host
refused_host = record { token = 0; stage = Fresh; mask = 0; packets = 2 ^ 32 - 1; passes = 0; skipped = false; landed = false }

-- the record that stands in bytes; bytes of another length, or with a flag that no record has, are read as a record that N1 refuses
unfoldable pub read_host : List ℕ → Host
read_host b = cond (eqb (length b) host_size && flags_fit b) (host_in b) refused_host

-- the contents of a checked bundle: the number of the row that refuses it, 0 for none, and the entry that this names; the count; from bodies_start on, for as
-- many offers as a bundle may have, offset, length and records of a body; from hand_start on the block that the cursor is kept for, its entry and its number; and the cursor
abbrev pub row_offset : ℕ
row_offset = 0

abbrev pub entry_offset : ℕ
entry_offset = row_offset + 1

abbrev pub count_at : ℕ
count_at = entry_offset + 1

abbrev pub bodies_start : ℕ
bodies_start = count_at + 1

-- where the length and the number of records of a body stand in its part, and the length of that part
abbrev pub length_offset : ℕ
length_offset = word_size

abbrev pub records_offset : ℕ
records_offset = length_offset + word_size

abbrev pub body_part_size : ℕ
body_part_size = records_offset + word_size

abbrev pub hand_start : ℕ
hand_start = bodies_start + offer_limit * body_part_size

abbrev pub block_offset : ℕ
block_offset = hand_start + word_size

abbrev pub cursor_start : ℕ
cursor_start = block_offset + word_size

abbrev pub contents_size : ℕ
contents_size = cursor_start + 2 * word_size

abbrev pub row_bytes : bundle.Row → List ℕ
row_bytes bundle.served = 0 ∷ 0 ∷ []
row_bytes (bundle.row_b k entry) = k ∷ entry ∷ []

abbrev pub body_bytes : Entry → List ℕ
body_bytes e = bytes_of 4 e.offset ++ (bytes_of 4 e.length ++ bytes_of 4 e.records)

unfoldable pub bodies_bytes : List Entry → List ℕ
bodies_bytes [] = []
bodies_bytes (e ∷ es) = body_bytes e ++ bodies_bytes es

abbrev pub hand_bytes : Place → (cursor : ℕ) → List ℕ
hand_bytes p cursor = bytes_of 4 p.entry ++ (bytes_of 4 p.block ++ bytes_of 8 cursor)

-- no block is in hand: an entry that no bundle has
abbrev pub no_place : Place
no_place = record { entry = 2 ^ 32 - 1; block = 2 ^ 32 - 1 }

unfoldable pub contents_bytes : Contents → Place → (cursor : ℕ) → List ℕ
contents_bytes c p cursor = row_bytes c.row ++ (c.count ∷ bodies_bytes c.table ++ hand_bytes p cursor)

-- what stands in bytes, unjudged: the inner step judges what it takes of them. An offer is read from the bundle, never from here
abbrev pub row_in : List ℕ → bundle.Row
row_in q = bundle.row_at (get_or q row_offset 0) (get_or q entry_offset 0)

-- what they keep of the check: how many offers the bundle has, or its refusal; a number past the last row's is that of B8
abbrev pub checked_by : Option BundleRow → (entry count : ℕ) → Result ℕ BundleRefusal
checked_by None entry count = Ok count
checked_by (Some row) entry count = Err (record { row = row; place = entry })

abbrev pub checked_in : List ℕ → Result ℕ BundleRefusal
checked_in q = checked_by (bundle.verdict_of (get_or q row_offset 0)) (get_or q entry_offset 0) (get_or q count_at 0)

abbrev pub body_in : List ℕ → Entry
body_in q = record { offer = blank_offer; offset = number (bytes_at 4 0 q); length = number (bytes_at 4 length_offset q); records = number (bytes_at 4 records_offset q) }

unfoldable pub bodies_in : ℕ → List ℕ → List Entry
bodies_in zero q = []
bodies_in (suc n) q = body_in q ∷ bodies_in n (drop body_part_size q)

unfoldable pub contents_in : List ℕ → Contents
contents_in q = record { row = row_in q; place = get_or q entry_offset 0; count = get_or q count_at 0; table = bodies_in offer_limit (drop bodies_start q) }

-- the body of an entry of these; past the most offers it is empty, and so in bytes of another length than contents have
unfoldable pub body_read : List ℕ → ℕ → Body
body_read q i = cond (eqb (length q) contents_size && ltb i offer_limit) (body_of (contents_in q) i) (record { start = 0; end = 0; records = 0 })

abbrev pub place_in : List ℕ → Place
place_in q = record { entry = number (bytes_at 4 hand_start q); block = number (bytes_at 4 block_offset q) }

abbrev pub cursor_in : List ℕ → ℕ
cursor_in q = number (bytes_at 8 cursor_start q)

-- the number of a row of the check, and 0 for none; and how many offers an accepted bundle may have
abbrev pub is_row : ℕ → Bool
is_row k = leb k last_row

abbrev pub is_count : ℕ → Bool
is_count n = leb 1 n && leb n offer_limit

-- what is judged of bytes as contents: their length, that the row is one of the check's, and that there are 1 to offer_limit offers where no row refuses
abbrev pub are_contents : List ℕ → Bool
are_contents q =
    eqb (length q) contents_size && (is_row (get_or q row_offset 0) && (not (eqb (get_or q row_offset 0) 0) || is_count (get_or q count_at 0)))

-- the kept cursor is that of the block in hand
abbrev pub is_kept : List ℕ → HostStage → Bool
is_kept q Fresh = false
is_kept q Opening = false
is_kept q Listing = false
is_kept q (Offering t) = false
is_kept q (Waiting t) = false
is_kept q (Sending a) = eqb (place_in q).entry a.place.entry && eqb (place_in q).block a.place.block
is_kept q Closing = false
is_kept q (Ended e) = false

-- the cursor of a record over kept contents: the kept one where it is the record's own, and otherwise found by a walk over the body in hand
abbrev pub cursor_for : (b q : List ℕ) → HostStage → ℕ
cursor_for b q stage = cond (is_kept q stage) (cursor_in q) (cursor_at b (body_read q (in_hand stage)) stage)

-- the contents after a step: where the next block's reply is awaited, with that block and the cursor behind it
abbrev pub kept_with : (q : List ℕ) → HostStage → (cursor : ℕ) → List ℕ
kept_with q Fresh cursor = q
kept_with q Opening cursor = q
kept_with q Listing cursor = q
kept_with q (Offering t) cursor = q
kept_with q (Waiting t) cursor = q
kept_with q (Sending a) cursor = take hand_start q ++ hand_bytes a.place cursor
kept_with q Closing cursor = q
kept_with q (Ended e) cursor = q

-- the same in lent bytes; where these are not the one length, they stay as they are
abbrev pub kept_in : (q : List ℕ) → HostStage → (cursor : ℕ) → List ℕ
kept_in q stage cursor = cond (eqb (length q) contents_size) (kept_with q stage cursor) q

-- the bytes after a step, where it is served, and as they were where a row refuses it
abbrev pub kept_by : Row → (before after : List ℕ) → List ℕ
kept_by served before after = after
kept_by (row_b k entry) before after = before
kept_by (row_n k) before after = before

-- a refused step leaves the contents as they were
abbrev pub contents_after : (q : List ℕ) → InnerStep → List ℕ
contents_after q s = kept_by s.step.row q (kept_with q s.step.host.stage s.cursor)
