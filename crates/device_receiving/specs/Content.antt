-- A content packet: checks 1 to 6, erase and write (document 01, "The device"; document 02, A4), over its head, its data, the session's stage, whether it is a
-- copy of the session's previous packet, and the region of the session's component.
use Rattle.std.specs.Prelude.{ℕ, ◌/◌, ◌%◌, Bool, cond, not, ◌&&◌, ◌||◌, List, [], ◌∷◌, take, ◌==◌, nat_le, nat_lt}
use Rattle.wire.specs.Bytes.{same}
use Rattle.wire.specs.Checks.{first_of}
use Rattle.wire.specs.Codes.{success_status, error_invalid_addr, error_no_offer, error_invalid, flag_first_block, flag_last_block, packet_data_size}
use Rattle.wire_content.specs.Head.{head_in}
use Rattle.wire_content.specs.declared.head.ContentHead.{ContentHead}
use Rattle.image.specs.Region.{holds, erase_of, write_of}
use Rattle.image.specs.declared.region.Region.{Region}
use Rattle.device_session.specs.Stage.{is_open, is_receiving, at_slot, sequence_verdict, is_again, is_wrong}
use Rattle.device_session.specs.declared.stage.Stage.{Stage}
use Rattle.device_receiving.specs.declared.checks.ContentVerdict.{ContentVerdict}
use Rattle.device_receiving.specs.declared.checks.ContentVerdict.TheVariants.{Answer, Take}

-- flags
abbrev pub is_first : ContentHead → Bool
is_first c = nat_le flag_first_block c.flags

abbrev pub is_last : ContentHead → Bool
is_last c = c.flags / flag_last_block % 2 == 1

-- check 1: idle
abbrev pub no_offer : Stage → Bool
no_offer stage = not (is_open stage)

-- check 2: length 0 or over 52, or a flag bit other than the two
abbrev pub bad_shape : ContentHead → Bool
bad_shape c = (c.length == 0 || nat_lt packet_data_size c.length) || not (c.flags % flag_last_block == 0)

-- check 3: offered without first, or receiving with first
abbrev pub bad_first : Stage → ContentHead → Bool
bad_first stage c = (not (is_receiving stage) && not (is_first c)) || (is_receiving stage && is_first c)

-- a copy of the previous packet: the same 60 bytes, of a block that was neither first nor last (document 02, A4)
abbrev pub is_copy : (previous report : List ℕ) → Bool
is_copy previous report = same previous report && not (is_first (head_in report) || is_last (head_in report))

-- check 4, in two parts: receiving, and the block just taken is sent again; receiving, and the sequence is wrong
abbrev pub sent_again : Stage → (copy : Bool) → ContentHead → Bool
sent_again stage copy c = is_again (sequence_verdict stage copy c.sequence)

abbrev pub bad_sequence : Stage → (copy : Bool) → ContentHead → Bool
bad_sequence stage copy c = is_wrong (sequence_verdict stage copy c.sequence)

-- check 5: address and length past the region
abbrev pub bad_address : Region → ContentHead → Bool
bad_address region c = not (holds region c.address c.length)

-- checks 1 to 6: the first that applies
unfoldable pub content_verdict : Region → Stage → (copy : Bool) → ContentHead → ContentVerdict
content_verdict region stage copy c =
    first_of (
    (no_offer stage, Answer error_no_offer)
    ∷ (bad_shape c, Answer error_invalid)
    ∷ (bad_first stage c, Answer error_invalid)
    ∷ (sent_again stage copy c, Answer success_status)
    ∷ (bad_sequence stage copy c, Answer error_invalid)
    ∷ (bad_address region c, Answer error_invalid_addr)
    ∷ [])
    (Take (at_slot stage))

-- check 6: on first, fill the region with 0xFF; write the data
unfoldable pub take_block : Region → ContentHead → (bytes s : List ℕ) → List ℕ
take_block region c bytes s = write_of region c.address (take c.length bytes) (cond (is_first c) (erase_of region s) s)
