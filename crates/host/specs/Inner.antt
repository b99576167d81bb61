-- The inner step: over what the check answered for a bundle, the body in hand, and a cursor, the place of the record after the one in hand. A refused bundle is
-- answered by its row, and the rest is judged by tests of constant time: what is out of range is N1. Over what the check answers, with the right cursor, it is
-- the step.
use Rattle.std.specs.Prelude.{Option, Some, None, Result, Ok, Err, ℕ, zero, suc, ◌+◌, ◌≤◌, ◌≡◌, cond, List, [], eqb, length, drop}
use Rattle.wire.specs.Bytes.{Bytes}
use Rattle.bundle_records.specs.declared.Next.{Next}
use Rattle.bundle_records.specs.declared.Next.TheVariants as next
use Rattle.bundle_records.specs.Parse.{whole, records_of}
use Rattle.bundle_records.specs.Walk.{between, next_of}
use Rattle.bundle_layout.specs.Rows as bundle
use Rattle.bundle_layout.specs.declared.BundleRefusal.{BundleRefusal}
use Rattle.bundle.specs.Contents.{Contents, check_of}
use Rattle.host_record.specs.declared.record.Host.{Host}
use Rattle.host_record.specs.declared.record.HostStage.{HostStage}
use Rattle.host_record.specs.declared.record.HostStage.TheVariants.{Fresh, Opening, Listing, Offering, Waiting, Sending, Closing, Ended}
use Rattle.host_record.specs.declared.fits.Body.{Body}
use Rattle.host_record.specs.Fits.{body_of, in_hand}
use Rattle.host_decide.specs.declared.Move.{Move}
use Rattle.host_decide.specs.Decide.{decision_of}
use Rattle.host_packet.specs.Packet.{packet_size}
use Rattle.host_packet.specs.Answer.{row_b, row_n, refused_by}
use Rattle.host_packet.specs.Made.{InnerStep, made_of}
use Rattle.host.specs.Step.{blocks_at, step_of}

-- over an accepted bundle: N1, or the move
abbrev pub inner_on : (b : List ℕ) → (hand : Body) → (cursor : ℕ) → Host → Option Move → InnerStep
inner_on b hand cursor h None = record { step = refused_by (row_n 1) h; cursor = cursor }
inner_on b hand cursor h (Some m) = made_of b hand cursor h m.host m.action

-- the inner step, by the row of the check, how many offers the bundle has, and the body in hand; a refused bundle answers its row, sends nothing and keeps
-- the record
unfoldable pub inner_of : (b : List ℕ) → bundle.Row → (count : ℕ) → (hand : Body) → (cursor : ℕ) → Host → (reply : List ℕ) → InnerStep
inner_of b bundle.served count hand cursor h reply = inner_on b hand cursor h (decision_of count hand.records h reply)
inner_of b (bundle.row_b k entry) count hand cursor h reply = record { step = refused_by (row_b k entry) h; cursor = cursor }

-- what is known of the check of a bundle, how many offers it has or the refusal, as a row and a count
abbrev pub row_given : Result ℕ BundleRefusal → bundle.Row
row_given (Ok count) = bundle.served
row_given (Err r) = bundle.refusal_row r

abbrev pub count_given : Result ℕ BundleRefusal → ℕ
count_given (Ok count) = count
count_given (Err r) = 0

-- its packet written into lent bytes; where these are not packet_size the row is the same, but nothing is written and nothing sent, and the record is kept
abbrev pub lent : (packet : List ℕ) → Host → (cursor : ℕ) → InnerStep → InnerStep
lent packet h cursor i =
    cond (eqb (length packet) packet_size) i (record { step = record { row = i.step.row; sent = []; packet = packet; host = h }; cursor = cursor })

-- the inner step over the contents of a bundle
abbrev pub inner_for : (b : List ℕ) → Contents → (cursor : ℕ) → Host → (reply : List ℕ) → InnerStep
inner_for b c cursor h reply = inner_of b c.row c.count (body_of c (in_hand h.stage)) cursor h reply

-- the cursor stands after the record in hand: what follows it in the body is the records after that one
abbrev pub CursorIn : (b : List ℕ) → HostStage → (cursor : ℕ) → Type 0
CursorIn b Fresh cursor = Unit {0}
CursorIn b Opening cursor = Unit {0}
CursorIn b Listing cursor = Unit {0}
CursorIn b (Offering t) cursor = Unit {0}
CursorIn b (Waiting t) cursor = Unit {0}
CursorIn b (Sending a) cursor =
    (cursor ≤ (body_of (check_of b) a.place.entry).end)
    × (records_of (between b cursor (body_of (check_of b) a.place.entry).end) ≡ whole (drop (suc a.place.block) (blocks_at b a.place.entry)))
CursorIn b Closing cursor = Unit {0}
CursorIn b (Ended e) cursor = Unit {0}

-- over what the check answers for the bundle, with the right cursor, the inner step is the step, and leaves the cursor right
abbrev pub InnerIsStep : Type 0
InnerIsStep = (b : List ℕ) (h : Host) (cursor : ℕ) (reply : List ℕ) → Bytes b → CursorIn b h.stage cursor
    → ((inner_for b (check_of b) cursor h reply).step ≡ step_of b h reply)
    × CursorIn b (step_of b h reply).host.stage (inner_for b (check_of b) cursor h reply).cursor

-- on from what stands at a place: past a record, and no further where there is none
abbrev pub past_record : (from : ℕ → ℕ) → (at : ℕ) → Next → ℕ
past_record from at next.End = at
past_record from at next.Bad = at
past_record from at (next.Record address start size past) = from past

-- the place after the first `count` records that stand from `at` on; where there are fewer, the place after the last
unfoldable pub place_after : (b : List ℕ) → (at end count : ℕ) → ℕ
place_after b at end zero = at
place_after b at end (suc count) = past_record (λ past. place_after b past end count) at (next_of b at end)

-- the cursor of a record, found by a walk over the body in hand, and 0 where no block's reply is awaited
abbrev pub cursor_at : (b : List ℕ) → Body → HostStage → ℕ
cursor_at b body Fresh = 0
cursor_at b body Opening = 0
cursor_at b body Listing = 0
cursor_at b body (Offering t) = 0
cursor_at b body (Waiting t) = 0
cursor_at b body (Sending a) = place_after b body.start body.end (a.place.block + 1)
cursor_at b body Closing = 0
cursor_at b body (Ended e) = 0

-- the cursor of a record over the contents of a bundle
abbrev pub cursor_of : (b : List ℕ) → Contents → HostStage → ℕ
cursor_of b c stage = cursor_at b (body_of c (in_hand stage)) stage
