-- What an action sends, over the body in hand of a bundle that was checked once, and a cursor, the place of the record after the one in hand.
use Rattle.std.specs.Prelude.{ℕ, ◌+◌, Bool, true, false, cond, List, [], ◌∷◌, Option, Some, None, Result, Ok, Err, leb, eqb, length, set, take, drop}
use Rattle.wire.specs.Codes.{notify_on_ready, short_size}
use Rattle.wire_offer.specs.Signal.{information_bytes, extended_bytes}
use Rattle.bundle_records.specs.Walk.{next_of}
use Rattle.bundle_records.specs.declared.Next.{Next}
use Rattle.bundle_records.specs.declared.Next.TheVariants as next
use Rattle.bundle_layout.specs.Layout.{table_end}
use Rattle.host_record.specs.declared.record.Host.{Host}
use Rattle.host_record.specs.declared.record.Place.{Place}
use Rattle.host_record.specs.declared.fits.Body.{Body}
use Rattle.host_record.specs.Fits.{is_last_of}
use Rattle.host_decide.specs.declared.Action.{Action}
use Rattle.host_decide.specs.declared.Action.TheVariants as action
use Rattle.host_packet.specs.declared.answer.Stepped.{Stepped}
use Rattle.host_packet.specs.declared.answer.StepRefusal.{StepRefusal}
use Rattle.host_packet.specs.declared.answer.Written.{Written}
use Rattle.host_packet.specs.Packet.{packet_size, block_bytes}
use Rattle.host_packet.specs.Answer.{served, row_n, Step, filled, row_of, sent_by}

-- what is written into packet_size bytes: whether the step is served, what is sent, the bytes, and the place of the record after the one in hand
pub record Laid : Type 0 where
  pub served : Bool
  pub sent : List (List ℕ)
  pub packet : List ℕ
  pub cursor : ℕ

-- a packet is sent
abbrev pub sending : List ℕ → (cursor : ℕ) → Laid
sending p cursor = record { served = true; sent = p ∷ []; packet = filled (p ∷ []); cursor = cursor }

-- nothing is sent
abbrev pub silent : (cursor : ℕ) → Laid
silent cursor = record { served = true; sent = []; packet = filled []; cursor = cursor }

-- N1: the bundle lacks what the action is to send
abbrev pub lacking : (cursor : ℕ) → Laid
lacking cursor = record { served = false; sent = []; packet = filled []; cursor = cursor }

-- the offer of an entry with our token; where the bytes do not have it, N1
abbrev pub laid_offer : (b : List ℕ) → (cursor token entry : ℕ) → Laid
laid_offer b cursor token entry =
    cond (leb (table_end (entry + 1)) (length b)) (sending (set (take short_size (drop (table_end entry) b)) 3 token) cursor) (lacking cursor)

-- where the record of a block starts: at the body's start, or at the cursor
abbrev pub record_start : Body → (cursor block : ℕ) → ℕ
record_start body cursor block = cond (eqb block 0) body.start cursor

-- the block of the record that stands at its start; where none stands there, N1
abbrev pub laid_record : (b : List ℕ) → Body → (cursor : ℕ) → Place → Next → Laid
laid_record b body cursor p next.End = lacking cursor
laid_record b body cursor p next.Bad = lacking cursor
laid_record b body cursor p (next.Record address start size past) =
    sending (block_bytes p.block (is_last_of body.records p) (record { address = address; bytes = take size (drop start b) })) past

abbrev pub laid_block : (b : List ℕ) → Body → (cursor : ℕ) → Place → Laid
laid_block b body cursor p = laid_record b body cursor p (next_of b (record_start body cursor p.block) body.end)

-- what an action sends
unfoldable pub laid_of : (b : List ℕ) → Body → (cursor token : ℕ) → Action → Laid
laid_of b body cursor token action.Nothing = silent cursor
laid_of b body cursor token (action.Information code) = sending (information_bytes (record { code = code; token = token })) cursor
laid_of b body cursor token action.Notify = sending (extended_bytes (record { code = notify_on_ready; token = token })) cursor
laid_of b body cursor token (action.Offer entry) = laid_offer b cursor token entry
laid_of b body cursor token (action.Block p) = laid_block b body cursor p

-- the same, written into lent bytes; where these are not packet_size, nothing is written, nothing is sent, and it is not served
unfoldable pub written_of : (packet b : List ℕ) → Body → (cursor token : ℕ) → Action → Laid
written_of packet b body cursor token action =
    cond (eqb (length packet) packet_size) (laid_of b body cursor token action) (record { served = false; sent = []; packet = packet; cursor = cursor })

-- an answer of the code, at a cursor, and the lent bytes, in these terms
abbrev pub laid_by : (cursor : ℕ) → Option Written → (packet : List ℕ) → Laid
laid_by cursor (Some w) packet = record { served = true; sent = sent_by w.sent packet; packet = packet; cursor = w.cursor }
laid_by cursor None packet = record { served = false; sent = []; packet = packet; cursor = cursor }

-- a step and the next cursor
pub record InnerStep : Type 0 where
  pub step : Step
  pub cursor : ℕ

-- the step of what is written: the next record, or N1 and the record unchanged
abbrev pub step_of_laid : Laid → (before after : Host) → InnerStep
step_of_laid l before after = record {
  step = record { row = cond l.served served (row_n 1); sent = l.sent; packet = l.packet; host = cond l.served after before };
  cursor = l.cursor;
}

-- the step of an action
abbrev pub made_of : (b : List ℕ) → Body → (cursor : ℕ) → (before after : Host) → Action → InnerStep
made_of b body cursor before after action = step_of_laid (laid_of b body cursor after.token action) before after

-- an answer of the inner step of a host, at a cursor, and the lent bytes, in these terms
abbrev pub told_inner : Host → (cursor : ℕ) → Result Stepped StepRefusal → (packet : List ℕ) → InnerStep
told_inner h cursor (Ok a) packet = record {
  step = record { row = served; sent = sent_by a.sent packet; packet = packet; host = a.host };
  cursor = a.cursor;
}
told_inner h cursor (Err r) packet = record { step = record { row = row_of r; sent = []; packet = packet; host = h }; cursor = cursor }
