-- A block sent again (document 02, A4): what a copy of the previous packet is answered with, that it changes nothing, what a repeat with other bytes is answered
-- with, what D1 asks of the previous packet, and that from set-up on a session which is not receiving holds none.
use Rattle.std.specs.Prelude.{ℕ, ◌≡◌, true, false, ◌||◌, List, [], ◌∷◌, replicate, None}
use Rattle.wire.specs.Bytes.{Bytes}
use Rattle.wire.specs.Codes.{success_status, error_invalid}
use Rattle.wire_content.specs.Head.{head_in}
use Rattle.wire_content.specs.Reply.{reply_bytes}
use Rattle.wire_version.specs.Reply.{reply_size}
use Rattle.device_component.specs.declared.record.Listed.{Listed}
use Rattle.device_session.specs.Stage.{is_receiving, following}
use Rattle.device_session.specs.Effect.{blank_packet, one_reply}
use Rattle.device_session.specs.declared.stage.Receiving.{Receiving}
use Rattle.device_session.specs.declared.stage.Stage.TheVariants as stage
use Rattle.device_receiving.specs.Content.{is_first, is_last, bad_shape}
use Rattle.device_receiving.specs.declared.checks.ContentVerdict.TheVariants.{Answer, Take}
use Rattle.device.specs.declared.record.Device.{Device}
use Rattle.device.specs.declared.answer.Channel.{Channel}
use Rattle.device.specs.Record.{FitsDevice}
use Rattle.device.specs.Refusals.{row_d, Outcome, served, refused_by}
use Rattle.device.specs.Content.{content_verdict, content_entry, content_staging}
use Rattle.device.specs.Entries.{set_up_of, version_entry, reset_entry, serve_entry}

-- one reply with the sequence of the packet and this status, and the record as it was
abbrev pub only_replies : Device → (report : List ℕ) → (status : ℕ) → Outcome
only_replies d report status = record {
  row = served;
  replies = one_reply (reply_bytes (record { sequence = (head_in report).sequence; status = status })) None;
  sent = reply_bytes (record { sequence = (head_in report).sequence; status = status }) ∷ [];
  device = d;
}

-- an answer of checks 1 to 5, a copy's status 0 among them, changes no part of the record and no byte; no READY follows it
abbrev pub AnswerChangesNothing : Type 0
AnswerChangesNothing = (d : Device) (staging report : List ℕ) (status : ℕ) → (content_entry d staging report).row ≡ served → content_verdict d report ≡ Answer status
    → (content_entry d staging report ≡ only_replies d report status) × (content_staging d staging report ≡ staging)

-- while receiving, the previous packet once more is answered with status 0, where checks 2 and 3 let it pass and it is neither first nor last
abbrev pub CopyAnswered : Type 0
CopyAnswered = (d : Device) (staging report : List ℕ) → (content_entry d staging report).row ≡ served → is_receiving d.session.stage ≡ true
    → report ≡ d.session.previous → bad_shape (head_in report) ≡ false → is_first (head_in report) ≡ false → is_last (head_in report) ≡ false
    → content_verdict d report ≡ Answer success_status

-- a block that is taken, neither first nor last, and is sent again at once: the same reply, and nothing changes; so it is however often it is sent
abbrev pub ResentBlock : Type 0
ResentBlock = (d : Device) (staging report : List ℕ) (slot : ℕ) → FitsDevice d → Bytes report
    → (content_entry d staging report).row ≡ served → content_verdict d report ≡ Take slot
    → is_first (head_in report) ≡ false → is_last (head_in report) ≡ false
    → (content_entry (content_entry d staging report).device (content_staging d staging report) report ≡ content_entry d staging report)
    × (content_staging (content_entry d staging report).device (content_staging d staging report) report ≡ content_staging d staging report)

-- while receiving, a packet with the previous one's sequence but other bytes, wherever they differ, is answered 0x0B
abbrev pub OtherBytesInvalid : Type 0
OtherBytesInvalid = (d : Device) (staging report : List ℕ) → (content_entry d staging report).row ≡ served → is_receiving d.session.stage ≡ true
    → (head_in report).sequence ≡ (head_in d.session.previous).sequence → (report ≡ d.session.previous → ⊥) → content_verdict d report ≡ Answer error_invalid

-- so is one with the first or the last flag and the previous one's sequence, also where the bytes are the same
abbrev pub FlaggedInvalid : Type 0
FlaggedInvalid = (d : Device) (staging report : List ℕ) → (content_entry d staging report).row ≡ served → is_receiving d.session.stage ≡ true
    → (head_in report).sequence ≡ (head_in d.session.previous).sequence → (is_first (head_in report) || is_last (head_in report)) ≡ true
    → content_verdict d report ≡ Answer error_invalid

-- while receiving, every entry refuses by D1 a record whose previous packet has another sequence than the one just before the next
pub record PreviousJudged : Type 0 where
  pub packets : (d : Device) (channel : Channel) (staging report : List ℕ) (r : Receiving) → d.session.stage ≡ stage.Receiving r
      → (following (head_in d.session.previous).sequence ≡ r.next → ⊥) → serve_entry d channel staging report ≡ refused_by (row_d 1) d
  pub versions : (d : Device) (r : Receiving) → d.session.stage ≡ stage.Receiving r
      → (following (head_in d.session.previous).sequence ≡ r.next → ⊥) → version_entry d ≡ record { row = row_d 1; packet = replicate reply_size 0 }
  pub reset : (d : Device) (r : Receiving) → d.session.stage ≡ stage.Receiving r
      → (following (head_in d.session.previous).sequence ≡ r.next → ⊥) → reset_entry d ≡ record { row = row_d 1; device = d }

-- a session that is not receiving holds no packet, so that two of these with the same stage and the same owed reply are the same
abbrev pub HoldsNone : Device → Type 0
HoldsNone d = is_receiving d.session.stage ≡ false → d.session.previous ≡ blank_packet

-- set-up makes such a record, and a call that is given such a record leaves such a record
pub record HeldOnlyReceiving : Type 0 where
  pub set_up : (platform : ℕ) (list : List Listed) (count n : ℕ) → HoldsNone (set_up_of platform list count n).device
  pub packets : (d : Device) (channel : Channel) (staging report : List ℕ) → HoldsNone d → HoldsNone (serve_entry d channel staging report).device
  pub reset : (d : Device) → HoldsNone d → HoldsNone (reset_entry d).device
