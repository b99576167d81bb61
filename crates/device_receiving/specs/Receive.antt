-- The answer to a content packet: its reply, the READY that was owed, and the session, its component and the staging buffer afterwards (document 01,
-- "The device"; document 02, A4).
use Rattle.std.specs.Prelude.{ℕ, cond, List, drop, Option, None}
use Rattle.wire.specs.Bytes.{copy_of}
use Rattle.wire.specs.Codes.{success_status, data_at}
use Rattle.wire_content.specs.Head.{head_in}
use Rattle.wire_content.specs.Reply.{reply_bytes}
use Rattle.image.specs.declared.region.Region.{Region}
use Rattle.device_component.specs.declared.record.Component.{Component}
use Rattle.device_session.specs.Stage.{at_token, following}
use Rattle.device_session.specs.Effect.{blank_packet, idle, in_stage, answered}
use Rattle.device_session.specs.declared.stage.Stage.TheVariants.{Receiving}
use Rattle.device_session.specs.declared.effect.Session.{Session}
use Rattle.device_session.specs.declared.effect.Effect.{Effect}
use Rattle.device_receiving.specs.declared.checks.ContentVerdict.{ContentVerdict}
use Rattle.device_receiving.specs.declared.checks.ContentVerdict.TheVariants.{Answer, Take}
use Rattle.device_receiving.specs.declared.content.Taken.{Taken}
use Rattle.device_receiving.specs.Content.{is_last, is_copy, content_verdict, take_block}
use Rattle.device_receiving.specs.Finish.{finish}

-- the reply to a block
abbrev pub block_reply : (sequence status : ℕ) → Option ℕ → Session → Effect
block_reply sequence status ready session = answered (reply_bytes (record { sequence = sequence; status = status })) ready session

-- the packet that the session holds after a block: its 60 bytes; what is not 60 bytes long is no packet
abbrev pub packet_held : (report : List ℕ) → List ℕ
packet_held report = copy_of blank_packet report

-- after a block that is not the last: receiving, one sequence on, and the packet is held
abbrev pub goes_on : Session → (slot : ℕ) → (report : List ℕ) → Session
goes_on session slot report =
    in_stage session (Receiving (record { slot = slot; token = at_token session.stage; next = following (head_in report).sequence })) (packet_held report)

-- a taken block for this component, with the staging buffer after its write; a last block leaves the session idle
unfoldable pub on_block : Component → Session → (slot : ℕ) → (report s : List ℕ) → Taken
on_block c session slot report s =
    cond (is_last (head_in report))
    (record { effect = block_reply (head_in report).sequence (finish c s).status session.owed idle; component = (finish c s).component })
    (record { effect = block_reply (head_in report).sequence success_status None (goes_on session slot report); component = c })

-- the staging buffer after a taken block: its data stand behind the head
abbrev pub written : Region → (report s : List ℕ) → List ℕ
written region report s = take_block region (head_in report) (drop data_at report) s

-- an answer of checks 1 to 5 changes nothing
abbrev pub on_verdict : Component → Session → (report s : List ℕ) → ContentVerdict → Taken
on_verdict c session report s (Answer status) = record { effect = block_reply (head_in report).sequence status None session; component = c }
on_verdict c session report s (Take slot) = on_block c session slot report (written c.fixed.region report s)

abbrev pub staging_by : Region → (report s : List ℕ) → ContentVerdict → List ℕ
staging_by region report s (Answer status) = s
staging_by region report s (Take slot) = written region report s

-- the verdict on a packet in a session
abbrev pub verdict_on : Region → Session → (report : List ℕ) → ContentVerdict
verdict_on region session report = content_verdict region session.stage (is_copy session.previous report) (head_in report)

-- a content packet, and every byte of the staging buffer afterwards
abbrev pub on_content : Component → Session → (report s : List ℕ) → Taken
on_content c session report s = on_verdict c session report s (verdict_on c.fixed.region session report)

abbrev pub staging_after : Region → Session → (report s : List ℕ) → List ℕ
staging_after region session report s = staging_by region report s (verdict_on region session report)
