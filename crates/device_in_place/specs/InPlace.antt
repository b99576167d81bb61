-- What an entry over the bytes of a record answers, and the bytes that it leaves.
use Rattle.std.specs.Prelude.{ℕ, List, Result, Ok, Err}
use Rattle.device_component.specs.Lists.{component_at}
use Rattle.device_session.specs.Stage.{at_slot}
use Rattle.device_session.specs.declared.effect.Replies.{Replies}
use Rattle.device.specs.declared.record.Device.{Device}
use Rattle.device.specs.declared.answer.Refusal.{Refusal}
use Rattle.device.specs.Refusals.{served, row_of, kept_by, sent_with, Outcome, refused_by}
use Rattle.device_bytes.specs.Layout.{read_device, with_session_bytes, with_component_bytes}

-- the outcome of an answer, with the next record; where a row refuses: a zeroed reply, nothing sent
abbrev pub outcome_of : Result Replies Refusal → Device → Outcome
outcome_of (Ok replies) d = record { row = served; replies = replies; sent = sent_with replies; device = d }
outcome_of (Err refusal) d = refused_by (row_of refusal) d

-- the bytes that a call leaves. Refused, they stay. Served, the session is written anew, and for content also the component in the slot of the session before
-- (slot 0 while that is idle), even where the packet changes nothing of the record that the bytes are read as
abbrev pub offer_leaves : (before : List ℕ) → Outcome → List ℕ
offer_leaves before o = kept_by o.row before (with_session_bytes o.device.session before)

abbrev pub content_leaves : (before : List ℕ) → Outcome → List ℕ
content_leaves before o =
    kept_by o.row before
    (with_component_bytes (at_slot (read_device before).session.stage) (component_at o.device.components (at_slot (read_device before).session.stage))
    (with_session_bytes o.device.session before))
