-- The content entry, and the staging buffer afterwards (document 01, "The device"; document 02, A4).
use Rattle.std.specs.Prelude.{ℕ, List, length, set}
use Rattle.wire.specs.Codes.{long_size}
use Rattle.image.specs.declared.region.Region.{Region}
use Rattle.device_component.specs.declared.record.Component.{Component}
use Rattle.device_session.specs.Stage.{at_slot}
use Rattle.device_receiving.specs.Receive.{verdict_on, on_content, staging_after}
use Rattle.device_receiving.specs.declared.checks.ContentVerdict.{ContentVerdict}
use Rattle.device_receiving.specs.declared.content.Taken.{Taken}
use Rattle.device.specs.declared.record.Device.{Device}
use Rattle.device.specs.Record.{component}
use Rattle.device.specs.Refusals.{Outcome, kept_by, refusal_of, unless_refused, served_with}

-- the bytes of the staging buffer that a session on this slot may write
abbrev pub window : Device → ℕ → Region
window d slot = (component d slot).fixed.region

-- the component that the session is on; the first slot's while it is idle
abbrev pub session_component : Device → Component
session_component d = component d (at_slot d.session.stage)

-- checks 1 to 6 of a packet: the first that applies
abbrev pub content_verdict : Device → (report : List ℕ) → ContentVerdict
content_verdict d report = verdict_on (session_component d).fixed.region d.session report

-- what a content packet does to the record
abbrev pub received : Device → Taken → Outcome
received d t = served_with d (set d.components (at_slot d.session.stage) t.component) t.effect

-- the content entry: its answer
unfoldable pub content_entry : Device → (staging report : List ℕ) → Outcome
content_entry d staging report =
    unless_refused (refusal_of long_size d (length staging) (length report)) d
    (received d (on_content (session_component d) d.session report staging))

-- the content entry: every byte of the staging buffer afterwards
unfoldable pub content_staging : Device → (staging report : List ℕ) → List ℕ
content_staging d staging report =
    kept_by (refusal_of long_size d (length staging) (length report)) staging
    (staging_after (session_component d).fixed.region d.session report staging)
