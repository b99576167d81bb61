-- Calls of the device's entries, one after another, from set-up on: what each comes to, and what a list of them leaves. Set-up makes the record, and every other
-- entry is given one; so a list starts at set-up, and a second set-up is a new start.
use Rattle.std.specs.Prelude.{ℕ, List, [], ◌∷◌, length}
use Rattle.device_component.specs.declared.record.Listed.{Listed}
use Rattle.device.specs.declared.record.Device.{Device}
use Rattle.device.specs.declared.answer.Channel.{Channel}
use Rattle.device.specs.Refusals.{Outcome}
use Rattle.device.specs.Entries.{set_up_of, Versions, version_entry, Reset, reset_entry, serve_entry, serve_staging}

-- a call of an entry that is given a record
pub data Call : Type 0 where
  packet : Channel → (report : List ℕ) → Call
  versions : Call
  reset : Call

-- its answer, and every byte of the staging buffer afterwards where it is lent to the call
pub data Answered : Type 0 where
  of_packet : Outcome → (staging : List ℕ) → Answered
  of_versions : Versions → Answered
  of_reset : Reset → Answered

abbrev pub answer_of : Device → (staging : List ℕ) → Call → Answered
answer_of d staging (packet channel report) = of_packet (serve_entry d channel staging report) (serve_staging d channel staging report)
answer_of d staging versions = of_versions (version_entry d)
answer_of d staging reset = of_reset (reset_entry d)

-- what is kept between calls: the record, and the staging buffer
pub record Kept : Type 0 where
  pub device : Device
  pub staging : List ℕ

-- .. after a call, served or refused
abbrev pub after_call : Kept → Call → Kept
after_call s (packet channel report) = record {
  device = (serve_entry s.device channel s.staging report).device;
  staging = serve_staging s.device channel s.staging report;
}
after_call s versions = s
after_call s reset = record { device = (reset_entry s.device).device; staging = s.staging }

-- what may happen to a device: a call; or, between two calls, other bytes in the staging buffer, or a buffer of another length, which D2 then refuses
pub data Event : Type 0 where
  call : Call → Event
  lends : (staging : List ℕ) → Event

abbrev pub after_event : Kept → Event → Kept
after_event s (call c) = after_call s c
after_event s (lends staging) = record { device = s.device; staging = staging }

-- .. one after another
abbrev pub after_events : Kept → List Event → Kept
after_events s [] = s
after_events s (e ∷ es) = after_events (after_event s e) es

-- what set-up leaves, with this staging buffer: the new device, or the blank one, which no entry serves, where a row refuses
abbrev pub from_set_up : (platform : ℕ) → List Listed → (count : ℕ) → (staging : List ℕ) → Kept
from_set_up platform list count staging = record { device = (set_up_of platform list count (length staging)).device; staging = staging }
