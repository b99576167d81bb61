-- Set-up, version reply, reset, and the entry by channel (document 01, "The device" and "Numbered refusals").
use Rattle.std.specs.Prelude.{ℕ, cond, List, map, length, replicate, Result, Ok, Err}
use Rattle.wire.specs.Codes.{protocol_number}
use Rattle.wire_version.specs.Reply.{reply_size, reply_bytes}
use Rattle.device_component.specs.Record.{listed}
use Rattle.device_component.specs.Setup as setup
use Rattle.device_component.specs.declared.record.Listed.{Listed}
use Rattle.device_component.specs.declared.setup.SetupRow.{SetupRow}
use Rattle.device_slots.specs.Slots.{reset_components, running_of}
use Rattle.device_session.specs.Effect.{idle}
use Rattle.device.specs.declared.record.Device.{Device}
use Rattle.device.specs.declared.answer.Refusal.{Refusal}
use Rattle.device.specs.declared.answer.Channel.{Channel}
use Rattle.device.specs.declared.answer.Channel.TheVariants.{Offer, Content}
use Rattle.device.specs.Record.{idle_with, blank_device}
use Rattle.device.specs.Refusals.{Row, served, row_d, row_of, breaks_d1, Outcome}
use Rattle.device.specs.Offer.{offer_entry}
use Rattle.device.specs.Content.{content_entry, content_staging}

-- what set-up answers: its row, and the device, which is the blank one where a row refuses
pub record SetUp : Type 0 where
  pub row : setup.Row
  pub device : Device

abbrev pub told_set_up : Result Device SetupRow → SetUp
told_set_up (Ok d) = record { row = setup.served; device = d }
told_set_up (Err row) = record { row = setup.row_s (setup.number_of row); device = blank_device }

-- a device as it is set up: idle, nothing staged, nothing owed, no packet held
abbrev pub new_device : (platform : ℕ) → List Listed → (count n : ℕ) → Device
new_device platform list count n = record {
  platform = platform;
  staging_len = n;
  count = count;
  components = map listed list;
  session = idle;
}

abbrev pub set_up_by : setup.Row → Device → SetUp
set_up_by setup.served d = record { row = setup.served; device = d }
set_up_by (setup.row_s k) d = record { row = setup.row_s k; device = blank_device }

-- set-up, with a staging buffer of n bytes
unfoldable pub set_up_of : (platform : ℕ) → List Listed → (count n : ℕ) → SetUp
set_up_of platform list count n =
    set_up_by (setup.row_of (setup.setup_verdict n count (map listed list))) (new_device platform list count n)

-- what the version reply's entry answers
pub record Versions : Type 0 where
  pub row : Row
  pub packet : List ℕ

-- .. by its result: the packet of a refused call is zeroed
abbrev pub told_versions : Result (List ℕ) Refusal → Versions
told_versions (Ok packet) = record { row = served; packet = packet }
told_versions (Err refusal) = record { row = row_of refusal; packet = replicate reply_size 0 }

-- D1 with a zeroed reply, or the reply
unfoldable pub version_entry : Device → Versions
version_entry d =
    cond (breaks_d1 d) (record { row = row_d 1; packet = replicate reply_size 0 })
    (record { row = served; packet = reply_bytes d.count protocol_number (map (running_of d.platform) d.components) })

-- what the reset's entry answers
pub record Reset : Type 0 where
  pub row : Row
  pub device : Device

-- .. by its result: the record of a refused call stays
abbrev pub told_reset : Device → Result Device Refusal → Reset
told_reset d (Ok next) = record { row = served; device = next }
told_reset d (Err refusal) = record { row = row_of refusal; device = d }

-- D1, or staged versions run, nothing is pending or owed, the session is idle and holds no packet
unfoldable pub reset_entry : Device → Reset
reset_entry d =
    cond (breaks_d1 d) (record { row = row_d 1; device = d })
    (record { row = served; device = idle_with d (reset_components d.count d.components) })

-- the entry that a packet is for, by its channel
unfoldable pub serve_entry : Device → Channel → (staging report : List ℕ) → Outcome
serve_entry d Offer staging report = offer_entry d (length staging) report
serve_entry d Content staging report = content_entry d staging report

unfoldable pub serve_staging : Device → Channel → (staging report : List ℕ) → List ℕ
serve_staging d Offer staging report = staging
serve_staging d Content staging report = content_staging d staging report
