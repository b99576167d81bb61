-- What the bytes that a call leaves promise.
use Rattle.std.specs.Prelude.{ℕ, ◌≡◌, List}
use Rattle.wire.specs.Bytes.{Bytes}
use Rattle.device.specs.declared.record.Device.{Device}
use Rattle.device.specs.Record.{FitsDevice}
use Rattle.device.specs.Offer.{offer_entry}
use Rattle.device.specs.Content.{content_entry}
use Rattle.device_bytes.specs.Layout.{device_bytes, read_device}
use Rattle.device_in_place.specs.InPlace.{offer_leaves, content_leaves}

-- the bytes that a call leaves are read as the record of its outcome
pub record LeftReads : Type 0 where
  pub offers : (b : List ℕ) (n : ℕ) (report : List ℕ) → Bytes b → Bytes report
      → read_device (offer_leaves b (offer_entry (read_device b) n report)) ≡ (offer_entry (read_device b) n report).device
  pub content : (b staging report : List ℕ) → Bytes b → Bytes staging → Bytes report
      → read_device (content_leaves b (content_entry (read_device b) staging report)) ≡ (content_entry (read_device b) staging report).device

-- over the bytes of a record they are the bytes of the record of its outcome
pub record LeftCanonical : Type 0 where
  pub offers : (d : Device) → FitsDevice d → (n : ℕ) (report : List ℕ) → offer_leaves (device_bytes d) (offer_entry d n report) ≡ device_bytes (offer_entry d n report).device
  pub content : (d : Device) → FitsDevice d → (staging report : List ℕ)
      → content_leaves (device_bytes d) (content_entry d staging report) ≡ device_bytes (content_entry d staging report).device
