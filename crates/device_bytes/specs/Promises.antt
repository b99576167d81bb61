-- What the bytes of a device's record promise.
use Rattle.std.specs.Prelude.{ℕ, ◌<◌, ◌≡◌, true, false, List, length, set}
use Rattle.wire.specs.Bytes.{Packet}
use Rattle.wire.specs.Codes.{component_limit}
use Rattle.device_component.specs.declared.record.Listed.{Listed}
use Rattle.device_component.specs.Record.{FitsComponent, listed}
use Rattle.device.specs.declared.record.Device.{Device}
use Rattle.device.specs.Record.{FitsDevice}
use Rattle.device.specs.Refusals.{breaks_d1}
use Rattle.device_bytes.specs.Layout.{device_size, list_size, device_bytes, is_record, read_device, list_in, with_listed_bytes}

-- every record is bytes of the one length
abbrev pub DeviceSized : Type 0
DeviceSized = (d : Device) → FitsDevice d → Packet device_size (device_bytes d)

-- every record reads back
abbrev pub DeviceReadsBack : Type 0
DeviceReadsBack = (d : Device) → FitsDevice d → read_device (device_bytes d) ≡ d

-- bytes of another length, or with a flag that no record has, are read as a record that D1 refuses
abbrev pub OthersBreakD1 : Type 0
OthersBreakD1 = (b : List ℕ) → is_record b ≡ false → breaks_d1 (read_device b) ≡ true

-- a component that is put into the list is what set-up reads there, and the others stay
abbrev pub ListReadsBack : Type 0
ListReadsBack =
    (b : List ℕ) (place : ℕ) (l : Listed) → length b ≡ list_size → place < component_limit → FitsComponent (listed l)
    → list_in component_limit (with_listed_bytes place l b) ≡ set (list_in component_limit b) place l
