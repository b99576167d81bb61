-- The calls from C for a device's record: what each answers and leaves in each lent buffer. A refused call leaves the record as it is.
use Rattle.std.specs.Prelude.{ℕ, List}
use Rattle.wire.specs.Codes.{component_limit, long_size}
use Rattle.device_component.specs.Setup as setup
use Rattle.device.specs.Refusals.{kept_by}
use Rattle.device.specs.declared.record.Device.{Device}
use Rattle.device.specs.Entries.{set_up_of, version_entry, Reset, reset_entry}
use Rattle.device_bytes.specs.Layout.{device_size, list_size, device_bytes, read_device, list_in}
use Rattle.c_types.specs.Numbers.{wrong_record, wrong_list, wrong_output, sized}
use Rattle.c_types.specs.Lent.{Left, leaves}
use Rattle.c_device.specs.Numbers.{setup_number, device_number}

-- set-up, with a staging buffer of n bytes
abbrev pub made_by : setup.Row → (before : List ℕ) → Device → List ℕ
made_by setup.served before d = device_bytes d
made_by (setup.row_s k) before d = before

unfoldable pub set_up_call : (device : List ℕ) → (platform : ℕ) → (list : List ℕ) → (count n : ℕ) → Left
set_up_call device platform list count n =
    sized device device_size (leaves wrong_record device)
    (sized list list_size (leaves wrong_list device)
    (leaves (setup_number (set_up_of platform (list_in component_limit list) count n).row)
    (made_by (set_up_of platform (list_in component_limit list) count n).row device (set_up_of platform (list_in component_limit list) count n).device)))

-- the version reply, and the packet that it leaves
unfoldable pub versions_call : (device packet : List ℕ) → Left
versions_call device packet =
    sized device device_size (leaves wrong_record packet)
    (sized packet long_size (leaves wrong_output packet)
    (leaves (device_number (version_entry (read_device device)).row) (version_entry (read_device device)).packet))

-- the reset, and the record that it leaves
abbrev pub reset_by : (device : List ℕ) → Reset → Left
reset_by device a = leaves (device_number a.row) (kept_by a.row device (device_bytes a.device))

unfoldable pub reset_call : (device : List ℕ) → Left
reset_call device = sized device device_size (leaves wrong_record device) (reset_by device (reset_entry (read_device device)))
