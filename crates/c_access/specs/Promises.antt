-- What the calls for one part of lent bytes promise: they tell what the record and the check have.
use Rattle.std.specs.Prelude.{ℕ, ◌<◌, ◌≡◌, false, cond, List, ltb}
use Rattle.wire.specs.Bytes.{Bytes}
use Rattle.bundle_layout.specs.Rows as bundle
use Rattle.bundle.specs.Contents.{Contents, check_of}
use Rattle.device_component.specs.Lists.{component_at}
use Rattle.device.specs.Refusals.{breaks_d1}
use Rattle.device_bytes.specs.Layout.{read_device}
use Rattle.host_record.specs.Fits.{body_of}
use Rattle.host_bytes.specs.Promises.{Keeps}
use Rattle.c_types.specs.declared.types.CEntry.{CEntry}
use Rattle.c_types.specs.Numbers.{wrong_place}
use Rattle.c_host.specs.Check.{bundle_number}
use Rattle.c_access.specs.Access.{component_told, body_told, no_entry, component_call, entry_call}

-- of bytes that are a sound record each component is told as the record has it
abbrev pub ComponentTold : Type 0
ComponentTold =
    (b : List ℕ) (place : ℕ) → breaks_d1 (read_device b) ≡ false → place < (read_device b).count
    → component_call b place ≡ component_told (component_at (read_device b).components place)

-- an entry as the check of a bundle has it
abbrev pub entry_on : bundle.Row → Contents → (place : ℕ) → CEntry
entry_on bundle.served c place = cond (ltb place c.count) (body_told (body_of c place)) (no_entry wrong_place 0)
entry_on (bundle.row_b k entry) c place = no_entry (bundle_number (bundle.row_b k entry)) entry

-- over contents that were left for a bundle, at whatever call, an entry is told as the bundle's check has it, also where the check refused
abbrev pub EntryTold : Type 0
EntryTold = (b q : List ℕ) (place : ℕ) → Bytes b → Keeps b q → entry_call q place ≡ entry_on (check_of b).row (check_of b) place
