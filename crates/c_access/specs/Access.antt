-- The calls from C for one part of lent bytes: what each answers, and what it leaves in the list. Places count from 0. The row of a place that is not there, C4,
-- comes after those of the bytes themselves.
use Rattle.std.specs.Prelude.{ℕ, ◌-◌, cond, List, ltb, Option, Some, None}
use Rattle.wire.specs.Codes.{component_limit}
use Rattle.wire.specs.declared.version.Version.{Version}
use Rattle.bundle_layout.specs.Rows as bundle
use Rattle.device_component.specs.declared.record.Component.{Component}
use Rattle.device_component.specs.declared.record.Listed.{Listed}
use Rattle.device.specs.Refusals.{row_d, breaks_d1}
use Rattle.device_bytes.specs.Layout.{device_size, list_size, component_of, read_device, with_listed_bytes}
use Rattle.host_record.specs.declared.fits.Body.{Body}
use Rattle.host_bytes.specs.Layout.{are_contents, contents_in, body_read}
use Rattle.c_types.specs.declared.types.CVersion.{CVersion}
use Rattle.c_types.specs.declared.types.CListed.{CListed}
use Rattle.c_types.specs.declared.types.CComponent.{CComponent}
use Rattle.c_types.specs.declared.types.CEntry.{CEntry}
use Rattle.c_types.specs.Version.{parts_of, version_in}
use Rattle.c_types.specs.Numbers.{served_number, wrong_record, wrong_list, wrong_place, sized}
use Rattle.c_types.specs.Lent.{Left, leaves}
use Rattle.c_device.specs.Numbers.{device_number}
use Rattle.c_host.specs.Check.{bundle_number}

-- a component of the list by its numbers
abbrev pub listed_of : CListed → Listed
listed_of c = record {
  fixed = record { id = c.id; region = record { base = record { 0 = c.base }; len = c.length }; floor = version_in c.floor };
  running = version_in c.running;
}

-- a component goes into the list: C2, C4, or the list with the component at its place
unfoldable pub list_call : (list : List ℕ) → (place : ℕ) → CListed → Left
list_call list place c =
    sized list list_size (leaves wrong_list list)
    (cond (ltb place component_limit) (leaves served_number (with_listed_bytes place (listed_of c) list)) (leaves wrong_place list))

-- what is told of a component: 1 and the staged version where one is staged, zeros otherwise
abbrev pub no_version : CVersion
no_version = record { major = 0; minor = 0; variant = 0 }

abbrev pub pending_of : Option Version → ℕ
pending_of None = 0
pending_of (Some v) = 1

abbrev pub staged_of : Option Version → CVersion
staged_of None = no_version
staged_of (Some v) = parts_of v

abbrev pub component_told : Component → CComponent
component_told c = record {
  number = served_number;
  id = c.fixed.id;
  running = parts_of c.running;
  base = c.fixed.region.base.0;
  length = c.fixed.region.len;
  floor = parts_of c.fixed.floor;
  pending = pending_of c.staged;
  staged = staged_of c.staged;
}

-- a refused call tells of no component
abbrev pub no_component : (number : ℕ) → CComponent
no_component number = record { number = number; id = 0; running = no_version; base = 0; length = 0; floor = no_version; pending = 0; staged = no_version }

-- a component of a device: C1, D1, C4, or what is told of it
unfoldable pub component_call : (device : List ℕ) → (place : ℕ) → CComponent
component_call device place =
    sized device device_size (no_component wrong_record)
    (cond (breaks_d1 (read_device device)) (no_component (device_number (row_d 1)))
    (cond (ltb place (read_device device).count) (component_told (component_of place device)) (no_component wrong_place)))

-- what is told of a body: where it stands, how long it is, how many records it has
abbrev pub body_told : Body → CEntry
body_told b = record { number = served_number; entry = 0; offset = b.start; length = b.end - b.start; records = b.records }

-- a refused call tells of no body
abbrev pub no_entry : (number entry : ℕ) → CEntry
no_entry number entry = record { number = number; entry = entry; offset = 0; length = 0; records = 0 }

-- an entry of contents that a check may have left: the row that they keep, with the entry that it names; C4; or what is told of its body
abbrev pub entry_by : bundle.Row → (contents : List ℕ) → (place : ℕ) → CEntry
entry_by bundle.served contents place = cond (ltb place (contents_in contents).count) (body_told (body_read contents place)) (no_entry wrong_place 0)
entry_by (bundle.row_b k entry) contents place = no_entry (bundle_number (bundle.row_b k entry)) entry

unfoldable pub entry_call : (contents : List ℕ) → (place : ℕ) → CEntry
entry_call contents place = cond (are_contents contents) (entry_by (contents_in contents).row contents place) (no_entry wrong_record 0)
