-- The device's record as bytes of a fixed length, little-endian, for whoever keeps it outside of Rattle; and the list that set-up takes, as bytes.
use Rattle.std.specs.Prelude.{ℕ, zero, suc, ◌+◌, ◌*◌, Bool, true, cond, ◌&&◌, List, [], ◌∷◌, ◌++◌, eqb, ltb, length, get_or, take, drop}
use Rattle.wire.specs.Bytes.{number, bytes_of, bytes_at}
use Rattle.wire.specs.Codes.{component_limit}
use Rattle.device_component.specs.Record.{blank_component}
use Rattle.device_component.specs.declared.record.Component.{Component}
use Rattle.device_component.specs.declared.record.Listed.{Listed}
use Rattle.device_component_bytes.specs.Layout.{component_size, listed_size, component_bytes, listed_bytes, component_in, listed_in, staged_flag_fits}
use Rattle.device.specs.declared.record.Device.{Device}
use Rattle.device_session.specs.declared.effect.Session.{Session}
use Rattle.device_session_bytes.specs.Layout.{session_size, session_bytes, session_flags_fit}
use Rattle.device_session_bytes.specs.Layout as session
use Rattle.device.specs.Record.{blank_device}

-- where the parts of a record stand: the platform, the length of the staging buffer, the count, the session, the components
abbrev pub platform_at : ℕ
platform_at = 0

abbrev pub staging_len_at : ℕ
staging_len_at = platform_at + 2

abbrev pub count_at : ℕ
count_at = staging_len_at + 4

abbrev pub session_start : ℕ
session_start = count_at + 1

abbrev pub components_start : ℕ
components_start = session_start + session_size

-- the length of a record
abbrev pub device_size : ℕ
device_size = components_start + component_limit * component_size

-- the bytes of the component in a slot stand from here on
abbrev pub component_start : (slot : ℕ) → ℕ
component_start slot = components_start + slot * component_size

-- components one after the other
unfoldable pub components_bytes : List Component → List ℕ
components_bytes [] = []
components_bytes (c ∷ cs) = component_bytes c ++ components_bytes cs

-- what stands before the session: platform, staging length, count
abbrev pub head_bytes : Device → List ℕ
head_bytes d = bytes_of 2 d.platform ++ (bytes_of 4 d.staging_len ++ (d.count ∷ []))

-- the record
unfoldable pub device_bytes : Device → List ℕ
device_bytes d = head_bytes d ++ (session_bytes d.session ++ components_bytes d.components)

-- there is a component in this slot; past the last slot there is none, and none in bytes of another length
abbrev pub has_slot : (slot : ℕ) → List ℕ → Bool
has_slot slot b = eqb (length b) device_size && ltb slot component_limit

-- the parts that stand in bytes, unjudged: the component in a slot, the components, the fields before the session, the session
abbrev pub component_of : (slot : ℕ) → List ℕ → Component
component_of slot b = cond (has_slot slot b) (component_in (drop (component_start slot) b)) blank_component

unfoldable pub components_in : ℕ → List ℕ → List Component
components_in zero q = []
components_in (suc n) q = component_in q ∷ components_in n (drop component_size q)

abbrev pub platform_in : List ℕ → ℕ
platform_in b = number (bytes_at 2 platform_at b)

abbrev pub staging_len_in : List ℕ → ℕ
staging_len_in b = number (bytes_at 4 staging_len_at b)

abbrev pub count_in : List ℕ → ℕ
count_in b = get_or b count_at 0

abbrev pub session_in : List ℕ → Session
session_in b = session.session_in (drop session_start b)

unfoldable pub device_in : List ℕ → Device
device_in b = record {
  platform = platform_in b;
  staging_len = staging_len_in b;
  count = count_in b;
  components = components_in component_limit (drop components_start b);
  session = session_in b;
}

-- the same of bytes of whatever length; those of another length are read as the blank record
unfoldable pub fields_in : List ℕ → Device
fields_in b = cond (eqb (length b) device_size) (device_in b) blank_device

-- each flag is one that a record has: those of the session, and what is staged of each of the components
unfoldable pub staged_fit : ℕ → List ℕ → Bool
staged_fit zero q = true
staged_fit (suc n) q = staged_flag_fits q && staged_fit n (drop component_size q)

abbrev pub flags_fit : List ℕ → Bool
flags_fit b = session_flags_fit (drop session_start b) && staged_fit component_limit (drop components_start b)

-- these bytes are a record
unfoldable pub is_record : List ℕ → Bool
is_record b = eqb (length b) device_size && flags_fit b

-- the record in these bytes; bytes of another length, or with a flag that no record has, are read as the blank record, which every entry refuses by D1
unfoldable pub read_device : List ℕ → Device
read_device b = cond (is_record b) (device_in b) blank_device

-- the bytes with another session; with another component in a slot, where there is one; bytes of another length stay
unfoldable pub with_session_bytes : Session → List ℕ → List ℕ
with_session_bytes s b = cond (eqb (length b) device_size) (take session_start b ++ (session_bytes s ++ drop components_start b)) b

unfoldable pub with_component_bytes : (slot : ℕ) → Component → List ℕ → List ℕ
with_component_bytes slot c b =
    cond (has_slot slot b) (take (component_start slot) b ++ (component_bytes c ++ drop (component_start slot + component_size) b)) b

-- the list that set-up takes, and its length
abbrev pub list_size : ℕ
list_size = component_limit * listed_size

unfoldable pub list_in : ℕ → List ℕ → List Listed
list_in zero q = []
list_in (suc n) q = listed_in q ∷ list_in n (drop listed_size q)

-- the component of the list at a place stands from here on
abbrev pub listed_start : (place : ℕ) → ℕ
listed_start place = place * listed_size

-- the list with another component at a place; past the last place, and in bytes of another length, nothing changes
unfoldable pub with_listed_bytes : (place : ℕ) → Listed → List ℕ → List ℕ
with_listed_bytes place l b =
    cond (eqb (length b) list_size && ltb place component_limit) (take (listed_start place) b ++ (listed_bytes l ++ drop (listed_start place + listed_size) b)) b
