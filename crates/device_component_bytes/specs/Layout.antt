-- A component of the device as bytes, little-endian, for whoever keeps it outside of Rattle: one of the list that set-up takes, and behind it what is staged.
-- What is read stands in bytes that start at the component.
use Rattle.std.specs.Prelude.{ℕ, ◌+◌, Bool, cond, List, ◌∷◌, ◌++◌, eqb, leb, get_or, Option, Some, None}
use Rattle.wire.specs.Bytes.{number, bytes_of, bytes_at}
use Rattle.wire.specs.Version.{version_at, version_bytes}
use Rattle.wire.specs.declared.version.Version.{Version}
use Rattle.image.specs.declared.region.Region.{Region}
use Rattle.device_component.specs.declared.record.Component.{Component}
use Rattle.device_component.specs.declared.record.Fixed.{Fixed}
use Rattle.device_component.specs.declared.record.Listed.{Listed}

-- the lengths of a word, of a version, of a region, and of what is staged: a flag and a version
abbrev pub word_size : ℕ
word_size = 4

abbrev pub version_size : ℕ
version_size = 4

abbrev pub region_size : ℕ
region_size = word_size + word_size

abbrev pub staged_size : ℕ
staged_size = 1 + version_size

-- where the parts of a component stand behind its id: the running version, the region and its length, the floor (document 02, A5)
abbrev pub running_at : ℕ
running_at = 1

abbrev pub region_at : ℕ
region_at = running_at + version_size

abbrev pub region_len_at : ℕ
region_len_at = region_at + word_size

abbrev pub floor_at : ℕ
floor_at = region_at + region_size

-- the length of a component of the list, of which nothing is staged
abbrev pub listed_size : ℕ
listed_size = floor_at + version_size

-- where what is staged and its version stand, and the length of all
abbrev pub staged_at : ℕ
staged_at = listed_size

abbrev pub staged_version_at : ℕ
staged_version_at = staged_at + 1

abbrev pub component_size : ℕ
component_size = staged_at + staged_size

-- 0 nothing staged, or 1 pending, and the staged version
abbrev pub staged_bytes : Option Version → List ℕ
staged_bytes None = 0 ∷ bytes_of version_size 0
staged_bytes (Some v) = 1 ∷ version_bytes v

-- a region: its base and its length
abbrev pub region_bytes : Region → List ℕ
region_bytes r = bytes_of word_size r.base.0 ++ bytes_of word_size r.len

-- a component of the list: id, running version, region, floor
abbrev pub listed_bytes : Listed → List ℕ
listed_bytes l = l.fixed.id ∷ version_bytes l.running ++ (region_bytes l.fixed.region ++ version_bytes l.fixed.floor)

-- a component without what is staged
abbrev pub listed_of : Component → Listed
listed_of c = record { fixed = c.fixed; running = c.running }

-- a component: that, and what is staged
abbrev pub component_bytes : Component → List ℕ
component_bytes c = listed_bytes (listed_of c) ++ staged_bytes c.staged

-- the fields that stand in bytes, unjudged; a version that the flag rules out is not looked at
abbrev pub region_in : List ℕ → Region
region_in q = record { base = record { 0 = number (bytes_at word_size region_at q) }; len = number (bytes_at word_size region_len_at q) }

abbrev pub fixed_in : List ℕ → Fixed
fixed_in q = record { id = get_or q 0 0; region = region_in q; floor = version_at floor_at q }

-- a component of the list: id, running version, region, floor
abbrev pub listed_in : List ℕ → Listed
listed_in q = record { fixed = fixed_in q; running = version_at running_at q }

-- a component: that, and what is staged
abbrev pub component_in : List ℕ → Component
component_in q = record {
  fixed = (listed_in q).fixed;
  running = (listed_in q).running;
  staged = cond (eqb (get_or q staged_at 0) 1) (Some (version_at staged_version_at q)) None;
}

-- the flag of what is staged is one that a component has
abbrev pub staged_flag_fits : List ℕ → Bool
staged_flag_fits q = leb (get_or q staged_at 0) 1
