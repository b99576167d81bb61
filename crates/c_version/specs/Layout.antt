-- The components of a version reply as bytes, little-endian, for whoever keeps them outside of Rattle: version, id and platform of each.
use Rattle.std.specs.Prelude.{ℕ, zero, suc, ◌+◌, ◌*◌, List, [], ◌∷◌, ◌++◌, get_or, drop}
use Rattle.wire.specs.Bytes.{number, bytes_of, bytes_at}
use Rattle.wire.specs.Codes.{component_limit}
use Rattle.wire.specs.Version.{version_at, version_bytes}
use Rattle.wire_version.specs.declared.Running.{Running}

-- where the id and the platform of a component stand behind its version; the lengths: a component, and all of them
abbrev pub id_offset : ℕ
id_offset = 4

abbrev pub platform_at : ℕ
platform_at = id_offset + 1

abbrev pub running_size : ℕ
running_size = platform_at + 2

abbrev pub components_size : ℕ
components_size = component_limit * running_size

-- a component of a version reply as bytes: version, id, platform
abbrev pub running_bytes : Running → List ℕ
running_bytes e = version_bytes e.version ++ e.id ∷ bytes_of 2 e.platform

unfoldable pub components_bytes : List Running → List ℕ
components_bytes [] = []
components_bytes (e ∷ es) = running_bytes e ++ components_bytes es

abbrev pub running_in : List ℕ → Running
running_in q = record { version = version_at 0 q; id = get_or q id_offset 0; platform = number (bytes_at 2 platform_at q) }

unfoldable pub components_in : ℕ → List ℕ → List Running
components_in zero q = []
components_in (suc n) q = running_in q ∷ components_in n (drop running_size q)
