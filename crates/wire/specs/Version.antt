-- A version and its three parts (document 01, "Packets").
use Rattle.std.specs.Prelude.{ℕ, ◌+◌, ◌*◌, ◌/◌, ◌%◌, ◌^◌, ◌<◌, List, [], ◌∷◌, get_or}
use Rattle.wire.specs.declared.version.Version.{Version}

-- the values of the type
abbrev pub FitsVersion : Version → Type 0
FitsVersion v = v.0 < 256 ^ 4

-- variant in bits 0-7, minor in bits 8-23, major in bits 24-31
abbrev pub version_of : (major minor variant : ℕ) → Version
version_of major minor variant = record { 0 = variant + minor * 256 + major * 16777216 }

-- four bytes: variant, minor with its low byte first, major
abbrev pub read_version : (variant minorLow minorHigh major : ℕ) → Version
read_version variant minorLow minorHigh major = version_of major (minorLow + 256 * minorHigh) variant

-- the version in the four bytes of p from place i
abbrev pub version_at : ℕ → List ℕ → Version
version_at i p = read_version (get_or p i 0) (get_or p (i + 1) 0) (get_or p (i + 2) 0) (get_or p (i + 3) 0)

abbrev pub major_of : Version → ℕ
major_of v = v.0 / 16777216

abbrev pub minor_of : Version → ℕ
minor_of v = v.0 / 256 % 65536

abbrev pub variant_of : Version → ℕ
variant_of v = v.0 % 256

-- the four bytes of a version
abbrev pub version_bytes : Version → List ℕ
version_bytes v = variant_of v ∷ minor_of v % 256 ∷ minor_of v / 256 ∷ major_of v ∷ []

-- the number divided by 256, rounded down: major and minor (document 02, A1: major-minor)
abbrev pub release_of : Version → ℕ
release_of v = v.0 / 256
