-- A version's four bytes read back, both ways. Assumes nothing.
use mathlib.Core.Path.{◌≡◌, ap, ap₂}
use mathlib.Core.List.{List, [], ◌∷◌, ◌++◌}
use Prim.Native.Nat.{ℕ, suc, ◌+◌, ◌*◌, ◌/◌, ◌%◌, ◌<◌}
use native.Mathlib.Numerals.{unary_clauses}
use native.Mathlib.Omega.{arith}
use lib.ListN.{get_or}
use Rattle.wire.specs.Bytes.{Bytes, number, bytes_at}
use Rattle.wire.specs.Version.{version_of, read_version, version_at, major_of, minor_of, variant_of, version_bytes}
use Rattle.wire.specs.declared.version.Version.{Version}

-- the number of a version is its four bytes as one little-endian number
pub version_number : (i : ℕ) (p : List ℕ) → (version_at i p).0 ≡ number (get_or p i 0 ∷ get_or p (i + 1) 0 ∷ get_or p (i + 2) 0 ∷ get_or p (i + 3) 0 ∷ [])
version_number i p = omega arith

-- the parts of a version put it together again
pub parts : (v : Version) → version_of (major_of v) (minor_of v % 256 + 256 * (minor_of v / 256)) (variant_of v) ≡ v
parts v =
    let n = v.0 in
    let e : n % 256 + (n / 256 % 65536 % 256 + 256 * (n / 256 % 65536 / 256)) * 256 + n / 16777216 * 16777216 ≡ n = omega arith in
    ap (λ (x : ℕ). record { 0 = x }) e

-- the minor stands above the variant and below the major
pub minor_of_lem : (major minor variant : ℕ) → variant < 256 → minor < 65536 → minor_of (version_of major minor variant) ≡ minor
minor_of_lem major minor variant h k =
    let e : (variant + minor * 256 + major * 16777216) / 256 ≡ minor + major * 65536 = omega arith in omega arith

-- four bytes that were read as a version are written again
read_back : (a b c d : ℕ) → a < 256 → b < 256 → c < 256 → version_bytes (read_version a b c d) ≡ a ∷ b ∷ c ∷ d ∷ []
read_back a b c d h k l =
    let n = a + (b + 256 * c) * 256 + d * 16777216 in
    let m : n / 256 % 65536 ≡ b + 256 * c = minor_of_lem d (b + 256 * c) a h (omega arith) in
    let ea : n % 256 ≡ a = omega arith in
    let eb : n / 256 % 65536 % 256 ≡ b = omega arith in
    let ec : n / 256 % 65536 / 256 ≡ c = omega arith in
    let ed : n / 16777216 ≡ d = omega arith in
    ap₂ (λ (v w : List ℕ). v ++ w) (ap₂ (λ (x y : ℕ). x ∷ y ∷ []) ea eb) (ap₂ (λ (x y : ℕ). x ∷ y ∷ []) ec ed)

-- so are those of a packet, at every place
pub version_back : (i : ℕ) (p : List ℕ) → Bytes p → version_bytes (version_at i p) ≡ bytes_at 4 i p
version_back i p h = simp unary_clauses (read_back _ _ _ _ (h i) (h (suc i)) (h (suc (suc i))))
