-- A region of the staging buffer: its bytes, its erase, and a block written to it (document 01, "The device", content check 6).
use Rattle.std.specs.Prelude.{ℕ, ◌+◌, ◌^◌, ◌<◌, Bool, cond, ◌&&◌, List, ◌++◌, ltb, leb, length, take, drop, replicate}
use Rattle.wire.specs.declared.address.RegionAddress.{RegionAddress}
use Rattle.image.specs.declared.region.Region.{Region}
use Rattle.image.specs.declared.region.StagingOffset.{StagingOffset}

-- the values of the type
pub record FitsRegion (r : Region) : Type 0 where
  pub base : r.base.0 < 256 ^ 4
  pub len : r.len < 256 ^ 4

-- the offset of an address: the base turns one into the other
abbrev pub place_of : Region → RegionAddress → StagingOffset
place_of r a = record { 0 = r.base.0 + a.0 }

-- the region lies in a buffer of n bytes, and its end is a staging offset, which has 32 bits
abbrev pub is_inside : Region → ℕ → Bool
is_inside r n = leb (r.base.0 + r.len) n && ltb (r.base.0 + r.len) (2 ^ 32)

-- n bytes at an address lie in the region: a sum of numbers, which does not wrap
abbrev pub holds : Region → RegionAddress → ℕ → Bool
holds r a n = leb (a.0 + n) r.len

-- s with its len bytes from base changed by f, and no other
unfoldable pub within : (base len : ℕ) → (List ℕ → List ℕ) → List ℕ → List ℕ
within base len f s = take base s ++ (f (take len (drop base s)) ++ drop (base + len) s)

-- the bytes of a region
unfoldable pub region_bytes : Region → List ℕ → List ℕ
region_bytes r s = take r.len (drop r.base.0 s)

-- what an erase leaves of n bytes
unfoldable pub blank : ℕ → List ℕ
blank n = replicate n 0xFF

-- l with `bytes` written from place `at`
unfoldable pub put : (at : ℕ) → (bytes l : List ℕ) → List ℕ
put at bytes l = take at l ++ (bytes ++ drop (at + length bytes) l)

-- the buffer after the region's erase; a region that the buffer does not hold changes nothing
unfoldable pub erase_of : Region → List ℕ → List ℕ
erase_of r s = cond (is_inside r (length s)) (within r.base.0 r.len (λ old. blank r.len) s) s

-- the buffer after a write: the bytes stand from the offset of the address on; bytes that the region does not hold change nothing, and so does a region
-- that the buffer does not hold
unfoldable pub write_of : Region → RegionAddress → (bytes s : List ℕ) → List ℕ
write_of r a bytes s = cond (is_inside r (length s) && holds r a (length bytes)) (put (place_of r a).0 bytes s) s
