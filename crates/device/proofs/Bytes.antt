-- Bytes stay bytes where a region is cut out, erased or written. Assumes nothing.
use mathlib.Core.Bool.{◌&&◌}
use mathlib.Core.List.{List}
use Prim.Native.Nat.{ℕ, ◌+◌}
use native.Mathlib.Omega.{arith}
use lib.ListN.{length, take}
use Rattle.wire.specs.Bytes.{Bytes}
use Rattle.wire.specs.declared.address.RegionAddress.{RegionAddress}
use Rattle.image.specs.Region.{place_of, is_inside, holds, within, region_bytes, blank, put, erase_of, write_of}
use Rattle.image.specs.declared.region.Region.{Region}
use Rattle.wire.proofs.Bounds.{first_bytes, rest_bytes, join_bytes}
use Rattle.wire.proofs.Chain.{either}
use Rattle.device_session.proofs.effect.Laws.{replicate_bytes}

module _ (r : Region) (s : List ℕ) (h : Bytes s) where
  pub region_bytes_lem : Bytes (region_bytes r s)
  unfolding region_bytes
  region_bytes_lem = first_bytes r.len _ (rest_bytes r.base.0 s h)

  within_bytes : (f : List ℕ → List ℕ) → Bytes (f (region_bytes r s)) → Bytes (within r.base.0 r.len f s)
  unfolding within region_bytes
  within_bytes f k =
      join_bytes (take r.base.0 s) _ (first_bytes r.base.0 s h)
      (join_bytes (f (region_bytes r s)) _ k (rest_bytes (r.base.0 + r.len) s h))

  pub erase_bytes : Bytes (erase_of r s)
  unfolding erase_of blank
  erase_bytes =
      either Bytes (is_inside r (length s)) _ _ (within_bytes (λ old. blank r.len) (replicate_bytes r.len 0xFF (omega arith))) h

  pub write_bytes : (a : RegionAddress) (bytes : List ℕ) → Bytes bytes → Bytes (write_of r a bytes s)
  unfolding write_of put
  write_bytes a bytes k =
      either Bytes (is_inside r (length s) && holds r a (length bytes)) _ _
      (join_bytes (take (place_of r a).0 s) _ (first_bytes (place_of r a).0 s h)
      (join_bytes bytes _ k (rest_bytes ((place_of r a).0 + length bytes) s h)))
      h
