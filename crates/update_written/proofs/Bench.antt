-- E13's offers and images, given to the writer, computed. Assumes nothing.
use mathlib.Core.Path.{◌≡◌, refl, ap}
use Prim.Native.Nat.{ℕ, zero, suc}
use native.Mathlib.Omega.{arith}
use lib.ListN.{replicate}
use Rattle.std.specs.Prelude.{Option, Some, None}
use Rattle.bundle_cut.specs.Cut.{leading, reach, piece_at, cut_from}
use Rattle.bundle_given.specs.Given.{entries_of, image_at}
use Rattle.bundle_writer.specs.Bundle.{made_bundle}
use Rattle.bundle_writer.specs.Rows.{first_breaking, row_w3, write_row}
use Rattle.update.specs.Bench.{image}
use Rattle.update.proofs.Bench.{computing, one_first_lem}
use Rattle.wire.proofs.Tests.{all_bytes}
use Rattle.device_session.specs.declared.stage.Stage.TheVariants.{Idle}
use Rattle.device.specs.Bench.{bench}
use Rattle.update_written.specs.Stages.{SameLengths}
use Rattle.update_written.specs.Bench.{e13_list, e13_images, BenchStages}

-- the slot that was found
slot_of : Option ℕ → ℕ
slot_of None = 0
slot_of (Some k) = k

-- both regions have 64 bytes
same_lengths : SameLengths e13_list (bench Idle)
unfolding computing image entries_of slot_of
same_lengths zero k h e = let z : 0 ≡ k = ap slot_of e in rw (← z)
same_lengths (suc zero) k h e = let z : 1 ≡ k = ap slot_of e in rw (← z)
same_lengths (suc (suc i)) k h e = absurd (omega arith)

pub bench_stages : BenchStages
unfolding computing image leading reach piece_at cut_from entries_of image_at made_bundle first_breaking row_w3 write_row
bench_stages = record {
  fitting = record {
    list_bytes = all_bytes e13_list refl;
    images_bytes = all_bytes e13_images refl;
    made = refl;
    small = omega arith;
    fits = one_first_lem.premise.fits;
    bytes = all_bytes (replicate 128 0) refl;
    d1 = refl;
    d2 = refl;
    lengths = same_lengths;
  };
  size = refl;
  packets = refl;
  device = refl;
  staging = refl;
}
