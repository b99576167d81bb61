-- The chain of seven, the mixed case, the need cycle, the blocks that arrive twice and the longest run of a host, by computation. Assumes nothing.
use mathlib.Core.Path.{refl}
use mathlib.Core.Bool.{true}
use Prim.Native.Nat.{ℕ, ◌*◌, ◌-◌, ◌^◌, ◌≤◌, ◌<◌}
use native.Mathlib.Omega.{arith}
use lib.Dec.{eqb}
use lib.ListN.{replicate}
use Rattle.wire.specs.Codes.{component_limit}
use Rattle.wire.proofs.Tests.{all_bytes}
use Rattle.device_component.specs.Record.{FitsComponent}
use Rattle.std.specs.Prelude.{Some, None}
use Rattle.device.specs.Record.{FitsDevice}
use Rattle.device_session.proofs.effect.Laws.{idle_fits}
use Rattle.update.specs.Run.{once}
use Rattle.update.specs.Ends.{host_steps}
use Rattle.update.specs.Demand.{Premise}
use Rattle.update.proofs.Bench.{computing}
use Rattle.update.proofs.Goodness.{bodies_good}
use Rattle.update.proofs.Fitting.{blank_fits, all_fit, component_fits}
use Rattle.wire.specs.Version.{version_of}
use Rattle.update.specs.Cases.{floor100, at100, image16, seven, chain, mixed, mixed_bundle, raised, raised_bundle, ChainReaches, MixedDevice, MixedStaging, MixedRuns, RaisedDevice, RaisedStaging, FloorRuns, CycleStops, quartered, RunsWith, DoubledRuns, BoundReached}

-- a component of the cases
floor100_fits : (floor id : ℕ) → floor < 256 ^ 4 → id ≤ component_limit → FitsComponent (floor100 floor id)
floor100_fits floor id f h = component_fits floor id 16777216 (16 * (id - 1)) 16 None f (omega arith) (omega arith) (omega arith) (omega arith) tt

at100_fits : (id : ℕ) → id ≤ component_limit → FitsComponent (at100 id)
at100_fits id h = floor100_fits 0 id (omega arith) h

seven_fits : FitsDevice seven
seven_fits = record {
  platform = omega arith;
  staging = omega arith;
  count = omega arith;
  slots = refl;
  each =
      all_fit seven.components (
        at100_fits 1 (omega arith),
        (
          at100_fits 2 (omega arith),
          (
            at100_fits 3 (omega arith),
            (
              at100_fits 4 (omega arith),
              (at100_fits 5 (omega arith), (at100_fits 6 (omega arith), (at100_fits 7 (omega arith), tt))),
            ),
          ),
        ),
      );
  session = idle_fits;
}

mixed_fits : FitsDevice mixed
unfolding computing
mixed_fits = record {
  platform = omega arith;
  staging = omega arith;
  count = omega arith;
  slots = refl;
  each =
      all_fit mixed.components (
        at100_fits 1 (omega arith),
        (
          component_fits 0 2 16777216 16 16 (Some (version_of 1 1 0)) (omega arith) (omega arith) (omega arith) (omega arith) (omega arith) (omega arith),
          (at100_fits 3 (omega arith), (at100_fits 4 (omega arith), (blank_fits, (blank_fits, (blank_fits, tt))))),
        ),
      );
  session = record { stage = (omega arith, omega arith, omega arith); owed = omega arith; size = refl; bytes = all_bytes mixed.session.previous refl };
}

pub cycle_stops : CycleStops
unfolding computing image16
cycle_stops = record { done = refl; passes = refl; packets = refl }

pub chain_reaches : ChainReaches
unfolding computing image16
chain_reaches = record {
  premise = record {
    small = omega arith;
    fits = seven_fits;
    bytes = all_bytes (replicate 112 0) refl;
    bundle = all_bytes chain refl;
    d1 = refl;
    d2 = refl;
    accepted = refl;
    good = bodies_good chain seven refl;
  };
  done = refl;
  passes = refl;
  packets = refl;
  figures = (refl, refl);
}

mixed_premise : Premise mixed_bundle 7 mixed (replicate 64 0)
unfolding computing image16
mixed_premise = record {
  small = omega arith;
  fits = mixed_fits;
  bytes = all_bytes (replicate 64 0) refl;
  bundle = all_bytes mixed_bundle refl;
  d1 = refl;
  d2 = refl;
  accepted = refl;
  good = bodies_good mixed_bundle mixed refl;
}

mixed_device : MixedDevice
unfolding computing image16
mixed_device = refl

mixed_staging : MixedStaging
unfolding computing image16
mixed_staging = refl

pub mixed_runs : MixedRuns
unfolding computing image16
mixed_runs = record { premise = mixed_premise; done = refl; says = refl; device = mixed_device; staging = mixed_staging }

raised_fits : FitsDevice raised
raised_fits = record {
  platform = omega arith;
  staging = omega arith;
  count = omega arith;
  slots = refl;
  each =
      all_fit raised.components (
        floor100_fits 0x01000200 1 (omega arith) (omega arith),
        (
          at100_fits 2 (omega arith),
          (floor100_fits 0x01000100 3 (omega arith) (omega arith), (blank_fits, (blank_fits, (blank_fits, (blank_fits, tt))))),
        ),
      );
  session = idle_fits;
}

raised_premise : Premise raised_bundle 7 raised (replicate 48 0)
unfolding computing image16
raised_premise = record {
  small = omega arith;
  fits = raised_fits;
  bytes = all_bytes (replicate 48 0) refl;
  bundle = all_bytes raised_bundle refl;
  d1 = refl;
  d2 = refl;
  accepted = refl;
  good = bodies_good raised_bundle raised refl;
}

raised_device : RaisedDevice
unfolding computing image16
raised_device = refl

raised_staging : RaisedStaging
unfolding computing image16
raised_staging = refl

pub floor_runs : FloorRuns
unfolding computing image16
floor_runs = record { premise = raised_premise; done = refl; says = refl; device = raised_device; staging = raised_staging }

-- each packet once
none_twice : RunsWith once 0
unfolding computing image16
none_twice = record { says = refl; counts = (refl, refl); device = refl; staging = refl; runs = refl; done = refl }

-- one block twice
one_twice : RunsWith (λ j. eqb j 5) 1
unfolding computing image16
one_twice = record { says = refl; counts = (refl, refl); device = refl; staging = refl; runs = refl; done = refl }

-- every block that may
all_twice : RunsWith (λ j. true) 2
unfolding computing image16
all_twice = record { says = refl; counts = (refl, refl); device = refl; staging = refl; runs = refl; done = refl }

pub doubled_runs : DoubledRuns
unfolding computing image16
doubled_runs = record {
  premise = record {
    small = omega arith;
    fits = seven_fits;
    bytes = all_bytes (replicate 112 0) refl;
    bundle = all_bytes quartered refl;
    d1 = refl;
    d2 = refl;
    accepted = refl;
    good = bodies_good quartered seven refl;
  };
  none = none_twice;
  one = one_twice;
  all = all_twice;
}

pub bound_reached : BoundReached
unfolding computing image16 host_steps
bound_reached = record { bound = refl; runs = refl; done = refl; packets = refl }
