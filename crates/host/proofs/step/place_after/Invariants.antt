-- `step::place_after`: from the place on as many records are left as turns. Assumes nothing.
use mathlib.Core.Path.{◌≡◌}
use Prim.Native.Nat.{◌-◌}
use Rattle.host.specs.Inner.{place_after}
use Rattle.host.proofs.step.place_after.Given as goal

abbrev pub invariant-loop-passed : goal.invariant-loop-passed
invariant-loop-passed l = place_after l.b l.place l.end (l.count - l._passed) ≡ place_after l.b l.at l.end l.count
