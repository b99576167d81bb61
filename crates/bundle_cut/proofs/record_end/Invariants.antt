-- `record_end` meets its contract: no run of 52 or more begins before the place that was come to. Assumes nothing.
use Prim.Native.Nat.{◌-◌, ◌≤◌}
use Rattle.bundle_cut.proofs.Steps.{Short}
use Rattle.bundle_cut.proofs.record_end.Given as goal

abbrev pub invariant-loop-x : goal.invariant-loop-x
invariant-loop-x l = Short l.d l.at l.x × (l.at ≤ l.x)

abbrev pub decreases-loop-x : goal.decreases-loop-x
decreases-loop-x l = l.end - l.x
