-- `words::copy` meets its contract. After i turns the first i bytes are the source's. Assumes nothing.
use mathlib.Core.Path.{◌≡◌}
use mathlib.Core.List.{◌++◌}
use Prim.Native.Nat.{◌≤◌, ◌-◌}
use lib.ListN.{length, take, drop}
use Rattle.wire.proofs.words.copy.Given as goal

abbrev pub invariant-loop-i : goal.invariant-loop-i
invariant-loop-i l = (l.target ≡ take l.i l.source ++ drop l.i l.initial.target) × (length l.target ≡ length l.initial.target) × (l.i ≤ length l.initial.target)

abbrev pub decreases-loop-i : goal.decreases-loop-i
decreases-loop-i l = length l.initial.target - l.i
