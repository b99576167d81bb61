-- `walk::tally`: what was counted and what is left make the whole. Assumes nothing.
use mathlib.Core.Path.{◌≡◌}
use Prim.Native.Nat.{◌-◌, ◌≤◌}
use Rattle.bundle_records.proofs.walk.Laws.{tallied_from}
use Rattle.bundle_records.proofs.walk.tally.Given as goal

abbrev pub invariant-loop-next : goal.invariant-loop-next
invariant-loop-next l = (tallied_from l.n l.bytes l.i l.end ≡ tallied_from 0 l.bytes l.at l.end) × (l.n ≤ l.i)

abbrev pub decreases-loop-next : goal.decreases-loop-next
decreases-loop-next l = l.end - l.i
