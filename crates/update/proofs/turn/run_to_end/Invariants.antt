-- `turn::run_to_end` meets its contract. The loop's invariant: the run has come to these ends. The measure: the turns that are left. Assumes nothing.
use mathlib.Core.Path.{◌≡◌}
use lib.ListN.{length}
use Rattle.update.proofs.turn.Laws.{Reached, left_of}
use Rattle.update.proofs.turn.run_to_end.Given as goal

abbrev pub invariant-loop-checked : goal.invariant-loop-checked
invariant-loop-checked l =
    Reached l.bundle l.token l.initial.e.device l.initial.staging l.e l.staging × (length l.staging ≡ length l.initial.staging)

abbrev pub decreases-loop-checked : goal.decreases-loop-checked
decreases-loop-checked l = left_of l.bundle l.e.host
