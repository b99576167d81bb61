use Rattle.std.proofs.Common.{length, ◌-◌, ◌≤◌}
use Rattle.run_print.proofs.script.read_full.Given as goal

-- no more came than the buffer holds
abbrev pub invariant-loop-done : goal.invariant-loop-done
invariant-loop-done g l = l.done ≤ length l.buffer

abbrev pub decreases-loop-done : goal.decreases-loop-done
decreases-loop-done g l = length l.initial.buffer - l.done
