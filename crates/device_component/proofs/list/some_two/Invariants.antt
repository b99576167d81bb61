-- `list::some_two` meets its contract: what is left of the list has such two where the whole has. Assumes nothing.
use Rattle.std.proofs.Common.{◌≡◌, length}
use Rattle.wire.specs.Checks.{pairs}
use Rattle.device_component.proofs.list.some_two.Given as goal

abbrev pub invariant-loop-c : goal.invariant-loop-c
invariant-loop-c g l = pairs g.holds l.rest ≡ pairs g.holds l.listed

abbrev pub decreases-loop-c : goal.decreases-loop-c
decreases-loop-c g l = length l.rest
