-- `list::some_unsound` meets its contract: what is left of the list gives the answer for the whole.
use Rattle.std.proofs.Common.{◌≡◌, length, take}
use Rattle.device_component.specs.Rules.{unsound}
use Rattle.device_component.proofs.list.some_unsound.Given as goal

abbrev pub invariant-loop-c : goal.invariant-loop-c
invariant-loop-c l = unsound l.n l.rest ≡ unsound l.n (take l.count l.fn.components)

abbrev pub decreases-loop-c : goal.decreases-loop-c
decreases-loop-c l = length l.rest
