-- `all::reset_components` meets its contract: after i turns the first i are reset. Assumes nothing.
use mathlib.Core.Path.{◌≡◌}
use Rattle.device_slots.proofs.Turns.{turned}
use Rattle.device_component.specs.Record.{after_reset}
use Rattle.device_slots.proofs.all.reset_components.Given as goal

abbrev pub invariant-loop-i : goal.invariant-loop-i
invariant-loop-i l = l.components ≡ turned after_reset l.initial.components l.initial.components l.i
