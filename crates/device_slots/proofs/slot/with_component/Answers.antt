-- `slot::with_component` meets its contract: past the last slot, setting changes nothing. Assumes nothing.
use mathlib.Core.Path.{sym}
use native.Mathlib.Omega.{arith}
use lib.Seq.{set_out}
use Rattle.device_slots.proofs.slot.with_component.Goals as goal

pub returns-else-k-lt-COMPONENT_LIMIT : goal.returns-else-k-lt-COMPONENT_LIMIT
returns-else-k-lt-COMPONENT_LIMIT c = sym (set_out _ _ _ (omega arith))
