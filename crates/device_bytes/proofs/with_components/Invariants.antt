-- `with_components` meets its contract. After i turns the first i components are written. Assumes nothing.
use mathlib.Core.Path.{◌≡◌}
use mathlib.Core.List.{◌++◌}
use lib.ListN.{length, take}
use Rattle.device_bytes.specs.Layout.{device_size, components_start, component_start, components_bytes}
use Rattle.device_bytes.proofs.with_components.Given as goal

abbrev pub invariant-loop-i : goal.invariant-loop-i
invariant-loop-i l = (length l.out ≡ device_size) × (take (component_start l.i) l.out ≡ take components_start l.initial.out ++ components_bytes (take l.i l.components))
