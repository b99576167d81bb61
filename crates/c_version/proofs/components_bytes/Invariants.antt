-- `components_bytes` meets its contract. After i turns the first i components are written. Assumes nothing.
use Rattle.c_version.specs.Layout.{running_size, components_size, components_bytes}
use lib.ListN.{length, take}
use Prim.Native.Nat.{◌*◌}
use mathlib.Core.Path.{◌≡◌}
use Rattle.c_version.proofs.components_bytes.Given as goal

abbrev pub invariant-loop-i : goal.invariant-loop-i
invariant-loop-i l = (length l.out ≡ components_size) × (take (l.i * running_size) l.out ≡ components_bytes (take l.i l.fn.components))
