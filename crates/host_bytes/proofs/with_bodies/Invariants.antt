-- `with_bodies` meets its contract. After i turns the first i bodies are written. Assumes nothing.
use mathlib.Core.Path.{◌≡◌}
use mathlib.Core.List.{◌++◌}
use Prim.Native.Nat.{◌+◌, ◌*◌, ◌≤◌}
use lib.ListN.{length, take}
use Rattle.bundle_layout.specs.Layout.{offer_limit}
use Rattle.host_bytes.specs.Layout.{body_part_size, bodies_start, contents_size, bodies_bytes}
use Rattle.host_bytes.proofs.with_bodies.Given as goal

abbrev pub invariant-loop-i : goal.invariant-loop-i
invariant-loop-i l = (l.i ≤ offer_limit) × (length l.fn.table ≡ offer_limit) × (length l.out ≡ contents_size) × (take (bodies_start + l.i * body_part_size) l.out ≡ take bodies_start l.initial.out ++ bodies_bytes (take l.i l.fn.table))
