-- `table::repeated_place`: the entries that are left, after the ids of those before, give the answer for all. Assumes nothing.
use mathlib.Core.Path.{◌≡◌}
use mathlib.Core.List.{[]}
use Prim.Native.Nat.{◌+◌}
use lib.ListN.{drop}
use Rattle.bundle_layout.specs.Layout.{entries_from}
use Rattle.bundle_layout.specs.Rows.{repeated}
use Rattle.bundle_layout.proofs.Entries.{ids_to}
use Rattle.bundle_layout.proofs.table.repeated_place.Given as goal

abbrev pub invariant-loop-i : goal.invariant-loop-i
invariant-loop-i l = repeated (ids_to l.table l.i) (l.i + 1) (drop l.i (entries_from l.count l.table)) ≡ repeated [] 1 (entries_from l.count l.table)
