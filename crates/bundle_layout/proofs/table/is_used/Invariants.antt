-- `table::is_used`: the entries that are left give the answer for all. Assumes nothing.
use mathlib.Core.Path.{◌≡◌}
use lib.Dec.{eqb}
use lib.ListN.{drop}
use Rattle.wire.specs.Checks.{any}
use Rattle.bundle_layout.specs.Layout.{entries_from, id_in}
use Rattle.bundle_layout.proofs.table.is_used.Given as goal

abbrev pub invariant-loop-i : goal.invariant-loop-i
invariant-loop-i l = any (λ e. eqb l.id (id_in e)) (drop l.i (entries_from l.n l.table)) ≡ any (λ e. eqb l.id (id_in e)) (entries_from l.n l.table)
