-- `table::bad_offer_place`: the entries that are left give the answer for all. Assumes nothing.
use mathlib.Core.Path.{◌≡◌}
use Prim.Native.Nat.{◌+◌}
use lib.ListN.{drop}
use Rattle.bundle_layout.specs.Layout.{entries_in}
use Rattle.bundle_layout.specs.Rows.{first_entry, bad_offer, row_b5}
use Rattle.bundle.proofs.table.bad_offer_place.Given as goal

abbrev pub invariant-loop-i : goal.invariant-loop-i
invariant-loop-i l = first_entry bad_offer (l.i + 1) (drop l.i (entries_in l.b)) ≡ row_b5 l.b
