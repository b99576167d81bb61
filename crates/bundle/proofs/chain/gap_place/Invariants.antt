-- `chain::gap_place`: the entries that are left, from where the body before ends, give the answer for all. Assumes nothing.
use mathlib.Core.Path.{◌≡◌}
use Prim.Native.Nat.{◌+◌}
use lib.ListN.{length, drop}
use Rattle.bundle_layout.specs.Layout.{entries_in}
use Rattle.bundle_layout.specs.Rows.{gap, row_b7}
use Rattle.bundle.proofs.chain.gap_place.Given as goal

abbrev pub invariant-loop-i : goal.invariant-loop-i
invariant-loop-i l = (gap (length l.b) l.at (l.i + 1) (drop l.i (entries_in l.b)) ≡ row_b7 l.b)
