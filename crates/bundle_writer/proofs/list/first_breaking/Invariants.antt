-- `list::first_breaking`: the entries that are left give the answer for all. Assumes nothing.
use mathlib.Core.Path.{◌≡◌}
use Prim.Native.Nat.{◌+◌}
use lib.ListN.{drop}
use Rattle.bundle_layout.specs.Layout.{entries_in}
use Rattle.bundle_layout.specs.Rows.{first_entry}
use Rattle.bundle_given.specs.Entry.{breaks}
use Rattle.bundle_writer.specs.Rows.{first_breaking}
use Rattle.bundle_writer.proofs.list.Laws.{headed}
use Rattle.bundle_writer.proofs.list.first_breaking.Given as goal

abbrev pub invariant-loop-i : goal.invariant-loop-i
invariant-loop-i l = first_entry (breaks l.rule l.images) (l.i + 1) (drop l.i (entries_in (headed l.list))) ≡ first_breaking l.rule l.list l.images
