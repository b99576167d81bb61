-- `contents::contents_of`: the entries that are left give the row, and the table has those that were read. Assumes nothing.
use mathlib.Core.Path.{◌≡◌}
use mathlib.Core.List.{◌++◌, map}
use Prim.Native.Nat.{◌+◌, ◌-◌}
use lib.ListN.{take, drop, replicate}
use Rattle.bundle_layout.specs.Layout.{offer_limit, entries_in}
use Rattle.bundle_layout.specs.Rows.{first_entry, bad_body, row_b8}
use Rattle.bundle_layout.specs.Layout.{blank_entry}
use Rattle.bundle.specs.Contents.{entry_in}
use Rattle.bundle.proofs.contents.contents_of.Given as goal

abbrev pub invariant-loop-i : goal.invariant-loop-i
invariant-loop-i l = (first_entry (bad_body l.b) (l.i + 1) (drop l.i (entries_in l.b)) ≡ row_b8 l.b) × (l.table ≡ map (entry_in l.b) (take l.i (entries_in l.b)) ++ replicate (offer_limit - l.i) blank_entry)
