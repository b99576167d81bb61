-- `made::bundle_length` meets its contract: what was counted and the bodies that are left make the whole. Assumes nothing.
use mathlib.Core.Path.{◌≡◌}
use Prim.Native.Nat.{◌+◌, ◌*◌, ◌≤◌}
use lib.ListN.{length, drop}
use Rattle.device_component.specs.Setup.{staging_limit}
use Rattle.bundle_layout.specs.Layout.{offer_limit, table_end}
use Rattle.bundle_given.specs.Given.{count_of, entries_of}
use Rattle.bundle_writer.specs.Bundle.{made_bundle}
use Rattle.bundle_writer.specs.Promises.{bodies_length}
use Rattle.bundle_writer.proofs.made.bundle_length.Given as goal

abbrev pub invariant-loop-i : goal.invariant-loop-i
invariant-loop-i l =
    (l.count ≡ count_of l.list) × (l.size + bodies_length l.images (drop l.i (entries_of l.list)) ≡ length (made_bundle l.list l.images))
    × (l.size ≤ table_end offer_limit + l.i * (8 * staging_limit))
