-- `body::body_length` meets its contract: what was counted and what is left make the whole. Assumes nothing.
use mathlib.Core.Path.{◌≡◌}
use Prim.Native.Nat.{◌+◌, ◌-◌, ◌*◌, ◌≤◌}
use lib.ListN.{length, take}
use Rattle.bundle_cut.specs.Cut.{image_body}
use Rattle.bundle_writer.proofs.body.Laws.{left}
use Rattle.bundle_writer.proofs.body.body_length.Given as goal

abbrev pub invariant-loop-to : goal.invariant-loop-to
invariant-loop-to l =
    (l.size + length (left (take l.crc l.m) l.at) ≡ length (image_body l.m)) × (l.at ≤ l.crc) × (l.size ≤ 7 + 6 * l.at)

abbrev pub decreases-loop-to : goal.decreases-loop-to
decreases-loop-to l = l.crc - l.at
