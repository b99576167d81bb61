-- `body::put_body` meets its contract: what was written and what is left make the whole. Assumes nothing.
use mathlib.Core.Path.{◌≡◌}
use Prim.Native.Nat.{◌-◌}
use Rattle.bundle_cut.specs.Cut.{crc_place}
use Rattle.bundle_writer.proofs.body.Laws.{Going}
use Rattle.bundle_writer.proofs.body.put_body.Given as goal

abbrev pub invariant-loop-out : goal.invariant-loop-out
invariant-loop-out l = (l.crc ≡ crc_place l.m) × Going l.initial.out l.start l.m l.out l.at l.end

abbrev pub decreases-loop-out : goal.decreases-loop-out
decreases-loop-out l = l.crc - l.at
