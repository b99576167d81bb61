-- `packet` meets its contract. After i turns the first i components are written. Assumes nothing.
use mathlib.Core.Path.{◌≡◌}
use lib.ListN.{length}
use Rattle.wire_version.specs.Reply.{reply_size}
use Rattle.wire_version.proofs.Entries.{sofar}
use Rattle.wire_version.proofs.packet.Given as goal

abbrev pub invariant-loop-i : goal.invariant-loop-i
invariant-loop-i l = (l.p ≡ sofar l.fn.r.count l.fn.r.protocol l.fn.r.components l.i) × (length l.p ≡ reply_size)
