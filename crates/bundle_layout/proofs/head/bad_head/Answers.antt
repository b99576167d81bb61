-- `head::bad_head`: the tests in another bracketing. Assumes nothing.
use mathlib.Core.Bool.{or_assoc, or-false}
use Rattle.wire.specs.Checks.{any}
use Rattle.bundle_layout.proofs.head.bad_head.Goals as goal

pub returns : goal.returns
unfolding any
returns c = rw (c.byte_at-7.ensures, c.byte_at-6.ensures, c.byte_at-5.ensures, c.byte_at-4.ensures, c.byte_at-3.ensures, c.byte_at-2.ensures, c.byte_at.ensures) (simp (or_assoc, or-false))
