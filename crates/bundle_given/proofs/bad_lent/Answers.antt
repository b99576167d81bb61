-- `bad_lent`: the tests in another bracketing. Assumes nothing.
use mathlib.Core.Bool.{or_assoc}
use Rattle.bundle_given.proofs.bad_lent.Goals as goal

pub returns : goal.returns
returns c = rw (c.offset_in.ensures, c.length_in-length.ensures) (simp or_assoc)
