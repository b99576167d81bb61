-- `bad_list`: the tests in another bracketing. Assumes nothing.
use mathlib.Core.Bool.{or_assoc}
use Rattle.bundle_given.proofs.bad_list.Goals as goal

pub returns : goal.returns
returns c = simp or_assoc
