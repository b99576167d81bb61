-- `list::count_of`: at most 7 fit a byte. Assumes nothing.
use native.Mathlib.Omega.{arith}
use Rattle.bundle_writer.proofs.list.Laws.{good_list}
use Rattle.bundle_writer.proofs.list.count_of.Goals as goal

pub overflow_cast-result : goal.overflow_cast-result
overflow_cast-result c = omega (arith, (good_list c.args.list.now c.requires).2)
