-- `made::put_bundle` meets its contract: entry by entry, a body and its entry in the table. Assumes nothing.
use mathlib.Core.Path.{◌≡◌}
use Rattle.bundle_given.specs.Given.{count_of}
use Rattle.bundle_writer.proofs.made.Laws.{Filling}
use Rattle.bundle_writer.proofs.made.put_bundle.Given as goal

abbrev pub invariant-loop-i : goal.invariant-loop-i
invariant-loop-i l = (l.count ≡ count_of l.list) × Filling l.list l.images l.initial.out l.out l.end l.i
