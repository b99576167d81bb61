-- `list::repeated_place`: of the entries that W1 allows. Assumes nothing.
use Rattle.bundle_given.specs.Given.{entries_of}
use Rattle.bundle_writer.specs.Rows.{row_w3}
use Rattle.bundle_writer.proofs.list.repeated_place.Goals as goal

pub returns : goal.returns
unfolding row_w3 entries_of
returns c = rw c.count_of.ensures at c.repeated_place.ensures
