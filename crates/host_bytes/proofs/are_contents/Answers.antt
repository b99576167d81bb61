-- `are_contents`: the length, the row's number and the count. Assumes nothing.
use Rattle.host_bytes.proofs.are_contents.Goals as goal

pub returns : goal.returns
returns c = rw (c.count_in-count.ensures, c.row_in-row.ensures)
