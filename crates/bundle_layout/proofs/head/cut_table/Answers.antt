-- `head::cut_table`: the table's end is that of the definition. Assumes nothing.
use Rattle.bundle_layout.proofs.head.cut_table.Goals as goal

pub returns : goal.returns
returns c = rw (c.table_end.ensures, c.byte_at.ensures)
