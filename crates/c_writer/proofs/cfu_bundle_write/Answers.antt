-- `cfu_bundle_write` meets its contract: what the writer answers and leaves. Assumes nothing.
use Rattle.std.specs.Prelude.{Ok, Err}
use Rattle.c_writer.proofs.Written.{row_number, write_left}
use Rattle.c_writer.proofs.cfu_bundle_write.Goals as goal

pub returns-in-Ok : goal.returns-in-Ok
returns-in-Ok c = write_left _ _ _ c.write.new.out (Ok c.in-Ok.length) c.in-Ok.ensures

pub returns-in-Err : goal.returns-in-Err
returns-in-Err c = rw (c.lettered.ensures, c.number.ensures, row_number c.in-Err.r.row) (write_left _ _ _ c.write.new.out (Err c.in-Err.r) c.in-Err.ensures)
