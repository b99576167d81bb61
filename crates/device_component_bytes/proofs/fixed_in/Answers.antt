-- `fixed_in` meets its contract: its id, its region and its floor. Assumes nothing.
use Rattle.device_component_bytes.proofs.fixed_in.Goals as goal

pub returns : goal.returns
returns c =
    rw (c.read_at.ensures, c.byte_at.ensures, c.word32_at-2.ensures, c.new.ensures, c.word32_at.ensures)
