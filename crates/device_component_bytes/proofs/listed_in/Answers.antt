-- `listed_in` meets its contract: each field from its bytes. Assumes nothing.
use Rattle.device_component_bytes.proofs.listed_in.Goals as goal

pub returns : goal.returns
returns c = rw (c.read_at.ensures, c.fixed_in.ensures)
