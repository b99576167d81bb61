-- `component_in` meets its contract: as one of the list, and what is staged from its bytes. Assumes nothing.
use Rattle.device_component_bytes.proofs.component_in.Goals as goal

pub returns : goal.returns
returns c =
    rw (c.staged_in-staged.ensures, c.byte_at.ensures, c.read_at-version.ensures, c.listed_in-l.ensures)
