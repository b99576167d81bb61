-- `staged_flag_fits` meets its contract: by the flag's byte. Assumes nothing.
use Rattle.device_component_bytes.proofs.staged_flag_fits.Goals as goal

pub returns : goal.returns
returns c = rw c.byte_at.ensures
