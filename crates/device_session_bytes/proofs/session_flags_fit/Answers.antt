-- `session_flags_fit` meets its contract: by the bytes of the flags. Assumes nothing.
use Rattle.device_session_bytes.proofs.session_flags_fit.Goals as goal

pub returns : goal.returns
returns c = rw (c.byte_at-2.ensures, c.byte_at.ensures)
