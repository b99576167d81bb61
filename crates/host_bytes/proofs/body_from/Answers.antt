-- `body_from` meets its contract: the three words. Assumes nothing.
use Rattle.host_bytes.proofs.body_from.Goals as goal

pub returns : goal.returns
returns c = rw (c.word32_at.ensures, c.word32_at-length.ensures, c.word32_at-offset.ensures)
