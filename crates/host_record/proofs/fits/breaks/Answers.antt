-- `fits::breaks`: each clause. Assumes nothing.
use Rattle.host_record.proofs.fits.breaks.Goals as goal

pub returns : goal.returns
returns c = rw (c.stage_breaks.ensures, c.mask_breaks.ensures)
