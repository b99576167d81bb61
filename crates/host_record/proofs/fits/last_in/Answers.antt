-- `fits::last_in`: by the stage. Assumes nothing.
use Rattle.host_record.proofs.fits.last_in.Goals as goal

pub returns-in-Sending : goal.returns-in-Sending
returns-in-Sending c = rw c.in-Sending.is c.is_last.ensures
