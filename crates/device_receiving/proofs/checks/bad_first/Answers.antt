-- `checks::bad_first` meets its contract: check 3. Assumes nothing.
use Rattle.device_receiving.proofs.checks.bad_first.Goals as goal

pub returns : goal.returns
returns c = rw (c.is_receiving-receiving.ensures, c.is_first-first.ensures)
