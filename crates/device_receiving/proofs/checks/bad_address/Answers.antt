-- `checks::bad_address` meets its contract: check 5. Assumes nothing.
use Rattle.device_receiving.proofs.checks.bad_address.Goals as goal

pub returns : goal.returns
returns c = rw c.holds.ensures
