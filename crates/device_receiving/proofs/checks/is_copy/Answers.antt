-- `checks::is_copy` meets its contract: the comparison, and the two flags of the packet's head. Assumes nothing.
use Rattle.device_receiving.proofs.checks.is_copy.Goals as goal

pub returns : goal.returns
returns c =
    rw (c.same.ensures, c.is_first.ensures, c.is_last.ensures, c.requires)
