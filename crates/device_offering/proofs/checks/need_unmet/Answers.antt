-- `checks::need_unmet` meets its contract: check 8, each part as its helper says. Assumes nothing.
use Rattle.std.proofs.Math.Bool.{not-not}
use Rattle.device_offering.proofs.checks.need_unmet.Goals as goal

pub returns : goal.returns
returns c = rw (c.is_none.ensures, not-not, c.release.ensures, c.effective-version.ensures)
