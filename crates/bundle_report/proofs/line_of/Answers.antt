-- `line_of`: the parts of the version, each by its reader. Assumes nothing.
use Rattle.bundle_report.proofs.line_of.Goals as goal

pub returns : goal.returns
returns c = rw (c.major.ensures, c.minor.ensures, c.variant.ensures)
