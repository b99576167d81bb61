-- `cfu_host_report` meets its contract: C1, or the report. Assumes nothing.
use Rattle.c_host.specs.Host.{report_call}
use borrow.Author.Tests.{eq-eqb, ne_eqb}
use Rattle.c_host.proofs.cfu_host_report.Goals as goal

pub returns-then-host-ne-HOST_SIZE : goal.returns-then-host-ne-HOST_SIZE
unfolding report_call
returns-then-host-ne-HOST_SIZE c = rw (ne_eqb _ _ c.if-host-ne-HOST_SIZE.true)

pub returns : goal.returns
unfolding report_call
returns c = rw (eq-eqb _ _ c.if-host-ne-HOST_SIZE.false, ← c.read_host-h.ensures, ← c.report-r.ensures, c.report_number.ensures, c.ending_number.ensures, c.ending_status.ensures)
