-- `Host::report`: each field. Assumes nothing.
use Rattle.host_record.specs.Record.{report_of}
use Rattle.host_record.proofs.record.Host.report.Goals as goal

pub returns : goal.returns
unfolding report_of
returns c = rw c.progress.ensures
