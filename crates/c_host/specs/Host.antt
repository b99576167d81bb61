-- The calls from C for a host's record: what each answers and leaves in each lent buffer. A refused call leaves the record as it is.
use Rattle.std.specs.Prelude.{ℕ, cond, List, leb}
use Rattle.host_record.specs.Record.{Reported, report_of, status_of, fresh_host}
use Rattle.host_record.specs.Fits.{packet_limit}
use Rattle.host_packet.specs.Answer.{row_n}
use Rattle.host_bytes.specs.Layout.{host_size, host_bytes, read_host}
use Rattle.c_types.specs.declared.types.CReport.{CReport}
use Rattle.c_types.specs.Numbers.{served_number, wrong_record, sized}
use Rattle.c_types.specs.Lent.{Left, leaves}
use Rattle.c_host.specs.Numbers.{step_number, ending_number}

-- a fresh host, and the record that it leaves
unfoldable pub fresh_call : (host : List ℕ) → (token : ℕ) → Left
fresh_call host token = sized host host_size (leaves wrong_record host) (leaves served_number (host_bytes (fresh_host token)))

-- the report; a record that counts 2^31 packets or more is N1 over every bundle, and so here
abbrev pub report_by : Reported → CReport
report_by r = record {
  number = cond (leb packet_limit r.packets) (step_number (row_n 1)) served_number;
  completed = r.completed;
  mask = r.mask;
  packets = r.packets;
  passes = r.passes;
  ending = ending_number r.ending;
  status = status_of r.ending;
}

abbrev pub wrong_report : CReport
wrong_report = record { number = wrong_record; completed = 0; mask = 0; packets = 0; passes = 0; ending = 0; status = 0 }

unfoldable pub report_call : (host : List ℕ) → CReport
report_call host = sized host host_size wrong_report (report_by (report_of (read_host host)))
