-- The host's record: its values, its start, and its report (document 01, "The host"; document 02, A4).
use Rattle.std.specs.Prelude.{ℕ, Option, Some, None, ◌+◌, ◌/◌, ◌%◌, ◌^◌, ◌<◌, Bool, true, false, cond, eqb}
use Rattle.std.specs.Int.Count.{ones}
use Rattle.host_record.specs.declared.record.Host.{Host}
use Rattle.host_record.specs.declared.record.Place.{Place}
use Rattle.host_record.specs.declared.record.Awaited.{Awaited}
use Rattle.host_record.specs.declared.record.HostStage.{HostStage}
use Rattle.host_record.specs.declared.record.HostStage.TheVariants.{Fresh, Opening, Listing, Offering, Waiting, Sending, Closing, Ended}
use Rattle.host_record.specs.declared.record.End.{End}
use Rattle.host_record.specs.declared.record.End.TheVariants as end
use Rattle.host_record.specs.declared.report.Report.{Report}

-- the values of the types
abbrev pub FitsEnd : End → Type 0
FitsEnd end.Done = Unit {0}
FitsEnd (end.Status s) = s < 256
FitsEnd end.Foreign = Unit {0}
FitsEnd end.Unexpected = Unit {0}
FitsEnd end.Busy = Unit {0}

abbrev pub FitsHostStage : HostStage → Type 0
FitsHostStage Fresh = Unit {0}
FitsHostStage Opening = Unit {0}
FitsHostStage Listing = Unit {0}
FitsHostStage (Offering t) = (t.entry < 256 ^ 4) × (t.busy < 256 ^ 4)
FitsHostStage (Waiting t) = (t.entry < 256 ^ 4) × (t.busy < 256 ^ 4)
FitsHostStage (Sending a) = (a.place.entry < 256 ^ 4) × (a.place.block < 256 ^ 4)
FitsHostStage Closing = Unit {0}
FitsHostStage (Ended e) = FitsEnd e

pub record FitsHost (h : Host) : Type 0 where
  pub token : h.token < 256
  pub stage : FitsHostStage h.stage
  pub mask : h.mask < 256 ^ 4
  pub packets : h.packets < 256 ^ 4
  pub passes : h.passes < 256 ^ 4

-- a block that was just sent: no reply was passed over yet (document 02, A4)
abbrev pub sent_at : Place → Awaited
sent_at p = record { place = p; passed = false }

-- a block whose own reply is still awaited after one was passed over
abbrev pub passed_at : Place → Awaited
passed_at p = record { place = p; passed = true }

-- a host that has sent nothing
abbrev pub fresh_host : ℕ → Host
fresh_host token = record { token = token; stage = Fresh; mask = 0; packets = 0; passes = 0; skipped = false; landed = false }

-- bit i of a mask
abbrev pub has_bit : (mask i : ℕ) → Bool
has_bit mask i = eqb (mask / 2 ^ i % 2) 1

-- the mask with bit i set, whether it was set or not
abbrev pub with_bit : (mask i : ℕ) → ℕ
with_bit mask i = cond (has_bit mask i) mask (mask + 2 ^ i)

-- the sequence of block k
abbrev pub sequence_of : ℕ → ℕ
sequence_of k = k % 65536

-- how far a host is, by the names of document 01: running, done, or an end H1 (with the content status) to H4
pub data Ending : Type 0 where
  running : Ending
  done : Ending
  row_h1 : (status : ℕ) → Ending
  row_h2 : Ending
  row_h3 : Ending
  row_h4 : Ending

abbrev pub ending_of : End → Ending
ending_of end.Done = done
ending_of (end.Status s) = row_h1 s
ending_of end.Foreign = row_h2
ending_of end.Unexpected = row_h3
ending_of end.Busy = row_h4

-- the number of the end, 0 where the host runs or is done; and the content status of H1, 0 otherwise
abbrev pub number_of : Ending → ℕ
number_of running = 0
number_of done = 0
number_of (row_h1 status) = 1
number_of row_h2 = 2
number_of row_h3 = 3
number_of row_h4 = 4

abbrev pub status_of : Ending → ℕ
status_of running = 0
status_of done = 0
status_of (row_h1 status) = status
status_of row_h2 = 0
status_of row_h3 = 0
status_of row_h4 = 0

abbrev pub ending_in : HostStage → Ending
ending_in Fresh = running
ending_in Opening = running
ending_in Listing = running
ending_in (Offering t) = running
ending_in (Waiting t) = running
ending_in (Sending a) = running
ending_in Closing = running
ending_in (Ended e) = ending_of e

abbrev pub told_progress : Option End → Ending
told_progress None = running
told_progress (Some e) = ending_of e

abbrev pub has_ended : HostStage → Bool
has_ended Fresh = false
has_ended Opening = false
has_ended Listing = false
has_ended (Offering t) = false
has_ended (Waiting t) = false
has_ended (Sending a) = false
has_ended Closing = false
has_ended (Ended e) = true

-- the fields of the report
pub record Reported : Type 0 where
  pub completed : ℕ
  pub mask : ℕ
  pub packets : ℕ
  pub passes : ℕ
  pub ending : Ending

-- the report: completed offers are the ones in the mask
unfoldable pub report_of : Host → Reported
report_of h = record {
  completed = ones h.mask;
  mask = h.mask;
  packets = h.packets;
  passes = h.passes;
  ending = ending_in h.stage;
}

abbrev pub told_report : Report → Reported
told_report r = record {
  completed = r.completed;
  mask = r.mask;
  packets = r.packets;
  passes = r.passes;
  ending = told_progress r.progress;
}
