-- What `run` answers: the rows that refuse it, or the end of the run.
use Rattle.std.specs.Prelude.{ℕ, not, List, [], ◌∷◌, Result, Ok, Err, eqb, length}
use Rattle.wire.specs.Checks.{first_of}
use Rattle.bundle_layout.specs.Rows as bundle
use Rattle.device.specs.Refusals.{breaks_d1}
use Rattle.device.specs.declared.record.Device.{Device}
use Rattle.host_record.specs.Record.{fresh_host, Reported, report_of, told_report}
use Rattle.update.specs.declared.RunRefusal.{RunRefusal}
use Rattle.update.specs.declared.RunRefusal.TheVariants as refusal
use Rattle.update.specs.declared.RunAnswer.{RunAnswer}
use Rattle.update.specs.Run.{System, once, last_of}

-- the rows of document 01 that a run gives out
pub data Row : Type 0 where
  served : Row
  row_b : (number entry : ℕ) → Row
  row_d : ℕ → Row

abbrev pub row_of : RunRefusal → Row
row_of (refusal.Bundle r) = row_b (bundle.number_of r.row) r.place
row_of refusal.D1 = row_d 1
row_of refusal.D2 = row_d 2

-- the number of a row, 0 where none refuses; and the entry that it names, or 0
abbrev pub number_of : Row → ℕ
number_of served = 0
number_of (row_b k entry) = k
number_of (row_d k) = k

abbrev pub entry_of : Row → ℕ
entry_of served = 0
entry_of (row_b k entry) = entry
entry_of (row_d k) = 0

-- the number of the row of a result, 0 where none refuses; and the entry that it names, or 0
abbrev pub number_told : {A : Type 0} → Result A RunRefusal → ℕ
number_told (Ok a) = 0
number_told (Err r) = number_of (row_of r)

abbrev pub entry_told : {A : Type 0} → Result A RunRefusal → ℕ
entry_told (Ok a) = 0
entry_told (Err r) = entry_of (row_of r)

-- what a run answers: its row, the report, the next record, and every byte of the staging buffer
pub record Ran : Type 0 where
  pub row : Row
  pub report : Reported
  pub device : Device
  pub staging : List ℕ

-- the report of a host that has sent nothing
abbrev pub unsent : (token : ℕ) → Reported
unsent token = report_of (fresh_host token)

-- a refused run: nothing sent and nothing changed
abbrev pub refused_by : Row → (token : ℕ) → Device → (staging : List ℕ) → Ran
refused_by row token d staging = record { row = row; report = unsent token; device = d; staging = staging }

abbrev pub ended : System → Ran
ended s = record { row = served; report = report_of s.host; device = s.device; staging = s.staging }

-- D1, then D2
abbrev pub device_row : Device → (staging : List ℕ) → Row
device_row d staging = first_of ((breaks_d1 d, row_d 1) ∷ (not (eqb (length staging) d.staging_len), row_d 2) ∷ []) served

abbrev pub ran_by : Row → (b : List ℕ) → (token : ℕ) → Device → (staging : List ℕ) → Ran
ran_by served b token d staging = ended (last_of b once token d staging [])
ran_by (row_b k entry) b token d staging = refused_by (row_b k entry) token d staging
ran_by (row_d k) b token d staging = refused_by (row_d k) token d staging

-- the bundle's rows first, since the host steps first; then the device's
abbrev pub first_row : bundle.Row → Device → (staging : List ℕ) → Row
first_row bundle.served d staging = device_row d staging
first_row (bundle.row_b k entry) d staging = row_b k entry

unfoldable pub run_of : (b : List ℕ) → (token : ℕ) → Device → (staging : List ℕ) → Ran
run_of b token d staging = ran_by (first_row (bundle.bundle_row b) d staging) b token d staging

-- what the run of a host with a token against a device answers, in these terms, with the staging buffer as it was left
abbrev pub told : (token : ℕ) → Device → Result RunAnswer RunRefusal → (staging : List ℕ) → Ran
told token d (Ok a) staging = record { row = served; report = told_report a.report; device = a.device; staging = staging }
told token d (Err r) staging = refused_by (row_of r) token d staging
