-- The host's steps from C: what each answers and leaves in each lent buffer. A refused call leaves the record as it is.
use Rattle.std.specs.Prelude.{ℕ, cond, Result, Ok, Err, length}
use mathlib.Core.List.{List, flatten}
use Rattle.wire.specs.Codes.{long_size}
use Rattle.host_packet.specs.Answer.{Step, served, row_of, entry_of, size_of}
use Rattle.host_packet.specs.declared.answer.Sent.{Sent}
use Rattle.host_packet.specs.declared.answer.StepRefusal.{StepRefusal}
use Rattle.host_packet.specs.declared.answer.Stepped.{Stepped}
use Rattle.host_packet.specs.Made.{InnerStep}
use Rattle.host.specs.Step.{step_of}
use Rattle.host.specs.Inner.{inner_for}
use Rattle.host_bytes.specs.Layout.{host_size, host_bytes, read_host, contents_in, are_contents, cursor_for, kept_in, kept_by, contents_after}
use Rattle.c_types.specs.declared.types.CStep.{CStep}
use Rattle.c_types.specs.Numbers.{wrong_record, wrong_output, sized}
use Rattle.c_host.specs.Numbers.{step_number}

-- what a step leaves: the record, which a refused step leaves as it was, and the packet, zeros behind what is sent
pub record StepLeft : Type 0 where
  pub step : CStep
  pub host : List ℕ
  pub packet : List ℕ

abbrev pub told_step : CStep → (host packet : List ℕ) → StepLeft
told_step step host packet = record { step = step; host = host; packet = packet }

-- a call that C1 or C3 refuses
abbrev pub refused_by : (number : ℕ) → CStep
refused_by number = record { number = number; entry = 0; length = 0 }

abbrev pub refused_step : (number : ℕ) → (host packet : List ℕ) → StepLeft
refused_step number host packet = record { step = refused_by number; host = host; packet = packet }

-- what a step answers
abbrev pub answered_by : Result Sent StepRefusal → CStep
answered_by (Ok sent) = record { number = step_number served; entry = entry_of served; length = size_of sent }
answered_by (Err r) = record { number = step_number (row_of r); entry = entry_of (row_of r); length = 0 }

-- what an inner step answers, and what it leaves of the record and of the contents: the next ones where no row refuses
abbrev pub told_by : Result Stepped StepRefusal → CStep
told_by (Ok s) = answered_by (Ok s.sent)
told_by (Err r) = answered_by (Err r)

abbrev pub host_after : Result Stepped StepRefusal → (host : List ℕ) → List ℕ
host_after (Ok s) host = host_bytes s.host
host_after (Err r) host = host

abbrev pub kept_after : Result Stepped StepRefusal → (contents : List ℕ) → List ℕ
kept_after (Ok s) contents = kept_in contents s.host.stage s.cursor
kept_after (Err r) contents = contents

abbrev pub step_by : (host : List ℕ) → Step → StepLeft
step_by host s = record {
  step = record { number = step_number s.row; entry = entry_of s.row; length = length (flatten s.sent) };
  host = kept_by s.row host (host_bytes s.host);
  packet = s.packet;
}

unfoldable pub step_call : (host bundle reply packet : List ℕ) → StepLeft
step_call host bundle reply packet =
    sized host host_size (refused_step wrong_record host packet)
    (sized packet long_size (refused_step wrong_output host packet)
    (step_by host (step_of bundle (read_host host) reply)))

-- the inner step over contents: with the cursor that is kept for the record, or that a walk finds
abbrev pub inner_over : (host contents bundle reply : List ℕ) → InnerStep
inner_over host contents bundle reply = inner_for bundle (contents_in contents) (cursor_for bundle contents (read_host host).stage) (read_host host) reply

-- an answer that stands only where a check may have left the contents
abbrev pub checked : {A : Type 0} → (contents : List ℕ) → (wrong right : A) → A
checked contents wrong right = cond (are_contents contents) right wrong

-- the step over contents that the check left
unfoldable pub step_checked_call : (host contents bundle reply packet : List ℕ) → StepLeft
step_checked_call host contents bundle reply packet =
    sized host host_size (refused_step wrong_record host packet)
    (checked contents (refused_step wrong_record host packet)
    (sized packet long_size (refused_step wrong_output host packet)
    (step_by host (inner_over host contents bundle reply).step)))

-- the contents after it: with the block whose reply is awaited, if one is, and the cursor behind it
unfoldable pub step_checked_contents : (host contents bundle reply packet : List ℕ) → List ℕ
step_checked_contents host contents bundle reply packet =
    sized host host_size contents
    (checked contents contents
    (sized packet long_size contents
    (contents_after contents (inner_over host contents bundle reply))))
