-- What a step answers (document 01, "The host" and rows B, N1).
use Rattle.std.specs.Prelude.{ℕ, ◌-◌, List, [], ◌∷◌, ◌++◌, Result, Ok, Err, length, take, replicate}
use Rattle.wire.specs.Codes.{short_size}
use Rattle.bundle_layout.specs.Rows as bundle
use Rattle.host_record.specs.declared.record.Host.{Host}
use Rattle.host_packet.specs.Packet.{packet_size}
use Rattle.host_packet.specs.declared.answer.Sent.{Sent}
use Rattle.host_packet.specs.declared.answer.Sent.TheVariants as sent
use Rattle.host_packet.specs.declared.answer.StepRefusal.{StepRefusal}
use Rattle.host_packet.specs.declared.answer.StepRefusal.TheVariants as refusal
use Rattle.host_packet.specs.declared.answer.StepAnswer.{StepAnswer}

-- the rows of document 01 that a step gives out
pub data Row : Type 0 where
  served : Row
  row_b : (number entry : ℕ) → Row
  row_n : ℕ → Row

-- what a step answers: the row, the packet that is sent, if any, its bytes filled up to packet_size by zeros, and the next record
pub record Step : Type 0 where
  pub row : Row
  pub sent : List (List ℕ)
  pub packet : List ℕ
  pub host : Host

abbrev pub filled : List (List ℕ) → List ℕ
filled [] = replicate packet_size 0
filled (p ∷ ps) = p ++ replicate (packet_size - length p) 0

-- a refused step: its row, nothing sent, a packet of zeros, the record unchanged
abbrev pub refused_by : Row → Host → Step
refused_by row h = record { row = row; sent = []; packet = replicate packet_size 0; host = h }

-- the row of a refusal
abbrev pub row_of : StepRefusal → Row
row_of (refusal.Bundle r) = row_b (bundle.number_of r.row) r.place
row_of refusal.N1 = row_n 1

-- the number of a row, 0 where none refuses; and the entry that it names, or 0
abbrev pub number_of : Row → ℕ
number_of served = 0
number_of (row_b k entry) = k
number_of (row_n k) = k

abbrev pub entry_of : Row → ℕ
entry_of served = 0
entry_of (row_b k entry) = entry
entry_of (row_n k) = 0

-- the number of the row of a result, 0 where none refuses; and the entry that it names, or 0
abbrev pub number_told : {A : Type 0} → Result A StepRefusal → ℕ
number_told (Ok a) = 0
number_told (Err r) = number_of (row_of r)

abbrev pub entry_told : {A : Type 0} → Result A StepRefusal → ℕ
entry_told (Ok a) = 0
entry_told (Err r) = entry_of (row_of r)

-- how many bytes are sent
abbrev pub size_of : Sent → ℕ
size_of sent.Nothing = 0
size_of sent.Offer = short_size
size_of sent.Content = packet_size

abbrev pub sent_by : Sent → List ℕ → List (List ℕ)
sent_by sent.Nothing packet = []
sent_by sent.Offer packet = take short_size packet ∷ []
sent_by sent.Content packet = packet ∷ []

-- what the step of a host answers, in these terms
abbrev pub told : Host → Result StepAnswer StepRefusal → Step
told h (Ok a) = record { row = served; sent = sent_by a.sent a.packet; packet = a.packet; host = a.host }
told h (Err r) = refused_by (row_of r) h
