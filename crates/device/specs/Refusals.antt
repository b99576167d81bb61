-- Rows D1 to D3 (document 01, "Numbered refusals"), and what an entry answers: its row, its reply, what is sent, and the next record.
use Rattle.std.specs.Prelude.{ℕ, Bool, true, false, not, List, [], ◌∷◌, ◌++◌, eqb, Option, Some, None, Result, Ok, Err}
use Rattle.wire.specs.Checks.{first_of}
use Rattle.wire.specs.Codes.{offer_ready}
use Rattle.wire_offer.specs.Reply.{reply_bytes}
use Rattle.device_component.specs.declared.record.Component.{Component}
use Rattle.device_session.specs.Effect.{no_replies}
use Rattle.device_session.specs.Sound as sound
use Rattle.device_session.specs.declared.effect.Replies.{Replies}
use Rattle.device_session.specs.declared.effect.Effect.{Effect}
use Rattle.device.specs.declared.record.Device.{Device}
use Rattle.device.specs.declared.answer.Refusal.{Refusal}
use Rattle.device.specs.declared.answer.Refusal.TheVariants.{D1, D2, D3}
use Rattle.device.specs.declared.answer.Answer.{Answer}
use Rattle.device.specs.Record.{with_session}

-- the rows of document 01 that the device gives out
pub data Row : Type 0 where
  served : Row
  row_d : ℕ → Row

-- the number of a refusal's row
abbrev pub number_of : Refusal → ℕ
number_of D1 = 1
number_of D2 = 2
number_of D3 = 3

-- the number of the row that an answer refuses by, or 0 where no row refuses
abbrev pub number_told : {A : Type 0} → Result A Refusal → ℕ
number_told (Ok x) = 0
number_told (Err refusal) = number_of refusal

abbrev pub row_of : Refusal → Row
row_of refusal = row_d (number_of refusal)

-- the row of a result
abbrev pub row_in : {A : Type 0} → Result A Refusal → Row
row_in (Ok a) = served
row_in (Err refusal) = row_of refusal

-- a row refuses the call
abbrev pub is_refused : Row → Bool
is_refused served = false
is_refused (row_d k) = true

-- lent bytes after a call: as it leaves them where it is served, and as they were where a row refuses
abbrev pub kept_by : Row → (before after : List ℕ) → List ℕ
kept_by served before after = after
kept_by (row_d k) before after = before

-- D1
abbrev pub breaks_d1 : Device → Bool
breaks_d1 d = sound.breaks_d1 d.staging_len d.count d.components d.session

-- D1, D2 and D3, in this order, for a staging buffer of n bytes, a report of m bytes, and an entry whose reports are `size` bytes long
unfoldable pub refusal_of : (size : ℕ) → Device → (n m : ℕ) → Row
refusal_of size d n m =
    first_of (
    (breaks_d1 d, row_d 1)
    ∷ (not (eqb n d.staging_len), row_d 2)
    ∷ (not (eqb m size), row_d 3)
    ∷ [])
    served

-- what an entry for packets answers: the row; the reply and the owed READY that follows it, where they are due; what is sent, in order; and the next
-- record
pub record Outcome : Type 0 where
  pub row : Row
  pub replies : Replies
  pub sent : List (List ℕ)
  pub device : Device

-- the READY that was owed, with its own token
abbrev pub ready_bytes : ℕ → List ℕ
ready_bytes token = reply_bytes (record { token = token; reason = 0; status = offer_ready })

abbrev pub ready_sent : Option ℕ → List (List ℕ)
ready_sent None = []
ready_sent (Some t) = ready_bytes t ∷ []

abbrev pub due_sent : Bool → List ℕ → List (List ℕ)
due_sent true bytes = bytes ∷ []
due_sent false bytes = []

-- what is sent, in order: the reply where one is due, and the READY that was owed
abbrev pub sent_with : Replies → List (List ℕ)
sent_with replies = due_sent replies.due replies.reply ++ ready_sent replies.ready

-- a refused call: its row, a zeroed reply, nothing sent, the record unchanged
abbrev pub refused_by : Row → Device → Outcome
refused_by row d = record { row = row; replies = no_replies; sent = []; device = d }

-- the outcome of an answer, which no row refuses
abbrev pub answered : Answer → Outcome
answered a = record { row = served; replies = a.replies; sent = sent_with a.replies; device = a.device }

-- the outcome of a call to this device: that of its answer, or that of the row that refuses it
abbrev pub told : Device → Result Answer Refusal → Outcome
told d (Ok a) = answered a
told d (Err refusal) = refused_by (row_of refusal) d

-- a served call: what the packet does, and the components afterwards
abbrev pub served_with : Device → List Component → Effect → Outcome
served_with d components effect = record {
  row = served;
  replies = effect.replies;
  sent = sent_with effect.replies;
  device = with_session d components effect.session;
}

-- a refused call, or the answer of the entry
abbrev pub unless_refused : Row → Device → Outcome → Outcome
unless_refused served d answer = answer
unless_refused (row_d k) d answer = refused_by (row_d k) d
