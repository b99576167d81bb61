-- The stage of a session: idle, offered or receiving (document 01, "The device"), and the judgement of a block's sequence (document 02, A4).
use Rattle.std.specs.Prelude.{ℕ, ◌+◌, ◌%◌, ◌^◌, ◌<◌, Bool, true, false, cond, ◌==◌, Option, Some, None}
use Rattle.device_slots.specs.Slots.{slot_of}
use Rattle.device_session.specs.declared.stage.Stage.{Stage}
use Rattle.device_session.specs.declared.stage.Stage.TheVariants.{Idle, Offered, Receiving}
use Rattle.device_session.specs.declared.stage.SequenceVerdict.{SequenceVerdict}
use Rattle.device_session.specs.declared.stage.SequenceVerdict.TheVariants.{Next, Again, Wrong}

-- the values of the type
abbrev pub FitsStage : Stage → Type 0
FitsStage Idle = Unit {0}
FitsStage (Offered o) = (o.slot < 256) × (o.token < 256)
FitsStage (Receiving r) = (r.slot < 256) × (r.token < 256) × (r.next < 256 ^ 2)

-- the session is offered or receiving
abbrev pub is_open : Stage → Bool
is_open Idle = false
is_open (Offered o) = true
is_open (Receiving r) = true

abbrev pub is_receiving : Stage → Bool
is_receiving Idle = false
is_receiving (Offered o) = false
is_receiving (Receiving r) = true

-- the slot that the session is open on
abbrev pub open_slot : Stage → Option ℕ
open_slot Idle = None
open_slot (Offered o) = Some o.slot
open_slot (Receiving r) = Some r.slot

-- the slot of an open session
abbrev pub at_slot : Stage → ℕ
at_slot stage = slot_of (open_slot stage)

-- the token of the accepted offer
abbrev pub at_token : Stage → ℕ
at_token Idle = 0
at_token (Offered o) = o.token
at_token (Receiving r) = r.token

-- one more, with 65,535 followed by 0
abbrev pub following : ℕ → ℕ
following sequence = (sequence + 1) % 65536

-- the judgement of a block's sequence (document 02, A4): while receiving, the expected one is next, a copy of the previous packet is that block again, and any
-- other is wrong; otherwise any is next
abbrev pub sequence_verdict : Stage → (copy : Bool) → (sequence : ℕ) → SequenceVerdict
sequence_verdict Idle copy sequence = Next
sequence_verdict (Offered o) copy sequence = Next
sequence_verdict (Receiving r) copy sequence = cond (sequence == r.next) Next (cond copy Again Wrong)

abbrev pub is_again : SequenceVerdict → Bool
is_again Next = false
is_again Again = true
is_again Wrong = false

abbrev pub is_wrong : SequenceVerdict → Bool
is_wrong Next = false
is_wrong Again = false
is_wrong Wrong = true
