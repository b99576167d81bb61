-- Both ends as the code of a run holds them between two turns, and one turn of them.
use Rattle.std.specs.Prelude.{ℕ, ◌≡◌, cond, List, [], ◌∷◌}
use Rattle.bundle_layout.specs.Rows as bundle
use Rattle.host_packet.specs.Answer.{Step}
use Rattle.host_packet.specs.Made.{InnerStep}
use Rattle.host.specs.Inner.{inner_of}
use Rattle.host_record.specs.declared.record.Host.{Host}
use Rattle.host_record.specs.declared.fits.Body.{Body}
use Rattle.device.specs.declared.answer.Answer.{Answer}
use Rattle.update.specs.declared.turn.BothEnds.{BothEnds}
use Rattle.update.specs.Trace.{Exchange}
use Rattle.update.specs.Run.{System, once, turned}

-- the reply on its way, if any
abbrev pub way_of : BothEnds → List (List ℕ)
way_of e = cond e.replies.due (e.replies.reply ∷ []) []

-- the reply that the host is handed, and no bytes where there is none
abbrev pub reply_of : BothEnds → List ℕ
reply_of e = cond e.replies.due e.replies.reply []

-- both ends, with the staging buffer, the packet whose reply is awaited, and the list of what was sent
abbrev pub system_of : BothEnds → (staging : List ℕ) → (awaited : List (List ℕ)) → List Exchange → System
system_of e staging awaited trace = record {
  host = e.host;
  device = e.device;
  staging = staging;
  replies = way_of e;
  awaited = awaited;
  trace = trace;
}

-- a system has come to these ends, whatever was sent on the way
abbrev pub Comes : System → BothEnds → (staging : List ℕ) → Type 0
Comes s e staging = (awaited : List (List ℕ)) × (trace : List Exchange) × (s ≡ system_of e staging awaited trace)

-- the host's step at its cursor, over an accepted bundle of so many offers, with the body in hand
abbrev pub step_from : (b : List ℕ) → (count : ℕ) → (hand : Body) → BothEnds → InnerStep
step_from b count hand e = inner_of b bundle.served count hand e.cursor e.host (reply_of e)

-- both ends after a step of the host that came to this record and cursor, and the device's answer to it
abbrev pub after_of : Host → (cursor : ℕ) → Answer → BothEnds
after_of host cursor a = record { host = host; device = a.device; replies = a.replies; cursor = cursor }

-- what a step sent arrives once, whichever row, packet bytes, record and cursor the step came to; where nothing was sent, the answer has the device as it was and
-- no reply
abbrev pub Delivered : List (List ℕ) → BothEnds → (staging : List ℕ) → Answer → (staging : List ℕ) → Type 0
Delivered sent e staging a staging' =
    (x : Step) → x.sent ≡ sent → (cursor : ℕ) → (awaited : List (List ℕ)) → (trace : List Exchange)
    → Comes (turned once x (system_of e staging awaited trace)) (after_of x.host cursor a) staging'

-- one turn: the host's step, what it sends is answered, and the cursor is kept
abbrev pub Turned : (b : List ℕ) → (count : ℕ) → (hand : Body) → BothEnds → (staging : List ℕ) → BothEnds → (staging : List ℕ) → Type 0
Turned b count hand e staging e' staging' =
    (e'.cursor ≡ (step_from b count hand e).cursor)
    × ((awaited : List (List ℕ)) → (trace : List Exchange) → Comes (turned once (step_from b count hand e).step (system_of e staging awaited trace)) e' staging')
