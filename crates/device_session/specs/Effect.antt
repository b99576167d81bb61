-- The session, the one way it becomes idle, and what a packet that no row refuses does to it (document 01, "The device"; document 02, A4).
use Rattle.std.specs.Prelude.{◌≡◌, ℕ, true, false, List, length, replicate, Option, None}
use Rattle.wire.specs.Bytes.{Bytes}
use Rattle.wire.specs.Codes.{short_size, long_size}
use Rattle.device_session.specs.declared.stage.Stage.{Stage}
use Rattle.device_session.specs.declared.stage.Stage.TheVariants.{Idle}
use Rattle.device_session.specs.declared.effect.Session.{Session}
use Rattle.device_session.specs.declared.effect.Replies.{Replies}
use Rattle.device_session.specs.declared.effect.Effect.{Effect}
use Rattle.device_session.specs.Stage.{FitsStage}
use Rattle.device_session.specs.Owed.{FitsOwed}

-- the values of the type
pub record FitsSession (s : Session) : Type 0 where
  pub stage : FitsStage s.stage
  pub owed : FitsOwed s.owed
  pub size : length s.previous ≡ long_size
  pub bytes : Bytes s.previous

-- no packet, as 60 zero bytes: what a session is given as it ends and as it is opened
abbrev pub blank_packet : List ℕ
blank_packet = replicate long_size 0

-- idle, owing nothing and holding no packet: the one way a session becomes idle
abbrev pub idle : Session
idle = record { stage = Idle; owed = None; previous = blank_packet }

-- the session in another stage, holding this packet (document 02, A4)
abbrev pub in_stage : Session → Stage → (previous : List ℕ) → Session
in_stage session stage previous = record { stage = stage; owed = session.owed; previous = previous }

-- the session with another ready-reply owed
abbrev pub owing : Session → Option ℕ → Session
owing session owed = record { stage = session.stage; owed = owed; previous = session.previous }

-- nothing is sent
abbrev pub no_replies : Replies
no_replies = record { due = false; reply = replicate short_size 0; ready = None }

-- one reply, and then the READY that was owed
abbrev pub one_reply : List ℕ → Option ℕ → Replies
one_reply bytes ready = record { due = true; reply = bytes; ready = ready }

abbrev pub answered : List ℕ → Option ℕ → Session → Effect
answered bytes ready session = record { replies = one_reply bytes ready; session = session }

-- no reply now
abbrev pub silent : Session → Effect
silent session = record { replies = no_replies; session = session }
