-- The session of a device as bytes, little-endian, for whoever keeps it outside of Rattle: the stage, the ready-reply that is owed, and the previous packet
-- (document 02, A4). What is read stands in bytes that start at the session.
use Rattle.std.specs.Prelude.{ℕ, ◌+◌, Bool, cond, ◌&&◌, List, [], ◌∷◌, ◌++◌, eqb, leb, length, get_or, take, drop, Option, Some, None}
use Rattle.wire.specs.Bytes.{number, bytes_of, bytes_at}
use Rattle.wire.specs.Codes.{long_size}
use Rattle.device_session.specs.declared.stage.Stage.{Stage}
use Rattle.device_session.specs.declared.stage.Stage.TheVariants.{Idle, Offered, Receiving}
use Rattle.device_session.specs.declared.effect.Session.{Session}
use Rattle.device_session.specs.Effect.{blank_packet}

-- where the parts of a stage stand behind its number: the slot, the token, the next sequence; and its length
abbrev pub slot_at : ℕ
slot_at = 1

abbrev pub token_at : ℕ
token_at = slot_at + 1

abbrev pub next_offset : ℕ
next_offset = token_at + 1

abbrev pub stage_size : ℕ
stage_size = next_offset + 2

-- where what is owed stands behind the stage, and its token, and its length; where the previous packet stands behind that; and the length of the session
abbrev pub owed_at : ℕ
owed_at = stage_size

abbrev pub owed_token_at : ℕ
owed_token_at = owed_at + 1

abbrev pub owed_size : ℕ
owed_size = 1 + 1

abbrev pub previous_at : ℕ
previous_at = owed_at + owed_size

abbrev pub session_size : ℕ
session_size = previous_at + long_size

-- the stage (0 idle, 1 offered, 2 receiving), the slot, the token, the next sequence; zero where the stage has none
abbrev pub stage_bytes : Stage → List ℕ
stage_bytes Idle = 0 ∷ 0 ∷ 0 ∷ bytes_of 2 0
stage_bytes (Offered o) = 1 ∷ o.slot ∷ o.token ∷ bytes_of 2 0
stage_bytes (Receiving r) = 2 ∷ r.slot ∷ r.token ∷ bytes_of 2 r.next

-- 0 nothing owed, or 1, and the token
abbrev pub owed_bytes : Option ℕ → List ℕ
owed_bytes None = 0 ∷ 0 ∷ []
owed_bytes (Some t) = 1 ∷ t ∷ []

-- a session: the stage, what is owed, and the previous packet as it stands
abbrev pub session_bytes : Session → List ℕ
session_bytes s = stage_bytes s.stage ++ (owed_bytes s.owed ++ s.previous)

-- the parts that stand in bytes, unjudged; bytes that a flag rules out are not looked at
abbrev pub stage_in : (stage slot token next : ℕ) → Stage
stage_in stage slot token next =
    cond (eqb stage 1) (Offered (record { slot = slot; token = token }))
    (cond (eqb stage 2) (Receiving (record { slot = slot; token = token; next = next })) Idle)

abbrev pub owed_in : (owed token : ℕ) → Option ℕ
owed_in owed token = cond (eqb owed 1) (Some token) None

-- the previous packet, in whatever stage; bytes too short for it are read as no packet
abbrev pub previous_in : List ℕ → List ℕ
previous_in q = cond (leb session_size (length q)) (take long_size (drop previous_at q)) blank_packet

abbrev pub session_in : List ℕ → Session
session_in q = record {
  stage = stage_in (get_or q 0 0) (get_or q slot_at 0) (get_or q token_at 0) (number (bytes_at 2 next_offset q));
  owed = owed_in (get_or q owed_at 0) (get_or q owed_token_at 0);
  previous = previous_in q;
}

-- the flags are such as a session has: the stage at most 2, owed at most 1
abbrev pub session_flags_fit : List ℕ → Bool
session_flags_fit q = leb (get_or q 0 0) 2 && leb (get_or q owed_at 0) 1
