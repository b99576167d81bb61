-- A session that a parameter holds is a value of its type. Assumes nothing.
use Rattle.std.proofs.Common.{ℕ, List, [], ◌∷◌, Option, Some, None}
use mir.Val.{Val}
use denote.Array.{each}
use denote.Laws.{Is}
use denote.Shadow.{shadow}
use denote.Builtin.{u8}
use Rattle.wire.specs.Bytes.{Bytes}
use Rattle.wire.proofs.Bounds.{cons_bytes, no_bytes}
use Rattle.device_session.specs.Stage.{FitsStage}
use Rattle.device_session.specs.Owed.{FitsOwed}
use Rattle.device_session.specs.Effect.{FitsSession}
use Rattle.device_session.specs.declared.stage.Stage.{Stage}
use Rattle.device_session.specs.declared.stage.Stage.TheVariants.{Idle, Offered, Receiving}
use Rattle.device_session.specs.declared.effect.Session.{Session}
use Rattle.device_session.specs.contracts.stage.Stage as S
use Rattle.std.specs.contracts.option.Option as O
use Rattle.device_session.specs.contracts.effect.Session as E

-- a stage
stage_range : (s : Stage) (vs : List Val) → Is (S.the_field).row ((S.the_field).into s) vs → FitsStage s
stage_range Idle vs h = tt
stage_range (Offered o) vs h = let f = h.1.1.1.1.0.1.1 in (f.0.1, f.1.0.1)
stage_range (Receiving r) vs h = let f = h.1.1.1.1.0.1.1 in (f.0.1, f.1.0.1, f.1.1.0.1)

-- what is owed
owed_range : (o : Option ℕ) (vs : List Val) → Is (O.the_row u8) o vs → FitsOwed o
owed_range None vs h = tt
owed_range (Some t) vs h = h.1.1.1.1.0.1

-- the bytes of an array
bytes_range : (l : List ℕ) (us : List Val) → shadow (each u8.Denot u8.own_val l us) → Bytes l
bytes_range [] us h = no_bytes
bytes_range (b ∷ l) [] h = absurd h
bytes_range (b ∷ l) (u ∷ us) h = cons_bytes b l h.0.1 (bytes_range l us h.1)

-- a session
pub session_range : (s : Session) (vs : List Val) → Is (E.the_field).row ((E.the_field).into s) vs → FitsSession s
session_range s vs h =
    let f = h.1.1 in
    let a = f.1.1.0 in
    record {
      stage = stage_range s.stage _ f.0;
      owed = owed_range s.owed _ f.1.0;
      size = a.1.0.1;
      bytes = bytes_range s.previous a.0 a.1.1;
    }
