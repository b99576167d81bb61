-- The bytes of a session, part behind part, and their number. Assumes nothing.
use mathlib.Core.Path.{◌≡◌, refl, sym, ap, ap₂, ◌∙◌}
use mathlib.Core.List.{List, ◌++◌, append_assoc}
use Prim.Native.Nat.{ℕ, ◌+◌, ◌≤◌}
use native.Mathlib.Omega.{arith}
use lib.ListN.{length, take, drop, length-append, length-take, length-drop}
use lib.Seq.{take_all}
use Rattle.wire.specs.Bytes.{copy_of}
use Rattle.wire.specs.Codes.{long_size}
use Rattle.wire.proofs.Pieces.{put_more}
use Rattle.wire.proofs.words.Copies.{copy_same}
use Rattle.device_session.specs.Effect.{blank_packet}
use Rattle.device_session.specs.declared.stage.Stage.{Stage}
use Rattle.device_session.specs.declared.stage.Stage.TheVariants.{Idle, Offered, Receiving}
use Rattle.std.specs.Prelude.{Option, Some, None}
use Rattle.device_session.specs.declared.effect.Session.{Session}
use Rattle.device_session_bytes.specs.Layout.{stage_size, owed_at, owed_size, previous_at, session_size, stage_bytes, owed_bytes, session_bytes}

-- a stage is so many bytes, and so is what is owed
pub stage_sized : (s : Stage) → length (stage_bytes s) ≡ stage_size
stage_sized Idle = refl
stage_sized (Offered o) = refl
stage_sized (Receiving r) = refl

pub owed_sized : (o : Option ℕ) → length (owed_bytes o) ≡ owed_size
owed_sized None = refl
owed_sized (Some t) = refl

-- a session is so many bytes, where its previous packet has the size of one
pub session_sized : (t : Session) → length t.previous ≡ long_size → length (session_bytes t) ≡ session_size
session_sized t h =
    length-append (stage_bytes t.stage) (owed_bytes t.owed ++ t.previous)
    ∙ ap₂ (λ (m n : ℕ). m + n) (stage_sized t.stage) (length-append (owed_bytes t.owed) t.previous ∙ ap₂ (λ (m n : ℕ). m + n) (owed_sized t.owed) h)

-- the bytes with a copy in their part from `at` on
abbrev put : (at k : ℕ) → (out last : List ℕ) → List ℕ
put at k out last = take at out ++ (last ++ drop k (drop at out))

-- a session, from copies of its parts, one behind the other
pub session_of : (t : Session) (out s o x y z : List ℕ) → length out ≡ session_size → length t.previous ≡ long_size → s ≡ stage_bytes t.stage → o ≡ owed_bytes t.owed
    → x ≡ copy_of (take stage_size (drop 0 out)) s → let a = put 0 stage_size out x in y ≡ copy_of (take owed_size (drop owed_at a)) o
    → let b = put owed_at owed_size a y in z ≡ copy_of (take long_size (drop previous_at b)) t.previous
    → put previous_at long_size b z ≡ session_bytes t
session_of t out s o x y z whole h e f i j k =
    let a = put 0 stage_size out x in
    let b = put owed_at owed_size a y in
    let p = put_more out s x 0 stage_size stage_size refl (ap length e ∙ stage_sized t.stage) (omega arith) i in
    let q = put_more a o y owed_at owed_size owed_size refl (ap length f ∙ owed_sized t.owed) (omega arith) j in
    let r = put_more b t.previous z previous_at long_size long_size refl h (omega arith) k in
    sym (take_all session_size (put previous_at long_size b z) (omega arith)) ∙ r.1 ∙ ap (λ (l : List ℕ). l ++ t.previous) (q.1 ∙ ap₂ (λ (u v : List ℕ). u ++ v) (p.1 ∙ e) f)
    ∙ append_assoc (stage_bytes t.stage) (owed_bytes t.owed) t.previous

-- the previous packet, where the bytes reach to its end
pub previous_of : (q last : List ℕ) → session_size ≤ length q → last ≡ copy_of blank_packet (take long_size (drop previous_at q)) → last ≡ take long_size (drop previous_at q)
previous_of q last h e =
    let l : long_size ≡ length (take long_size (drop previous_at q)) = simp (length-take, length-drop) (omega arith) in
    e ∙ copy_same blank_packet (take long_size (drop previous_at q)) l
