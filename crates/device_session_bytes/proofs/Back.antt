-- A session is bytes and reads back, its flags fit, and what is read of bytes fits. Assumes nothing.
use mathlib.Core.Path.{◌≡◌, refl, sym, ap, ap₂, ◌∙◌}
use mathlib.Core.Bool.{Bool, true, false, cond}
use mathlib.Core.List.{List, [], ◌∷◌, ◌++◌, append_assoc}
use Prim.Native.Nat.{ℕ, ◌+◌, ◌^◌, ◌≤◌, ◌<◌}
use native.Mathlib.Omega.{arith}
use borrow.Author.Tests.{le-leb, leb-true}
use lib.Dec.{eqb, leb}
use lib.ListN.{get_or-append, length, get_or, take, drop, length-append, length-take, length-drop}
use lib.Seq.{take_at, drop_at, take-add, get_or-take, length-take-le}
use Rattle.wire.specs.Bytes.{Bytes, number, bytes_of, bytes_at}
use Rattle.wire.specs.Codes.{long_size}
use Rattle.wire.proofs.Bounds.{cons_bytes, join_bytes, no_bytes, word_bytes, word_fits, first_bytes, rest_bytes}
use Rattle.wire.proofs.words.Laws.{round}
use Rattle.device_session.specs.Stage.{FitsStage}
use Rattle.device_session.specs.Owed.{FitsOwed}
use Rattle.device_session.specs.Effect.{FitsSession, blank_packet}
use Rattle.device_session.proofs.effect.Laws.{blank_fits}
use Rattle.device_session.specs.declared.stage.Stage.{Stage}
use Rattle.device_session.specs.declared.stage.Stage.TheVariants.{Idle, Offered, Receiving}
use Rattle.std.specs.Prelude.{Option, Some, None}
use Rattle.device_session.specs.declared.effect.Session.{Session}
use Rattle.device_session_bytes.specs.Layout.{slot_at, token_at, next_offset, owed_at, owed_token_at, previous_at, session_size, stage_bytes, owed_bytes, session_bytes, previous_in, session_in, session_flags_fit}
use Rattle.device_session_bytes.proofs.Laws.{stage_sized, owed_sized}

-- the number of a stage, its slot, its token and its next sequence
fields : (n slot token next : ℕ) → n < 256 → slot < 256 → token < 256 → Bytes (n ∷ slot ∷ token ∷ bytes_of 2 next)
fields n slot token next h k l =
    cons_bytes n (slot ∷ token ∷ bytes_of 2 next) h (cons_bytes slot (token ∷ bytes_of 2 next) k (cons_bytes token (bytes_of 2 next) l (word_bytes 2 next)))

stage_bytes_lem : (s : Stage) → FitsStage s → Bytes (stage_bytes s)
stage_bytes_lem Idle f = fields 0 0 0 0 (omega arith) (omega arith) (omega arith)
stage_bytes_lem (Offered o) f = fields 1 o.slot o.token 0 (omega arith) f.0 f.1
stage_bytes_lem (Receiving r) f = fields 2 r.slot r.token r.next (omega arith) f.0 f.1

owed_bytes_lem : (o : Option ℕ) → FitsOwed o → Bytes (owed_bytes o)
owed_bytes_lem None f = word_bytes 2 0
owed_bytes_lem (Some t) f = cons_bytes 1 (t ∷ []) (omega arith) (cons_bytes t [] f no_bytes)

-- a session is bytes
pub session_bytes_lem : (t : Session) → FitsSession t → Bytes (session_bytes t)
session_bytes_lem t f =
    join_bytes (stage_bytes t.stage) (owed_bytes t.owed ++ t.previous) (stage_bytes_lem t.stage f.stage)
    (join_bytes (owed_bytes t.owed) t.previous (owed_bytes_lem t.owed f.owed) f.bytes)

-- a previous packet reads back in its place
previous_back : (a p rest : List ℕ) → length a ≡ previous_at → length p ≡ long_size → previous_in (a ++ (p ++ rest)) ≡ p
previous_back a p rest n h =
    let l : session_size ≤ length (a ++ (p ++ rest)) = rw (length-append a (p ++ rest), n, length-append p rest, h) (omega arith) in
    rw (le-leb session_size (length (a ++ (p ++ rest))) l, drop_at a (p ++ rest) previous_at n) (take_at p rest long_size h)

-- a stage and what is owed read back, whatever follows them, and their flags fit
parts_back : (s : Stage) (o : Option ℕ) (rest : List ℕ) → FitsStage s → let q = stage_bytes s ++ (owed_bytes o ++ rest) in
    ((session_in q).stage ≡ s) × ((session_in q).owed ≡ o) × (session_flags_fit q ≡ true)
parts_back Idle None rest f = (refl, refl, refl)
parts_back Idle (Some t) rest f = (refl, refl, refl)
parts_back (Offered x) None rest f = (refl, refl, refl)
parts_back (Offered x) (Some t) rest f = (refl, refl, refl)
parts_back (Receiving r) None rest f = (simp (round 2 r.next f.2), refl, refl)
parts_back (Receiving r) (Some t) rest f = (simp (round 2 r.next f.2), refl, refl)

-- a session reads back, whatever follows it, and its flags fit
pub session_back : (t : Session) (rest : List ℕ) → FitsSession t → (session_in (session_bytes t ++ rest) ≡ t) × (session_flags_fit (session_bytes t ++ rest) ≡ true)
session_back t rest f =
    let s = stage_bytes t.stage in
    let o = owed_bytes t.owed in
    let e = append_assoc s (o ++ t.previous) rest ∙ ap (λ (l : List ℕ). s ++ l) (append_assoc o t.previous rest) in
    let b = parts_back t.stage t.owed (t.previous ++ rest) f.stage in
    let n : length (s ++ o) ≡ previous_at = length-append s o ∙ ap₂ (λ (x y : ℕ). x + y) (stage_sized t.stage) (owed_sized t.owed) in
    let p = ap previous_in (sym (append_assoc s o (t.previous ++ rest))) ∙ previous_back (s ++ o) t.previous rest n f.size in
    rw e (rw (b.0, b.1, p), b.2)

-- what follows the bytes of a session leaves it alone, and its flags
pub session_first : (q rest : List ℕ) → session_size ≤ length q → let w = take session_size q ++ rest in (session_in w ≡ session_in q) × (session_flags_fit w ≡ session_flags_fit q)
session_first q rest h =
    let w = take session_size q ++ rest in
    let same : (i : ℕ) → i < session_size → get_or w i 0 ≡ get_or q i 0 = λ i k. get_or-append (take session_size q) rest 0 i (omega (arith, length-take-le session_size q h)) ∙ get_or-take session_size q i 0 k in
    let p = take long_size (drop previous_at q) in
    let l : length p ≡ long_size = simp (length-take, length-drop) (omega arith) in
    let m : previous_in w ≡ p = ap previous_in (ap (λ (t : List ℕ). t ++ rest) (take-add previous_at long_size q) ∙ append_assoc (take previous_at q) p rest)
    ∙ previous_back (take previous_at q) p rest (length-take-le previous_at q (omega arith)) l in
    let stage = same 0 (omega arith) in
    let owed = same owed_at (omega arith) in (
      rw (stage, same slot_at (omega arith), same token_at (omega arith), same next_offset (omega arith), same (next_offset + 1) (omega arith), owed, same owed_token_at (omega arith), m, le-leb session_size (length q) h),
      rw (stage, owed),
    )

-- what is read of bytes fits
stage_fits : (x y : Bool) (slot token next : ℕ) → slot < 256 → token < 256 → next < 256 ^ 2
    → FitsStage (cond x (Offered (record { slot = slot; token = token })) (cond y (Receiving (record { slot = slot; token = token; next = next })) Idle))
stage_fits true y slot token next f g h = (f, g)
stage_fits false true slot token next f g h = (f, g, h)
stage_fits false false slot token next f g h = tt

owed_fits : (x : Bool) (token : ℕ) → token < 256 → FitsOwed (cond x (Some token) None)
owed_fits true token f = f
owed_fits false token f = tt

-- the previous packet always has the size of one, and is bytes where it is read of bytes
pub previous_sized : (q : List ℕ) → length (previous_in q) ≡ long_size
previous_sized q = go (leb session_size (length q)) refl
  where
    go : (b : Bool) → leb session_size (length q) ≡ b → length (cond b (take long_size (drop previous_at q)) blank_packet) ≡ long_size
    go true e = simp (length-take, length-drop) (omega (arith, leb-true session_size (length q) e))
    go false e = blank_fits.size

previous_bytes : (b : Bool) (q : List ℕ) → Bytes q → Bytes (cond b (take long_size (drop previous_at q)) blank_packet)
previous_bytes true q h = first_bytes long_size (drop previous_at q) (rest_bytes previous_at q h)
previous_bytes false q h = blank_fits.bytes

pub session_fits : (q : List ℕ) → Bytes q → FitsSession (session_in q)
session_fits q h = record {
  stage =
      stage_fits (eqb (get_or q 0 0) 1) (eqb (get_or q 0 0) 2) (get_or q slot_at 0) (get_or q token_at 0) (number (bytes_at 2 next_offset q)) (h slot_at) (h token_at)
      (word_fits 2 next_offset q h);
  owed = owed_fits (eqb (get_or q owed_at 0) 1) (get_or q owed_token_at 0) (h owed_token_at);
  size = previous_sized q;
  bytes = previous_bytes (leb session_size (length q)) q h;
}
