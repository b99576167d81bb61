-- A session and a component that are stored over their own bytes. Assumes nothing.
use mathlib.Core.Path.{◌≡◌, ap, ap₂, ◌∙◌}
use mathlib.Core.Bool.{false, true}
use mathlib.Core.List.{List, ◌++◌}
use Prim.Native.Nat.{ℕ, ◌+◌}
use native.Mathlib.Omega.{arith}
use borrow.Author.Tests.{eq-eqb, ne_eqb}
use lib.ListN.{length, take, drop}
use Rattle.wire.specs.Bytes.{copy_of}
use Rattle.wire.proofs.Pieces.{copied}
use Rattle.device_component.specs.declared.record.Component.{Component}
use Rattle.device_component_bytes.specs.Layout.{component_size, component_bytes}
use Rattle.device_component_bytes.proofs.Laws.{component_sized}
use Rattle.device_session.specs.declared.effect.Session.{Session}
use Rattle.device_session_bytes.specs.Layout.{session_size, session_bytes}
use Rattle.device_bytes.specs.Layout.{session_start, components_start, device_size, component_start, has_slot, with_session_bytes, with_component_bytes}
use Rattle.device_bytes.proofs.component.Laws.{slot_within}

-- a session
pub session_stored : (b s last : List ℕ) (t : Session) (k : ℕ) → length b ≡ device_size → k ≡ session_size → length s ≡ session_size → s ≡ session_bytes t → last ≡ copy_of (take k (drop session_start b)) s
    → take session_start b ++ (last ++ drop k (drop session_start b)) ≡ with_session_bytes t b
unfolding with_session_bytes
session_stored b s last t k whole e h f g =
    rw (eq-eqb (length b) device_size whole)
    (copied b s last session_start session_size k e h (omega arith) g ∙ ap (λ (l : List ℕ). take session_start b ++ (l ++ drop components_start b)) f)

pub session_stays : (t : Session) (b : List ℕ) → (length b ≡ device_size → ⊥) → b ≡ with_session_bytes t b
unfolding with_session_bytes
session_stays t b h = rw (ne_eqb (length b) device_size h)

-- a component
pub component_stored : (b s last : List ℕ) (slot at k : ℕ) (c : Component) → has_slot slot b ≡ true → at ≡ component_start slot → k ≡ component_size → s ≡ component_bytes c
    → last ≡ copy_of (take k (drop at b)) s → take at b ++ (last ++ drop k (drop at b)) ≡ with_component_bytes slot c b
unfolding with_component_bytes
component_stored b s last slot at k c h d e f g =
    rw h
    (copied b s last at component_size k e (ap length f ∙ component_sized c) (slot_within slot at b d h) g
    ∙ ap₂ (λ (i : ℕ) (l : List ℕ). take i b ++ (l ++ drop (i + component_size) b)) d f)

pub component_stays : (slot : ℕ) (c : Component) (b : List ℕ) → has_slot slot b ≡ false → b ≡ with_component_bytes slot c b
unfolding with_component_bytes
component_stays slot c b h = rw h
