-- Row D1, clause by clause (document 01, "Numbered refusals"; document 02: its last clause as A1 and A5 read it, and A4's clause on the previous packet).
use Rattle.std.specs.Prelude.{ℕ, Bool, false, not, ◌||◌, List, take, ◌==◌, nat_le, Option, Some, None}
use Rattle.wire.specs.Checks.{any}
use Rattle.wire_content.specs.Head.{head_in}
use Rattle.device_component.specs.Record.{is_pending}
use Rattle.device_component.specs.Lists.{component_at}
use Rattle.device_component.specs.Versions.{keeps_staged}
use Rattle.device_component.specs.Setup.{is_refused, setup_verdict}
use Rattle.device_component.specs.declared.record.Component.{Component}
use Rattle.device_slots.specs.Slots.{slot_of}
use Rattle.device_session.specs.declared.stage.Stage.{Stage}
use Rattle.device_session.specs.declared.stage.Stage.TheVariants.{Idle, Offered, Receiving}
use Rattle.device_session.specs.declared.effect.Session.{Session}
use Rattle.device_session.specs.Stage.{open_slot, following}
use Rattle.device_session.specs.Owed.{owes}

-- breaks S1 to S5
abbrev pub breaks_setup : (n count : ℕ) → List Component → Bool
breaks_setup n count components = is_refused (setup_verdict n count components)

-- opens on a slot that is unlisted, or whose component, c, is pending
abbrev pub wrong_slot : (count : ℕ) → Component → Option ℕ → Bool
wrong_slot count c None = false
wrong_slot count c (Some k) = nat_le count k || is_pending c.staged

abbrev pub opens_wrong : (count : ℕ) → List Component → Session → Bool
opens_wrong count components session = wrong_slot count (component_at components (slot_of (open_slot session.stage))) (open_slot session.stage)

-- receiving, and the sequence of the previous packet is not just before the next one (document 02, A4)
abbrev pub wrong_previous : Stage → (previous : List ℕ) → Bool
wrong_previous Idle previous = false
wrong_previous (Offered o) previous = false
wrong_previous (Receiving r) previous = not (following (head_in previous).sequence == r.next)

abbrev pub holds_wrong : Session → Bool
holds_wrong session = wrong_previous session.stage session.previous

-- owes while idle
abbrev pub owes_on : Option ℕ → Option ℕ → Bool
owes_on None o = owes o
owes_on (Some k) o = false

abbrev pub owes_idle : Session → Bool
owes_idle session = owes_on (open_slot session.stage) session.owed

-- has a staged version that does not fit: of another variant than the running one, of a lower release, or of one below the floor's
abbrev pub staged_unfit : (count : ℕ) → List Component → Bool
staged_unfit count components = any (λ c. not (keeps_staged c c.staged)) (take count components)

-- D1, for a staging buffer of n bytes; slots at or past the count are never looked at
unfoldable pub breaks_d1 : (n count : ℕ) → List Component → Session → Bool
breaks_d1 n count components session =
    breaks_setup n count components
    || (opens_wrong count components session || (holds_wrong session || (owes_idle session || staged_unfit count components)))
