-- `content::on_content` meets its contract: what the packet does to the session and to the component in its slot, each stored over its own bytes. Assumes
-- nothing.
use mathlib.Core.Path.{◌≡◌, ap, ap₂, ◌∙◌}
use mathlib.Core.List.{List}
use Prim.Native.Nat.{ℕ}
use Rattle.device_component.specs.Lists.{component_at}
use Rattle.device_component.specs.declared.record.Component.{Component}
use Rattle.device_session.specs.Stage.{at_slot}
use Rattle.device_session.specs.declared.effect.Session.{Session}
use Rattle.device_receiving.specs.Receive.{on_content, staging_after}
use Rattle.device_receiving.specs.declared.content.Taken.{Taken}
use Rattle.device.specs.Content.{session_component}
use Rattle.device_bytes.specs.Layout.{device_in, session_in, with_session_bytes, with_component_bytes}
use Rattle.device_in_place.specs.InPlace.{outcome_of}
use Rattle.device_in_place.specs.Inside.{content_by, content_stored}
use Rattle.std.specs.Prelude.{Ok}
use Rattle.device_bytes.proofs.Fields.{session_read}
use Rattle.device_in_place.proofs.content.on_content.Goals as goal

-- what is done with the session and with the component in a slot, where these are the record's
stored : (b p s s' : List ℕ) (session : Session) (slot : ℕ) (c : Component) (t : Taken) (b₁ b₂ : List ℕ) → let d = device_in b in session ≡ session_in b
    → slot ≡ at_slot session.stage → c ≡ component_at d.components slot
    → (t ≡ on_content c session p s) × (s' ≡ staging_after c.fixed.region session p s)
    → b₁ ≡ with_session_bytes t.effect.session b → b₂ ≡ with_component_bytes slot t.component b₁
    → (outcome_of (Ok t.effect.replies) (content_by b s p).device ≡ content_by b s p) × (b₂ ≡ content_stored b s p)
    × (s' ≡ staging_after (session_component d).fixed.region d.session p s)
stored b p s s' session slot c t b₁ b₂ e x y z u v =
    let i = e ∙ session_read b in
    let k = rw i at x in
    let o = rw (y, k, i) at z in (
      ap (λ (q : Taken). outcome_of (Ok q.effect.replies) (content_by b s p).device) o.0,
      v ∙ ap (with_component_bytes slot t.component) u ∙ ap₂ (λ (n : ℕ) (q : Taken). with_component_bytes n q.component (with_session_bytes q.effect.session b)) k o.0,
      o.1,
    )

pub returns : goal.returns
returns c =
    let a = c.args in
    stored a.bytes.now a.report.now a.staging.now _ c.session_in-session.result c.slot-slot.result c.component_at-component.result c.on_report-taken.result
    c.store_session.new.b c.store_component.new.b
    c.session_in-session.ensures c.slot-slot.ensures c.component_at-component.ensures c.on_report-taken.ensures c.store_session.ensures c.store_component.ensures
