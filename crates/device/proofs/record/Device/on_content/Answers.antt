-- `Device::on_content` meets its contract: what the packet does to the component in the session's slot, put into the record. Assumes nothing.
use mathlib.Core.Path.{◌≡◌}
use mathlib.Core.List.{List}
use Prim.Native.Nat.{ℕ}
use lib.ListN.{set}
use Rattle.device_component.specs.declared.record.Component.{Component}
use Rattle.device_session.specs.Stage.{at_slot}
use Rattle.device_receiving.specs.Receive.{on_content, staging_after}
use Rattle.device_receiving.specs.declared.content.Taken.{Taken}
use Rattle.device.specs.Record.{component}
use Rattle.device.specs.Refusals.{Outcome, served_with}
use Rattle.device.specs.Content.{session_component, received}
use Rattle.device.specs.declared.record.Device.{Device}
use Rattle.device.proofs.record.Device.on_content.Goals as goal

-- what is done with the component in a slot, where that is the session's
stored : (d : Device) (p s s' : List ℕ) (slot : ℕ) (c : Component) (t : Taken) (cs : List Component) (a : Outcome)
    → slot ≡ at_slot d.session.stage → c ≡ component d slot
    → (t ≡ on_content c d.session p s) × (s' ≡ staging_after c.fixed.region d.session p s)
    → cs ≡ set d.components slot t.component → a ≡ served_with d cs t.effect
    → (a ≡ received d (on_content (session_component d) d.session p s))
    × (s' ≡ staging_after (session_component d).fixed.region d.session p s)
stored d p s s' slot c t cs a x y z v w = let h = rw (y, x) at z in (rw (w, v, h.0, x), h.1)

pub returns : goal.returns
returns c =
    let a = c.args in
    stored a.self a.report.now a.staging.now c.on_report-taken.new.staging c.slot-slot.result c.component_at-component.result c.on_report-taken.result c.with_component-next.result _
    c.slot-slot.ensures c.component_at-component.ensures c.on_report-taken.ensures c.with_component-next.ensures c.served.ensures
