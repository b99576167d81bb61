-- `component::store_component` meets its contract: the component over the bytes of its slot. Assumes nothing.
use mathlib.Core.Path.{◌≡◌}
use Prim.Native.Nat.{◌+◌, ◌-◌}
use native.Mathlib.Omega.{arith}
use Rattle.wire.proofs.Chain.{by}
use Rattle.device_component_bytes.specs.Layout.{component_size}
use Rattle.device_bytes.proofs.component.Laws.{slot_within}
use Rattle.device_bytes.proofs.Stored.{component_stored, component_stays}
use Rattle.device_bytes.proofs.component.store_component.Goals.{After-component_start-at}
use Rattle.device_bytes.proofs.component.store_component.Goals as goal

pub slice_bounds-copy-end : goal.slice_bounds-copy-end
slice_bounds-copy-end c =
    let b = c in
    let a = b.args in slot_within a.slot _ a.b.now c.component_start-at.ensures (by b.has_slot.ensures b.if-has_slot.true)

pub returns-then-has_slot : goal.returns-then-has_slot
returns-then-has_slot c =
    let s = (goal.at.returns-then-has_slot c).After-component_start-at in
    let b = s in
    let a = b.args in
    let n = s.component_start-at.result in
    let k : (n + component_size) - n ≡ component_size = omega arith in
    component_stored a.b.now _ _ a.slot n _ a.component (by b.has_slot.ensures b.if-has_slot.true) s.component_start-at.ensures k b.component_bytes-p.ensures c.copy.ensures

pub returns-else-has_slot : goal.returns-else-has_slot
returns-else-has_slot c =
    let a = c.args in component_stays a.slot a.component _ (by c.has_slot.ensures c.if-has_slot.false)
