-- `cfu_device_component` meets its contract: C1, D1, C4, or what is told of the component. Assumes nothing.
use mathlib.Core.Path.{sym, ap, ◌∙◌}
use native.Mathlib.Omega.{arith}
use borrow.Author.Tests.{ne_eqb}
use Rattle.wire.proofs.Chain.{by}
use Rattle.c_access.specs.Access.{component_told, no_component, component_call}
use Rattle.c_access.proofs.Laws.{unsound_told, no_place_told, place_told}
use Rattle.c_access.proofs.cfu_device_component.Goals.{After-read_device-d, Else-breaks_d1, Else-d-place, Then-breaks_d1}
use Rattle.c_access.proofs.cfu_device_component.Goals as goal

pub returns-then-device-ne-DEVICE_SIZE : goal.returns-then-device-ne-DEVICE_SIZE
unfolding component_call
returns-then-device-ne-DEVICE_SIZE c = rw (ne_eqb _ _ c.if-device-ne-DEVICE_SIZE.true) c.no_component.ensures

pub returns-then-breaks_d1 : goal.returns-then-breaks_d1
returns-then-breaks_d1 c =
    let t = (goal.at.returns-then-breaks_d1 c).Then-breaks_d1 in
    let d = (goal.at.returns-then-breaks_d1 c).After-read_device-d in
    let s = d in
    let a = s.args in
    c.no_component-then-breaks_d1.ensures ∙ ap no_component c.device_number.ensures
    ∙ unsound_told a.device.now a.place d.read_device-d.result s.if-device-ne-DEVICE_SIZE.false d.read_device-d.ensures (by t.breaks_d1.ensures t.if-breaks_d1.true)

pub returns-then-d-place : goal.returns-then-d-place
returns-then-d-place c =
    let t = (goal.at.returns-then-d-place c).Else-breaks_d1 in
    let d = (goal.at.returns-then-d-place c).After-read_device-d in
    let s = d in
    let a = s.args in
    c.no_component-then-d-place.ensures
    ∙ no_place_told a.device.now a.place d.read_device-d.result s.if-device-ne-DEVICE_SIZE.false d.read_device-d.ensures (by t.breaks_d1.ensures t.if-breaks_d1.false) (omega (arith, c.if-d-place.true))

pub returns : goal.returns
returns c =
    let u = (goal.at.returns c).Else-d-place in
    let t = (goal.at.returns c).Else-breaks_d1 in
    let d = (goal.at.returns c).After-read_device-d in
    let s = d in
    let a = s.args in
    c.told.ensures ∙ ap component_told c.component_of.ensures
    ∙ sym (place_told a.device.now a.place d.read_device-d.result s.if-device-ne-DEVICE_SIZE.false d.read_device-d.ensures (by t.breaks_d1.ensures t.if-breaks_d1.false) u.if-d-place.false)
