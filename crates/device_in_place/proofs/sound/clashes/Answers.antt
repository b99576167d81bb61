-- `sound::clashes` meets its contract: some component from that slot on clashes with this one. Assumes nothing.
use Rattle.std.proofs.Common.{◌≡◌, ℕ, ◌-◌, ◌∙◌, refl, arith, rules, tests}
use Rattle.std.proofs.lemmas.Iterator.{YieldsList-from_range}
use Rattle.std.proofs.lemmas.Iterator.Search.{any_from_yields_List}
use Rattle.device_component.specs.Lists.{component_at}
use Rattle.device_component.specs.Record.{blank_component}
use Rattle.device_component.specs.Rules.{clash}
use Rattle.device_component.proofs.list.Loops.{ends}
use Rattle.device_bytes.specs.Layout.{device_in}
use Rattle.device_bytes.proofs.Fields.{full_in}
use Rattle.device_in_place.proofs.Walks.{walk_any}
use Rattle.device_in_place.proofs.sound.clashes.Goals as goal

pub returns : goal.returns
returns c =
    let a = c.args in
    let cs = (device_in a.b.now).components in
    let k = c.within_slots.result in
    let test = λ (i : ℕ). clash a.c (component_at cs i) in
    let n = k - a.from in
    any_from_yields_List test _ _ c.any.result c.any.ensures.ran (YieldsList-from_range a.from k n (cc) refl) (λ i x q k. search rules)
    ∙ walk_any cs blank_component a.count (clash a.c) n a.from (omega (arith, ends a.count cs (full_in a.b.now) c.within_slots.ensures))
