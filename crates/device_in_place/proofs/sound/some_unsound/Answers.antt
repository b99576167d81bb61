-- `sound::some_unsound` meets its contract: each component, and each with those after it. Assumes nothing.
use Rattle.std.proofs.Common.{◌≡◌, ℕ, ◌+◌, ◌||◌, ◌∙◌, take, drop, refl, arith, rules, tests}
use Rattle.std.proofs.lemmas.Iterator.{YieldsList-from_range}
use Rattle.std.proofs.lemmas.Iterator.Search.{any_from_yields_List}
use Rattle.wire.specs.Checks.{any}
use Rattle.device_component.specs.Lists.{component_at}
use Rattle.device_component.specs.Record.{blank_component}
use Rattle.device_component.specs.Rules.{flawed, clash, unsound}
use Rattle.device_component.proofs.list.Loops.{ends}
use Rattle.device_bytes.specs.Layout.{device_in}
use Rattle.device_bytes.proofs.Fields.{full_in}
use Rattle.device_in_place.proofs.Walks.{walk_each}
use Rattle.device_in_place.proofs.sound.some_unsound.Goals as goal

pub returns : goal.returns
unfolding unsound
returns c =
    let a = c.args in
    let cs = (device_in a.b.now).components in
    let k = c.within_slots.result in
    let test = λ (i : ℕ). flawed a.n (component_at cs i) || any (clash (component_at cs i)) (drop (i + 1) (take a.count cs)) in
    any_from_yields_List test _ _ c.any.result c.any.ensures.ran (YieldsList-from_range 0 k k (cc) (omega arith)) (λ i x q k. search rules)
    ∙ walk_each cs blank_component a.count (flawed a.n) clash k 0 (omega (arith, ends a.count cs (full_in a.b.now) c.within_slots.ensures))
