-- `fields::find_in` meets its contract: the first slot in use whose component has this id. Assumes nothing.
use Rattle.std.proofs.Common.{◌≡◌, ℕ, ◌∙◌, eqb, refl, arith, rules, tests}
use Rattle.std.proofs.lemmas.Iterator.{YieldsList-from_range}
use Rattle.std.proofs.lemmas.Iterator.Search.{find_from_yields_List}
use Rattle.device_component.specs.Lists.{component_at, find}
use Rattle.device_component.specs.Record.{blank_component}
use Rattle.device_component.specs.declared.record.Component.{Component}
use Rattle.device_component.proofs.list.Loops.{ends}
use Rattle.device_bytes.specs.Layout.{device_in}
use Rattle.device_bytes.proofs.Fields.{full_in}
use Rattle.device_in_place.proofs.Walks.{as_found, walk_find}
use Rattle.device_in_place.proofs.fields.find_in.Goals as goal

pub returns : goal.returns
unfolding find
returns c =
    let a = c.args in
    let cs = (device_in a.b.now).components in
    let k = c.within_slots.result in
    let test = λ (i : ℕ). eqb a.id (component_at cs i).fixed.id in
    let found = find_from_yields_List test _ _ c.find.result c.find.ensures.ran (YieldsList-from_range 0 k k (cc) (omega arith)) (λ i x q k. search rules) in
    as_found c.find.result ∙ found ∙ walk_find cs blank_component a.count (λ (x : Component). eqb a.id x.fixed.id) k 0 (omega (arith, ends a.count cs (full_in a.b.now) c.within_slots.ensures))
