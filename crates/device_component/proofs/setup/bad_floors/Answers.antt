-- `setup::bad_floors` meets its contract: S5 over the list. The components that are walked are all of it, by `take_all` where they are a part of that list. Assumes nothing.
use Rattle.std.proofs.Common.{◌∙◌, rules, tests}
use Rattle.std.proofs.lemmas.List.{take_all}
use Rattle.std.proofs.lemmas.Iterator.{YieldsList-from_slice}
use Rattle.std.proofs.lemmas.Iterator.Search.{any_from_yields_List}
use Rattle.device_component.specs.declared.record.Component.{Component}
use Rattle.device_component.specs.Setup.{bad_floor}
use Rattle.device_component.proofs.list.Searches.{any_listed}
use Rattle.device_component.proofs.setup.bad_floors.Goals as goal

pub returns : goal.returns
returns c =
    let listed = c.args.listed.now in
    let test = λ (x : Component). bad_floor x.fixed.floor in
    let a = any_from_yields_List test _ _ c.any.result c.any.ensures.ran (YieldsList-from_slice listed (rw c.iter.ensures.rest (search (rules, take_all)))) (λ x b q k. search (rules, tests)) in
    a ∙ any_listed test listed
