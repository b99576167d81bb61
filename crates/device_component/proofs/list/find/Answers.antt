-- `list::find` meets its contract: the first with this id. Assumes nothing.
use Rattle.std.proofs.Common.{◌≡◌, eqb, take, ◌∙◌, rules, tests}
use Rattle.std.proofs.lemmas.Iterator.{YieldsList-from_slice}
use Rattle.std.proofs.lemmas.Iterator.Search.{position_from_yields_List}
use Rattle.device_component.specs.declared.record.Component.{Component}
use Rattle.device_component.specs.Lists.{find}
use Rattle.device_component.proofs.list.Searches.{first_at}
use Rattle.device_component.proofs.list.find.Goals as goal

pub returns : goal.returns
unfolding find
returns c =
    let all = take c.args.count c.args.components in
    let test = λ (x : Component). eqb c.args.id x.fixed.id in
    let at = position_from_yields_List test _ _ c.position.result c.position.ensures.ran (YieldsList-from_slice all cc) (λ x b q k. search (rules, tests)) in
    let same : c.map.result ≡ c.position.result = search rules in
    same ∙ at ∙ first_at test all
