-- `setup::bad_ids` meets its contract: S3 over the list. Assumes nothing.
use Rattle.std.proofs.Common.{rules, tests}
use Rattle.std.proofs.lemmas.Iterator.{YieldsList-from_slice}
use Rattle.std.proofs.lemmas.Iterator.Search.{any_from_yields_List}
use Rattle.device_component.specs.declared.record.Component.{Component}
use Rattle.device_component.specs.Setup.{bad_id, bad_ids}
use Rattle.device_component.proofs.list.Searches.{any_listed}
use Rattle.device_component.proofs.setup.bad_ids.Goals as goal

pub returns : goal.returns
unfolding bad_ids
returns c =
    let listed = c.args.listed.now in
    let test = λ (x : Component). bad_id x.fixed.id in
    let a = any_from_yields_List test _ _ c.any.result c.any.ensures.ran (YieldsList-from_slice listed cc) (λ x b q k. search (rules, tests)) in
    rw (a, any_listed, c.some_two.ensures)
