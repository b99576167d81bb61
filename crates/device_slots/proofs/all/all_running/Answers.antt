-- `all::all_running` meets its contract: each component is told. Assumes nothing.
use Rattle.std.proofs.Common.{rules}
use Rattle.device_component.specs.Record.{blank_component}
use Rattle.device_slots.specs.Slots.{running_of}
use Rattle.device_slots.proofs.Maps.{mapped}
use Rattle.device_slots.proofs.all.all_running.Goals as goal

pub returns : goal.returns
returns c =
    let h = running_of c.args.platform in
    mapped h blank_component (h blank_component) c.args.components _ _ _ (λ x y q k. search rules) _ (search rules) c.map.ensures.items
