-- `all::components_of` meets its contract: each of the list is made a component. Assumes nothing.
use Rattle.std.proofs.Common.{rules}
use Rattle.device_component.specs.Record.{blank_component, listed}
use Rattle.device_component.specs.declared.record.Listed.{Listed}
use Rattle.device_slots.proofs.Maps.{mapped}
use Rattle.device_slots.proofs.all.components_of.Goals as goal

pub returns : goal.returns
returns c =
    let none : Listed = record { fixed = blank_component.fixed; running = blank_component.running } in
    mapped listed none blank_component c.args.list _ _ _ (λ x y q k. search rules) _ (search rules) c.map.ensures.items
