-- `components_in` meets its contract: in each slot the component that is read there. Assumes nothing.
use Rattle.std.proofs.Common.{sym, drop, rules}
use Rattle.wire.specs.Codes.{component_limit}
use Rattle.device_component.specs.Record.{blank_component}
use Rattle.device_bytes.specs.Layout.{components_start, component_of, device_in, components_in}
use Rattle.device_bytes.proofs.Made.{made}
use Rattle.device_bytes.proofs.Record.{components_full, component_in_slot}
use Rattle.device_bytes.proofs.components_in.Goals as goal

pub returns : goal.returns
unfolding device_in
returns c =
    let b = c.args.b.now in
    let q = drop components_start b in
    made (λ i. component_of i b) blank_component _ _ _ (λ i y q k. search rules) component_limit (components_in component_limit q) (components_full q)
    (λ i l. sym (component_in_slot b i c.requires)) c.from_fn.ensures.items
