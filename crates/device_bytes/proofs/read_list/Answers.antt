-- `read_list` meets its contract: at each place the component that is read there. Assumes nothing.
use Rattle.std.proofs.Common.{◌*◌, drop, refl, rules}
use Rattle.wire.specs.Codes.{component_limit}
use Rattle.wire.proofs.Pieces.{read_sized, read_at}
use Rattle.device_component_bytes.specs.Layout.{listed_size, listed_in}
use Rattle.device_bytes.specs.Layout.{list_in}
use Rattle.device_bytes.proofs.Made.{made}
use Rattle.device_bytes.proofs.read_list.Goals as goal

pub returns : goal.returns
unfolding list_in
returns c =
    let b = c.args.b.now in
    made (λ i. listed_in (drop (i * listed_size) b)) (listed_in b) _ _ _ (λ i y q k. search rules) component_limit (list_in component_limit b)
    (read_sized listed_size listed_in list_in (λ q. refl) (λ n q. refl) component_limit b)
    (λ i l. read_at listed_size listed_in list_in (λ q. refl) (λ n q. refl) component_limit i b (listed_in b) l) c.from_fn.ensures.items
