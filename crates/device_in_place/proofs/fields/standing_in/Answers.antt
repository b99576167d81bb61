-- `fields::standing_in` meets its contract: where the id is found, and the component in that slot. Assumes nothing.
use Rattle.device_bytes.proofs.Fields.{count_read}
use Rattle.device_in_place.proofs.fields.standing_in.Goals as goal

pub returns : goal.returns
returns c =
    rw (count_read c.args.b.now, c.component_at-component.ensures, c.unwrap_or.ensures, c.find_in-at.ensures, c.count_in.ensures)
