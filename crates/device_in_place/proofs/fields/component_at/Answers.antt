-- `fields::component_at` meets its contract: the component in the slot is the one that is read there. Assumes nothing.
use mathlib.Core.Path.{◌∙◌}
use Rattle.device_bytes.proofs.Record.{component_in_slot}
use Rattle.device_in_place.proofs.fields.component_at.Goals as goal

pub returns : goal.returns
returns c = let s = c in c.component_of.ensures ∙ component_in_slot s.args.b.now s.args.slot s.requires
