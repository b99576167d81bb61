-- `listed_at` meets its contract: the bytes from its place on. Assumes nothing.
use Rattle.std.proofs.Common.{ap, ◌∙◌}
use Rattle.device_component_bytes.specs.Layout.{listed_in}
use Rattle.device_bytes.specs.Layout.{listed_start}
use Rattle.device_bytes.proofs.Record.{rest_least}
use Rattle.device_bytes.proofs.listed_at.Goals as goal

pub returns : goal.returns
returns c =
    let b = c.args.b.now in c.listed_in.ensures ∙ ap listed_in (rest_least (listed_start c.args.place) _ b c.min-at.ensures)
