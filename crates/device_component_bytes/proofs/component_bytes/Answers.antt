-- `component_bytes` meets its contract: what the list has of it, and what is staged. Assumes nothing.
use Rattle.device_component_bytes.proofs.Laws.{component_of_lem}
use Rattle.device_component_bytes.proofs.component_bytes.Goals as goal

pub returns : goal.returns
returns c = component_of_lem c.args.c _ _ c.listed_bytes-l.ensures c.staged_bytes-s.ensures
