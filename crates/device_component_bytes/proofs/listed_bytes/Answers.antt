-- `listed_bytes` meets its contract: the fields' bytes, in their order. Assumes nothing.
use Rattle.device_component_bytes.proofs.Laws.{listed_of_lem}
use Rattle.device_component_bytes.proofs.listed_bytes.Goals.{After-bytes32-n}
use Rattle.device_component_bytes.proofs.listed_bytes.Goals as goal

pub returns : goal.returns
returns c =
    let words = (goal.at.returns c).After-bytes32-n in
    let base = rw words.number.ensures at words.bytes32-b.ensures in
    let version = words in
    listed_of_lem version.args.l _ _ _ _ version.bytes-v.ensures base words.bytes32-n.ensures c.bytes-f.ensures
