-- `head` meets its contract: the fields' bytes, in their order. Assumes nothing.
use Rattle.device_bytes.proofs.Record.{head_of}
use Rattle.device_bytes.proofs.head.Goals as goal

pub returns : goal.returns
returns c = head_of c.args.d _ _ c.bytes16-p.ensures c.bytes32-l.ensures
