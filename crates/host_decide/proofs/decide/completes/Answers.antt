-- `decide::completes`: the mask has the bit. Assumes nothing.
use Rattle.host_decide.proofs.decide.completes.Goals as goal

pub returns : goal.returns
returns c = rw c.with_bit.ensures
