-- `block::erase_on_first` meets its contract: erased, or as it was. Assumes nothing.
use Rattle.device_receiving.proofs.block.erase_on_first.Goals as goal

pub returns-then-first : goal.returns-then-first
returns-then-first c = rw c.if-first.true c.erase.ensures
