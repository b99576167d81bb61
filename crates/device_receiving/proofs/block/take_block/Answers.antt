-- `block::take_block` meets its contract: the erase on first, and then the write. Assumes nothing.
use Rattle.std.proofs.Common.{◌≡◌, ◌-◌, ◌∙◌, arith}
use Rattle.device_receiving.specs.Content.{take_block}
use Rattle.device_receiving.proofs.block.Laws.{counts}
use Rattle.device_receiving.proofs.block.take_block.Goals as goal

pub returns : goal.returns
unfolding take_block
returns c =
    let n = c.least-n in
    let z : n.result - 0 ≡ n.result = omega arith in
    c.write.ensures ∙ rw (z, n.ensures, counts, c.erase_on_first.ensures, c.is_first.ensures)
