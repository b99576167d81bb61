-- `content::on_block` meets its contract: the end of the image, or one sequence on. Assumes nothing.
use Rattle.device_receiving.specs.Receive.{on_block}
use Rattle.wire.proofs.Chain.{by}
use Rattle.device_receiving.proofs.content.on_block.Goals as goal

pub returns-then-is_last : goal.returns-then-is_last
unfolding on_block
returns-then-is_last c =
    let k = c in
    let h = k.requires in
    rw (
      rw h at (by k.is_last.ensures k.if-is_last.true),
      c.block_reply-effect.ensures,
      c.idle-idle.ensures,
      c.finish-finished.ensures,
      h,
    )

pub returns-else-is_last : goal.returns-else-is_last
unfolding on_block
returns-else-is_last c =
    let k = c in
    let h = k.requires in
    rw (
      rw h at (by k.is_last.ensures k.if-is_last.false),
      c.block_reply-effect-else-is_last.ensures,
      c.goes_on-on.ensures,
      h,
    )
