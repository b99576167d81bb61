-- `content::on_report` meets its contract: by the verdict. Assumes nothing.
use Rattle.wire.proofs.Chain.{by}
use Rattle.device_receiving.proofs.content.on_report.Goals as goal

pub returns-in-Answer : goal.returns-in-Answer
returns-in-Answer c =
    let h = c.read_head-c.ensures in
    let e = rw (c.is_copy-copy.ensures, h) at (by c.judge_content-verdict.ensures c.in-Answer.is) in
    (rw (e, c.block_reply-effect.ensures, h), rw e)

pub returns-in-Take : goal.returns-in-Take
returns-in-Take c =
    let e = rw (c.is_copy-copy.ensures, c.read_head-c.ensures) at (by c.judge_content-verdict.ensures c.in-Take.is) in
    (rw (e, c.on_block.ensures, c.write_block.ensures), rw e c.write_block.ensures)
