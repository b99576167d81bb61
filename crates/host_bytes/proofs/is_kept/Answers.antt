-- `is_kept`: the number of the stage, and both words. Assumes nothing.
use Rattle.host_bytes.proofs.Contents.{kept_test}
use Rattle.host_bytes.proofs.is_kept.Goals.{After-word32_at-block}
use Rattle.host_bytes.proofs.is_kept.Goals as goal

pub returns : goal.returns
returns c =
    let w = (goal.at.returns c).After-word32_at-block in
    let s = w in
    let a = s.args in
    rw (w.word32_at-block.ensures, w.word32_at-entry.ensures, s.stage_words-s.ensures) (kept_test a.q.now a.stage)
