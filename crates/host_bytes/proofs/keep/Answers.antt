-- `keep`: by the number of the stage. Assumes nothing.
use mathlib.Core.Path.{◌∙◌}
use Rattle.host_bytes.proofs.Contents.{hand_kept, none_kept}
use Rattle.host_bytes.proofs.keep.Goals.{After-store_hand, Then-s-eq-SENDING}
use Rattle.host_bytes.proofs.keep.Goals as goal

pub returns-then-s-eq-SENDING : goal.returns-then-s-eq-SENDING
returns-then-s-eq-SENDING c =
    let k = (goal.at.returns-then-s-eq-SENDING c).After-store_hand in
    let t = (goal.at.returns-then-s-eq-SENDING c).Then-s-eq-SENDING in
    let w = t in
    let a = w.args in k.store_hand.ensures ∙ hand_kept a.q.now a.stage w.stage_words-s.result a.cursor w.stage_words-s.ensures t.if-s-eq-SENDING.true

pub returns-else-s-eq-SENDING : goal.returns-else-s-eq-SENDING
returns-else-s-eq-SENDING c =
    let w = c in
    let a = w.args in none_kept a.q.now a.stage w.stage_words-s.result a.cursor w.stage_words-s.ensures c.if-s-eq-SENDING.false
