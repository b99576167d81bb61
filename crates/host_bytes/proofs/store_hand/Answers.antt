-- `store_hand`: the words of the block, and the bytes of the cursor, at the end. Assumes nothing.
use mathlib.Core.Path.{refl}
use Rattle.host_bytes.proofs.Contents.{hand_stored}
use borrow.Author.Tests.{eq-eqb, ne_eqb}
use Rattle.host_bytes.proofs.store_hand.Goals.{After-bytes64-behind, After-copy, After-put_words}
use Rattle.host_bytes.proofs.store_hand.Goals as goal

pub returns-then-q-eq-CONTENTS_SIZE : goal.returns-then-q-eq-CONTENTS_SIZE
returns-then-q-eq-CONTENTS_SIZE c =
    let x = (goal.at.returns-then-q-eq-CONTENTS_SIZE c).After-copy in
    let b = (goal.at.returns-then-q-eq-CONTENTS_SIZE c).After-bytes64-behind in
    let p = (goal.at.returns-then-q-eq-CONTENTS_SIZE c).After-put_words in
    let t = p in
    let a = t.args in
    rw (eq-eqb _ _ t.if-q-eq-CONTENTS_SIZE.true) (hand_stored a.q.now p.put_words.new.out b.bytes64-behind.result x.copy.new.target a.entry a.block a.cursor _ refl t.if-q-eq-CONTENTS_SIZE.true p.put_words.ensures b.bytes64-behind.ensures x.copy.ensures)

pub returns-else-q-eq-CONTENTS_SIZE : goal.returns-else-q-eq-CONTENTS_SIZE
returns-else-q-eq-CONTENTS_SIZE c = rw (ne_eqb _ _ c.if-q-eq-CONTENTS_SIZE.false)
