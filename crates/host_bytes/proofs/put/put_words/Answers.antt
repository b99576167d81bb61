-- `put::put_words`: after i turns the first i words are laid. Assumes nothing.
use Rattle.host_bytes.proofs.Words.{none_laid, word_laid, all_laid}
use Rattle.host_bytes.proofs.put.put_words.Goals.{After-bytes32-b, After-copy, In-loop-i}
use Rattle.host_bytes.proofs.put.put_words.Goals as goal

pub loop-i-init : goal.loop-i-init
loop-i-init c = let a = c.args in none_laid a.at a.values.now a.out.now

pub loop-i-preserved : goal.loop-i-preserved
loop-i-preserved c =
    let x = (goal.at.loop-i-preserved c).After-copy in
    let b = (goal.at.loop-i-preserved c).After-bytes32-b in
    let t = (goal.at.loop-i-preserved c).In-loop-i in
    let l = t.loop-i in
    let s = t in
    let a = s.args in
    word_laid a.out.now l.out a.values.now b.bytes32-b.result x.copy.new.target a.at l.i t.loop-i-test.true s.requires l.invariant.2 b.bytes32-b.ensures x.copy.ensures

pub shape_of-out : goal.shape_of-out
shape_of-out c = c.loop-i.invariant.1

pub returns : goal.returns
returns c =
    let l = c.loop-i in
    let a = c.args in all_laid a.out.now l.out a.values.now a.at l.i c.loop-i-test.false l.invariant.2
