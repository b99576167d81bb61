-- `content::fields` meets its contract: the head's fields, and the data that counts over zeros. Assumes nothing.
use Prim.Native.Nat.{◌+◌, ◌-◌}
use native.Mathlib.Omega.{arith}
use lib.ListN.{get_or, drop, take, replicate, length-take, length-drop, length-replicate}
use Rattle.wire.proofs.words.Copies.{copied_same}
use Rattle.wire_content.specs.Content.{fields_in}
use Rattle.wire_content.proofs.content.Laws.{laid}
use Rattle.wire_content.proofs.content.fields.Goals as goal

pub returns : goal.returns
unfolding fields_in
returns c =
    let u = c.used-n in
    let p = c.args.p.now in
    let k = copied_same _ (take u.result (replicate 52 0)) (take (8 + u.result - 8) (drop 8 p)) c.copy.ensures in
    let e = laid (get_or p 1 0) u.result (8 + u.result - 8) (drop 8 p) _ u.ensures.count (omega (arith, u.ensures.count)) (simp length-drop (omega arith)) (k (simp (length-take, length-drop, length-replicate) (omega (arith, u.ensures.most)))) in
    simp (c.new.ensures, c.word32.ensures, c.word16.ensures, e)
