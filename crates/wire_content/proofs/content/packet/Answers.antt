-- `content::packet` meets its contract: the head, and behind it the data that counts over zeros. Assumes nothing.
use mathlib.Core.Path.{ap, ◌∙◌}
use mathlib.Core.List.{◌++◌}
use Prim.Native.Nat.{◌+◌, ◌-◌}
use native.Mathlib.Omega.{arith}
use lib.ListN.{take, length-take, length-drop, length-append}
use Rattle.wire.proofs.words.Copies.{copied_same}
use Rattle.wire_content.specs.Content.{head_of, content_bytes}
use Rattle.wire_content.proofs.content.Laws.{laid}
use borrow.Author.Rules.{rules}
use Rattle.wire_content.proofs.content.packet.Goals as goal

pub returns : goal.returns
unfolding content_bytes
returns c =
    let u = c.used-n in
    let v = c.args.c in
    let h = c.copy_from_slice.ensures.after ∙ c.head.ensures in
    let k = copied_same _ _ (take u.result v.«data») c.copy.ensures in
    let e = laid v.length (8 + u.result - 8) u.result v.«data» _ (omega (arith, u.ensures.count)) u.ensures.count (search rules) (k (simp (length-take, length-drop, length-append) (omega (arith, u.ensures.most)))) in
    rw h (ap (λ t. head_of v.flags v.length v.sequence v.address ++ t) e)
