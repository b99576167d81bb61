-- `words::copy` meets its contract. After i turns the first i bytes are the source's. Assumes nothing.
use mathlib.Core.Path.{◌≡◌, refl, sym, ap, ◌∙◌}
use native.Mathlib.Omega.{arith}
use borrow.Author.Rules.{rules}
use borrow.Author.Tests.{ne_eqb}
use lib.ListN.{length, set, get_or, length-set}
use Rattle.wire.proofs.words.Copies.{copied, copy_more, copy_same}
use Rattle.wire.proofs.words.copy.Goals as goal

pub loop-i-init : goal.loop-i-init
loop-i-init c = (refl, refl, search rules)

pub loop-i-preserved : goal.loop-i-preserved
loop-i-preserved c =
    let l = c.loop-i in
    let a = c.args in (
      ap (λ d. set d l.i (get_or a.source.now l.i 0)) l.invariant.0 ∙ copy_more l.i a.source.now a.target.now (omega arith) (omega arith),
      simp length-set l.invariant.1,
      omega arith,
    )

pub shape_of-target : goal.shape_of-target
shape_of-target c = c.loop-i.invariant.1

pub returns-after-loop-i : goal.returns-after-loop-i
returns-after-loop-i c =
    let a = c.args in
    let e : length a.target.now ≡ length a.source.now = c.if-target-source.true in
    copied a.source.now a.target.now _ c.loop-i.i c.loop-i.invariant.0 (omega arith) e ∙ sym (copy_same a.target.now a.source.now e)

pub returns-else-target-source : goal.returns-else-target-source
returns-else-target-source c = rw (ne_eqb _ _ c.if-target-source.false)
