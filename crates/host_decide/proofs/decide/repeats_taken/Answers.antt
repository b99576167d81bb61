-- `decide::repeats_taken`: no block stands before block 0; else the tests as they are. Assumes nothing.
use borrow.Author.Tests.{le-leb}
use native.Mathlib.Omega.{arith}
use Rattle.host_decide.proofs.decide.repeats_taken.Goals as goal

pub returns-then-block-eq0 : goal.returns-then-block-eq0
returns-then-block-eq0 c = rw c.if-block-eq0.true

pub returns : goal.returns
returns c =
    let d = c in
    rw (le-leb 1 d.args.a.place.block (omega (arith, d.if-block-eq0.false)), c.sequence.ensures)
