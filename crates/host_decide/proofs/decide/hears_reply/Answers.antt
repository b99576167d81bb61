-- `decide::hears_reply`: whether it repeats the one just taken, then the sequence, then the status. Assumes nothing.
use borrow.Author.Tests.{eq-eqb, ne_eqb}
use mathlib.Core.Path.{sym}
use Rattle.host_decide.proofs.decide.hears_reply.Goals as goal

pub returns-then-repeats_taken : goal.returns-then-repeats_taken
returns-then-repeats_taken c = rw (sym c.repeats_taken.ensures, c.if-repeats_taken.true) c.pass_over.ensures

pub returns-then-r-sequence : goal.returns-then-r-sequence
returns-then-r-sequence c =
    let d = c in
    rw (sym d.repeats_taken.ensures, d.if-repeats_taken.false, ne_eqb _ _ (rw c.sequence.ensures at c.if-r-sequence.true))
    c.ends.ensures

pub returns-then-r-eq-SUCCESS : goal.returns-then-r-eq-SUCCESS
returns-then-r-eq-SUCCESS c =
    let s = c in
    rw (sym s.repeats_taken.ensures, s.if-repeats_taken.false, eq-eqb _ _ (rw s.sequence.ensures at c.if-r-sequence.false), eq-eqb _ _ c.if-r-eq-SUCCESS.true)
    c.goes_on.ensures

pub returns : goal.returns
returns c =
    let s = c in
    rw (sym s.repeats_taken.ensures, s.if-repeats_taken.false, eq-eqb _ _ (rw s.sequence.ensures at c.if-r-sequence.false), ne_eqb _ _ c.if-r-eq-SUCCESS.false)
    c.ends-2.ensures
