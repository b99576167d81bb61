-- `table::is_used`: the entries that are left give the answer for all. Assumes nothing.
use mathlib.Core.Path.{refl, sym, ◌∙◌}
use native.Mathlib.Omega.{arith}
use borrow.Author.Tests.{eq-eqb, ne_eqb}
use lib.Dec.{eqb}
use Rattle.bundle_layout.specs.Layout.{id_in}
use Rattle.bundle_layout.proofs.Entries.{some_here, some_on, some_end}
use Rattle.bundle_layout.proofs.table.is_used.Goals as goal

pub loop-i-init : goal.loop-i-init
loop-i-init c = refl

pub returns-then-id-id_at : goal.returns-then-id-id_at
returns-then-id-id_at c =
    let l = c.loop-i in
    let a = c.args in
    some_here a.n a.table.now (λ e. eqb a.id (id_in e)) l.i (omega arith) (eq-eqb _ _ (c.if-id-id_at.true ∙ c.id_at.ensures)) ∙ l.invariant

pub loop-i-preserved : goal.loop-i-preserved
loop-i-preserved c =
    let l = c.loop-i in
    let a = c.args in
    some_on a.n a.table.now (λ e. eqb a.id (id_in e)) l.i (omega arith) (ne_eqb _ _ (λ z. c.if-id-id_at.false (z ∙ sym c.id_at.ensures))) ∙ l.invariant

pub returns : goal.returns
returns c =
    let l = c.loop-i in
    let a = c.args in
    some_end a.n a.table.now (λ e. eqb a.id (id_in e)) l.i (omega arith) ∙ l.invariant
