-- `list::first_breaking`: the entries that are left give the answer for all. Assumes nothing.
use mathlib.Core.Path.{refl, sym, ◌∙◌}
use native.Mathlib.Omega.{arith}
use Rattle.bundle_layout.proofs.Places.{placed_some, placed_none}
use Rattle.bundle_layout.specs.Layout.{entries_in}
use Rattle.bundle.proofs.Entries.{first_here, first_on, first_end}
use Rattle.bundle_given.specs.Given.{entries_of}
use Rattle.bundle_given.specs.Entry.{breaks}
use Rattle.bundle_writer.specs.Rows.{first_breaking}
use Rattle.bundle_writer.proofs.list.Laws.{headed, entry_headed}
use Rattle.bundle_writer.proofs.list.first_breaking.Goals as goal

pub loop-i-init : goal.loop-i-init
unfolding first_breaking entries_in entries_of
loop-i-init c = refl

pub returns-then-breaks_rule : goal.returns-then-breaks_rule
returns-then-breaks_rule c =
    let l = c in
    let a = l.args in
    placed_some l.loop-i.i _
    (first_here (headed a.list.now) (breaks a.rule a.images.now) l.loop-i.i (omega arith)
    (rw (entry_headed, ← c.entry_of-e.ensures.0) (sym c.breaks_rule.ensures ∙ c.if-breaks_rule.true))
    ∙ l.loop-i.invariant)

pub loop-i-preserved : goal.loop-i-preserved
loop-i-preserved c =
    let l = c in
    let a = l.args in
    first_on (headed a.list.now) (breaks a.rule a.images.now) l.loop-i.i (omega arith)
    (rw (entry_headed, ← c.entry_of-e.ensures.0) (sym c.breaks_rule.ensures ∙ c.if-breaks_rule.false))
    ∙ l.loop-i.invariant

pub returns : goal.returns
returns c =
    let l = c in
    let a = l.args in
    placed_none _ (first_end (headed a.list.now) (breaks a.rule a.images.now) l.loop-i.i (omega arith) ∙ l.loop-i.invariant)
