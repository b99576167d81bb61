-- `walk::tally`: what was counted and what is left make the whole. Assumes nothing.
use mathlib.Core.Path.{refl, ◌∙◌}
use native.Mathlib.Omega.{arith}
use borrow.Author.Rules.{rules}
use Rattle.bundle_records.specs.declared.Next.TheVariants.{Record}
use Rattle.bundle_records.specs.Walk.{tally_of}
use Rattle.bundle_records.proofs.walk.Laws.{Step, step}
use Rattle.bundle_records.proofs.walk.tally.Goals.{After-next_record, In-Record}
use Rattle.bundle_records.proofs.walk.tally.Goals as goal

-- what the step of this turn says
stepped : (c : After-next_record) → Step c.args.bytes.now c.loop-next.i c.args.end c.loop-next.n c.next_record.result
stepped c = rw c.next_record.ensures (step _ _ _ _)

-- and where it is a record
gone : (c : In-Record) → Step c.args.bytes.now c.loop-next.i c.args.end c.loop-next.n (Record c.in-Record.address c.in-Record.start c.in-Record.size c.in-Record.next)
gone c = rw c.in-Record.is at (stepped (goal.at.In-Record c).After-next_record)

pub loop-next-init : goal.loop-next-init
loop-next-init c = (refl, search rules)

pub returns-in-End : goal.returns-in-End
unfolding tally_of
returns-in-End c = (rw c.in-End.is at (stepped (goal.at.returns-in-End c).After-next_record)) ∙ c.loop-next.invariant.0

pub returns-in-Bad : goal.returns-in-Bad
unfolding tally_of
returns-in-Bad c = (rw c.in-Bad.is at (stepped (goal.at.returns-in-Bad c).After-next_record)) ∙ c.loop-next.invariant.0

pub overflow_add-n : goal.overflow_add-n
overflow_add-n c = let t = gone (goal.at.overflow_add-n c).In-Record in omega arith

pub loop-next-smaller : goal.loop-next-smaller
loop-next-smaller c = let t = gone (goal.at.loop-next-smaller c).In-Record in omega arith

pub loop-next-preserved : goal.loop-next-preserved
loop-next-preserved c = let t = gone (goal.at.loop-next-preserved c).In-Record in (t.0 ∙ c.loop-next.invariant.0, omega arith)
