-- `contents::records_in`: what the walk counts, 0 where it breaks. Assumes nothing.
use mathlib.Core.Path.{◌≡◌, sym, ap, ◌∙◌}
use native.Mathlib.Omega.{arith}
use lib.ListN.{length, take, drop}
use Rattle.bundle_records.specs.Parse.{records_of, blocks_of}
use Rattle.bundle_layout.specs.Layout.{bundle_limit}
use Rattle.bundle.proofs.contents.Laws.{tallied, counted, counted_is, counted_fits}
use Rattle.bundle.proofs.contents.records_in.Goals.{After-tally}
use Rattle.bundle.proofs.contents.records_in.Goals as goal

-- the answer of the walk is the number of records
walked : (c : After-tally) → counted c.tally.result ≡ length (blocks_of (records_of (take c.args.size (drop c.args.offset c.args.b.now))))
walked c =
    let a = c.args in
    ap counted (c.tally.ensures ∙ tallied a.b.now a.offset a.size c.requires.0) ∙ counted_is (records_of (take a.size (drop a.offset a.b.now)))

pub overflow_cast-result : goal.overflow_cast-result
overflow_cast-result c =
    let s = c in
    let k = counted_fits s.args.b.now s.args.offset s.args.size bundle_limit s.requires.0 s.requires.1 in
    let w : c.in-Some.n ≡ length (blocks_of (records_of (take s.args.size (drop s.args.offset s.args.b.now)))) = ap counted (sym c.in-Some.is) ∙ walked (goal.at.overflow_cast-result c).After-tally in omega arith

pub returns-in-None : goal.returns-in-None
returns-in-None c = ap counted (sym c.in-None.is) ∙ walked (goal.at.returns-in-None c).After-tally

pub returns-in-Some : goal.returns-in-Some
returns-in-Some c = ap counted (sym c.in-Some.is) ∙ walked (goal.at.returns-in-Some c).After-tally
