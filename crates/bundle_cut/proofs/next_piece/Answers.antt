-- `next_piece` meets its contract. Assumes nothing.
use native.Mathlib.Omega.{arith}
use borrow.Author.Tests.{le-leb, lt-leb}
use lib.ListN.{length}
use Rattle.bundle_cut.specs.Cut.{run_least, piece_at}
use Rattle.bundle_cut.proofs.Runs.{run_inside}
use Rattle.bundle_cut.proofs.next_piece.Goals as goal

pub returns-then-d-at : goal.returns-then-d-at
unfolding piece_at
returns-then-d-at c = rw (le-leb _ _ c.if-d-at.true)

pub overflow_add-result : goal.overflow_add-result
overflow_add-result c =
    let a = c.args in
    let e = c.run_at-run.ensures in
    let i = run_inside a.d.now a.at (omega arith) in omega arith

pub returns-then-run-ge-RUN_LEAST : goal.returns-then-run-ge-RUN_LEAST
unfolding piece_at
returns-then-run-ge-RUN_LEAST c =
    let a = c.args in
    let e = c.run_at-run.ensures in
    rw (lt-leb (length a.d.now) a.at (omega arith), ← e, le-leb run_least c.run_at-run.result c.if-run-ge-RUN_LEAST.true)

pub returns : goal.returns
unfolding piece_at
returns c =
    let a = c.args in
    let e = c.run_at-run.ensures in
    rw (lt-leb (length a.d.now) a.at (omega arith), ← e, lt-leb run_least c.run_at-run.result (omega arith), c.record_end.ensures)
