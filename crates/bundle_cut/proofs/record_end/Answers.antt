-- `record_end` meets its contract: no run of 52 or more begins before the place that was come to. Assumes nothing.
use mathlib.Core.Path.{◌≡◌, sym, ap}
use mathlib.Core.Logic.{inr}
use Prim.Native.Nat.{◌+◌, ◌-◌, ◌≤◌}
use native.Mathlib.Omega.{arith}
use lib.ListN.{length}
use Rattle.bundle_records.specs.Record.{data_limit}
use Rattle.bundle_cut.proofs.Runs.{run_inside}
use Rattle.bundle_cut.proofs.Steps.{short_on, stops_room, reach_is}
use Rattle.bundle_cut.proofs.record_end.Goals.{Else-run-ge-RUN_LEAST}
use Rattle.bundle_cut.proofs.record_end.Goals as goal

-- the run lies in the bytes
inside : (c : Else-run-ge-RUN_LEAST)
    → c.loop-x.x + c.run_at-run.result ≤ length c.args.d.now
inside c =
    let l = c.loop-x in
    let a = c.args in
    let m = c.least.ensures in
    rw c.run_at-run.ensures (run_inside a.d.now l.x (omega arith))

pub loop-x-init : goal.loop-x-init
loop-x-init c = ((λ y a b. omega arith), omega arith)

pub returns-then-run-ge-RUN_LEAST : goal.returns-then-run-ge-RUN_LEAST
returns-then-run-ge-RUN_LEAST c =
    let l = c.loop-x in
    let a = c.args in
    let m = c.least.ensures in
    let e : a.at + (l.x - a.at) ≡ l.x = omega arith in
    let r = reach_is data_limit (l.x - a.at) a.d.now a.at (omega arith) (omega arith) (rw e l.invariant.0)
    (inr (inr (rw (e, ← c.run_at-run.ensures) c.if-run-ge-RUN_LEAST.true))) in
    omega arith

pub overflow_add-x : goal.overflow_add-x
overflow_add-x c = let i = inside c in omega arith

pub overflow_add-x-in-loop-x : goal.overflow_add-x-in-loop-x
overflow_add-x-in-loop-x c = let i = inside c in omega arith

pub loop-x-smaller : goal.loop-x-smaller
loop-x-smaller c = let i = inside c in omega arith

pub loop-x-preserved : goal.loop-x-preserved
loop-x-preserved c =
    let l = c.loop-x in
    let a = c.args in
    let i = inside c in (
      rw c.run_at-run.ensures (short_on a.d.now a.at l.x (omega arith) (rw (← c.run_at-run.ensures) (omega arith)) l.invariant.0),
      omega arith,
    )

pub returns : goal.returns
returns c =
    let l = c.loop-x in
    let a = c.args in
    let m = c.least.result in
    let e = c.least.ensures in
    sym (ap (λ k. a.at + k) (reach_is data_limit m a.d.now a.at (omega arith) (omega arith) (λ y p q. l.invariant.0 y p (omega arith)) (stops_room data_limit m a.d.now a.at e)))
