-- `body::body_length` meets its contract: what was counted and what is left make the whole. Assumes nothing.
use mathlib.Core.Path.{◌≡◌, sym, ap}
use native.Mathlib.Omega.{arith}
use lib.ListN.{length, take, length-append}
use lib.Seq.{length-take-le}
use Rattle.bundle_cut.specs.declared.Piece.TheVariants.{Gap, Data}
use Rattle.bundle_cut.specs.Cut.{crc_place, before_crc}
use Rattle.bundle_writer.proofs.body.Laws.{left, Step, step, record_length, left_data, crc_bytes, body_is}
use Rattle.bundle_writer.proofs.body.body_length.Goals.{After-crc_place-crc, After-next_piece-p, In-Data, In-Gap}
use Rattle.bundle_writer.proofs.body.body_length.Goals as goal

-- what the step of this turn says
stepped : (c : After-next_piece-p)
    → Step (take c.crc_place-crc.result c.args.m.now) c.loop-to.at c.next_piece-p.result
stepped c = rw c.next_piece-p.ensures (step _ _)

-- the bytes before the CRC are as many as its place says
placed : (c : After-crc_place-crc) → length (take c.crc_place-crc.result c.args.m.now) ≡ c.crc_place-crc.result
placed c = let e = c.crc_place-crc.ensures in length-take-le _ _ (omega arith)

-- and where it is a run that is left out, or a record
gone : (c : In-Gap)
    → Step (take c.crc_place-crc.result c.args.m.now)
    c.loop-to.at (Gap c.in-Gap.to)
gone c = rw c.in-Gap.is at (stepped (goal.at.In-Gap c).After-next_piece-p)

kept : (c : In-Data)
    → Step (take c.crc_place-crc.result c.args.m.now)
    c.loop-to.at (Data c.in-Data.to)
kept c = rw c.in-Data.is at (stepped (goal.at.In-Data c).After-next_piece-p)

pub loop-to-init : goal.loop-to-init
loop-to-init c =
    let m = c.args.m.now in
    let e = c.crc_place-crc.ensures in (
      rw (e, body_is m, length-append (left (before_crc m) 0) (crc_bytes m), record_length m (crc_place m) (length m) (omega arith)) (omega arith),
      omega arith,
      omega arith,
    )

pub slice_bounds-next_piece-end : goal.slice_bounds-next_piece-end
slice_bounds-next_piece-end c = sym (placed (goal.at.slice_bounds-next_piece-end c).After-crc_place-crc)

pub returns-in-End : goal.returns-in-End
returns-in-End c =
    let e = ap length (rw c.in-End.is at (stepped (goal.at.returns-in-End c).After-next_piece-p)) in
    omega arith

pub loop-to-smaller-in-Gap : goal.loop-to-smaller-in-Gap
loop-to-smaller-in-Gap c = let t = gone (goal.at.loop-to-smaller-in-Gap c).In-Gap in let l = placed (goal.at.loop-to-smaller-in-Gap c).After-crc_place-crc in omega arith

pub loop-to-preserved-in-Gap : goal.loop-to-preserved-in-Gap
loop-to-preserved-in-Gap c =
    let t = gone (goal.at.loop-to-preserved-in-Gap c).In-Gap in
    let l = placed (goal.at.loop-to-preserved-in-Gap c).After-crc_place-crc in
    let i = c.loop-to.invariant in
    (rw (← t.0) i.0, omega arith, omega arith)

pub overflow_sub-size-in-Data : goal.overflow_sub-size-in-Data
overflow_sub-size-in-Data c = let t = kept (goal.at.overflow_sub-size-in-Data c).In-Data in let l = placed (goal.at.overflow_sub-size-in-Data c).After-crc_place-crc in omega arith

pub overflow_add-size-in-Data : goal.overflow_add-size-in-Data
overflow_add-size-in-Data c = let t = kept (goal.at.overflow_add-size-in-Data c).In-Data in let l = placed (goal.at.overflow_add-size-in-Data c).After-crc_place-crc in omega arith

pub overflow_add-size-in-Data-2 : goal.overflow_add-size-in-Data-2
overflow_add-size-in-Data-2 c = let t = kept (goal.at.overflow_add-size-in-Data-2 c).In-Data in let l = placed (goal.at.overflow_add-size-in-Data-2 c).After-crc_place-crc in omega arith

pub loop-to-smaller : goal.loop-to-smaller
loop-to-smaller c = let t = kept (goal.at.loop-to-smaller c).In-Data in let l = placed (goal.at.loop-to-smaller c).After-crc_place-crc in omega arith

pub loop-to-preserved : goal.loop-to-preserved
loop-to-preserved c =
    let t = kept (goal.at.loop-to-preserved c).In-Data in
    let l = placed (goal.at.loop-to-preserved c).After-crc_place-crc in
    let e = left_data _ _ _ t in
    (omega arith, omega arith, omega arith)
