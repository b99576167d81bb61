-- `body::put_body` meets its contract: what was written and what is left make the whole. Assumes nothing.
use mathlib.Core.Path.{◌≡◌, sym, ap, ◌∙◌}
use Prim.Native.Nat.{◌+◌, ◌-◌, ◌≤◌, ◌<◌}
use native.Mathlib.Omega.{arith}
use lib.ListN.{length, length-take, length-drop}
use Rattle.bundle_records.specs.Record.{data_limit}
use Rattle.image.specs.Region.{put}
use Rattle.image.proofs.region.Within.{put_length}
use Rattle.bundle_cut.specs.declared.Piece.TheVariants.{End, Gap, Data}
use Rattle.bundle_cut.specs.Cut.{crc_place, before_crc, image_body}
use Rattle.bundle_writer.proofs.body.Laws.{Step, step, left_data, length_before, going, going_long, going_gap, going_data, gone}
use Rattle.bundle_writer.proofs.body.put_body.Goals.{After-next_piece-p, After-put_record, In-Data, In-End, In-Gap}
use Rattle.bundle_writer.proofs.body.put_body.Goals as goal

-- what the step of this turn says
stepped : (c : After-next_piece-p) → Step (before_crc c.args.m.now) c.loop-out.at c.next_piece-p.result
stepped c = rw (c.next_piece-p.ensures, c.loop-out.invariant.0) (step _ _)

-- the end of the image, a run that is left out, a record
ended : (c : In-End)
    → Step (before_crc c.args.m.now) c.loop-out.at End
ended c = rw c.in-End.is at (stepped (goal.at.In-End c).After-next_piece-p)

gap : (c : In-Gap)
    → Step (before_crc c.args.m.now) c.loop-out.at (Gap c.in-Gap.to)
gap c = rw c.in-Gap.is at (stepped (goal.at.In-Gap c).After-next_piece-p)

part : (c : In-Data)
    → Step (before_crc c.args.m.now) c.loop-out.at (Data c.in-Data.to)
part c = rw c.in-Data.is at (stepped (goal.at.In-Data c).After-next_piece-p)

-- the output has room for the CRC, and for a record
room_crc : (c : In-End) →
    let l = c.loop-out in
    let m = c.args.m.now in
    l.end + (5 + (length m - crc_place m)) ≤ length l.out
room_crc c =
    let l = c.loop-out in
    let a = c.args in
    let w = going_long a.out.now a.start a.m.now l.out l.at l.end l.invariant.1 in
    let g = l.invariant.1.begun in
    let n = l.invariant.1.long in omega arith

room : (c : In-Data) →
    let l = c.loop-out in
    let m = c.args.m.now in
    let to = c.in-Data.to in
    (l.at < to) × (to ≤ crc_place m) × (to ≤ l.at + data_limit) × (l.end + (5 + (to - l.at)) ≤ length l.out)
room c =
    let l = c.loop-out in
    let a = c.args in
    let w = going_long a.out.now a.start a.m.now l.out l.at l.end l.invariant.1 in
    let t = part c in
    let d = left_data _ _ _ t in
    let e = length_before a.m.now in
    let g = l.invariant.1.begun in
    let n = l.invariant.1.long in (omega arith, omega arith, omega arith, omega arith)

-- the whole
whole : (c : After-put_record) →
    let l = c.loop-out in
    let a = c.args in
    (c.put_record.new.out ≡ put a.start (image_body a.m.now) a.out.now)
    × (l.end + 5 + (length a.m.now - crc_place a.m.now) ≡ a.start + length (image_body a.m.now))
whole c =
    let l = c.loop-out in
    let a = c.args in
    let t = gone a.out.now a.start a.m.now l.out l.at l.end l.invariant.1 (omega arith) (ended (goal.at.After-put_record c).In-End) in
    ((rw l.invariant.0 at c.put_record.ensures) ∙ t.0, t.1)

pub loop-out-init : goal.loop-out-init
loop-out-init c = (c.crc_place-crc.ensures, going _ _ _ (omega arith))

pub slice_bounds-next_piece-end : goal.slice_bounds-next_piece-end
slice_bounds-next_piece-end c = rw c.loop-out.invariant.0 (sym (length_before c.args.m.now))

pub overflow_cast-crc : goal.overflow_cast-crc
overflow_cast-crc c = let e = c.loop-out.invariant.0 in omega arith

pub slice_bounds-put_record-count : goal.slice_bounds-put_record-count
slice_bounds-put_record-count c = let e = c.loop-out.invariant.0 in omega arith

pub put_record-requires : goal.put_record-requires
put_record-requires c =
    let r = room_crc (goal.at.put_record-requires c).In-End in
    let e = c.loop-out.invariant.0 in
    (simp (length-take, length-drop) (omega arith), simp (length-take, length-drop) (omega arith))

pub overflow_add-result : goal.overflow_add-result
overflow_add-result c = let r = room_crc (goal.at.overflow_add-result c).In-End in let e = c.loop-out.invariant.0 in omega arith

pub overflow_sub-result : goal.overflow_sub-result
overflow_sub-result c = let e = c.loop-out.invariant.0 in omega arith

pub overflow_add-result-in-End : goal.overflow_add-result-in-End
overflow_add-result-in-End c = let r = room_crc (goal.at.overflow_add-result-in-End c).In-End in let e = c.loop-out.invariant.0 in omega arith

pub shape_of-out-in-End : goal.shape_of-out-in-End
shape_of-out-in-End c =
    let a = c.args in
    ap length (whole (goal.at.shape_of-out-in-End c).After-put_record).0 ∙ put_length a.start (image_body a.m.now) a.out.now (omega arith)

pub returns-in-End : goal.returns-in-End
returns-in-End c = let w = whole (goal.at.returns-in-End c).After-put_record in (rw c.loop-out.invariant.0 w.1, w.0)

pub loop-out-smaller-in-Gap : goal.loop-out-smaller-in-Gap
loop-out-smaller-in-Gap c = let t = gap (goal.at.loop-out-smaller-in-Gap c).In-Gap in let e = length_before c.args.m.now in let i = c.loop-out.invariant.0 in omega arith

pub loop-out-preserved-in-Gap : goal.loop-out-preserved-in-Gap
loop-out-preserved-in-Gap c = (c.loop-out.invariant.0, going_gap _ _ _ _ _ _ c.loop-out.invariant.1 _ (gap (goal.at.loop-out-preserved-in-Gap c).In-Gap))

pub overflow_cast-at : goal.overflow_cast-at
overflow_cast-at c = let r = room (goal.at.overflow_cast-at c).In-Data in omega arith

pub slice_bounds-put_record-count-in-Data : goal.slice_bounds-put_record-count-in-Data
slice_bounds-put_record-count-in-Data c = let r = room (goal.at.slice_bounds-put_record-count-in-Data c).In-Data in omega arith

pub slice_bounds-put_record-start-in-Data : goal.slice_bounds-put_record-start-in-Data
slice_bounds-put_record-start-in-Data c = let r = room (goal.at.slice_bounds-put_record-start-in-Data c).In-Data in omega arith

pub slice_bounds-put_record-end-in-Data : goal.slice_bounds-put_record-end-in-Data
slice_bounds-put_record-end-in-Data c = let r = room (goal.at.slice_bounds-put_record-end-in-Data c).In-Data in omega arith

pub put_record-requires-in-Data : goal.put_record-requires-in-Data
put_record-requires-in-Data c =
    let r = room (goal.at.put_record-requires-in-Data c).In-Data in
    (simp (length-take, length-drop) (omega arith), simp (length-take, length-drop) (omega arith))

pub overflow_sub-end : goal.overflow_sub-end
overflow_sub-end c = let r = room (goal.at.overflow_sub-end c).In-Data in omega arith

pub overflow_add-end : goal.overflow_add-end
overflow_add-end c = let r = room (goal.at.overflow_add-end c).In-Data in omega arith

pub overflow_add-end-in-Data : goal.overflow_add-end-in-Data
overflow_add-end-in-Data c = let r = room (goal.at.overflow_add-end-in-Data c).In-Data in omega arith

pub loop-out-smaller : goal.loop-out-smaller
loop-out-smaller c = let r = room (goal.at.loop-out-smaller c).In-Data in let e = c.loop-out.invariant.0 in omega arith

pub loop-out-preserved : goal.loop-out-preserved
loop-out-preserved c =
    let l = c.loop-out in
    let a = c.args in (
      l.invariant.0,
      rw c.put_record-in-Data.ensures (going_data a.out.now a.start a.m.now l.out l.at l.end l.invariant.1 (omega arith) c.in-Data.to (part (goal.at.loop-out-preserved c).In-Data)),
    )
