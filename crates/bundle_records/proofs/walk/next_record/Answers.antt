-- `walk::next_record`: what stands at the start of the part, given by places. Assumes nothing.
use mathlib.Core.Path.{◌≡◌, sym}
use mathlib.Core.Bool.{true, ◌&&◌}
use borrow.Author.Tests.{le-leb, lt-leb}
use lib.Dec.{leb}
use lib.ListN.{length}
use Rattle.bundle_records.specs.Walk.{next_of}
use Rattle.bundle_records.proofs.walk.next_record.Goals.{Else-bytes-end}
use Rattle.bundle_records.proofs.walk.next_record.Goals as goal

-- past the two tests the bytes have both places
within : (c : Else-bytes-end) → (leb c.args.at c.args.end && leb c.args.end (length c.args.bytes.now)) ≡ true
within c = rw (le-leb _ _ c.if-end-at.false, le-leb _ _ c.if-bytes-end.false)

pub returns-then-end-at : goal.returns-then-end-at
unfolding next_of
returns-then-end-at c = rw (lt-leb _ _ c.if-end-at.true)

pub returns-then-bytes-end : goal.returns-then-bytes-end
unfolding next_of
returns-then-bytes-end c = rw (le-leb _ _ c.if-end-at.false, lt-leb _ _ c.if-bytes-end.true)

pub returns-in-Empty : goal.returns-in-Empty
unfolding next_of
returns-in-Empty c = rw (within (goal.at.returns-in-Empty c).Else-bytes-end, sym c.first.ensures, c.in-Empty.is)

pub returns-in-Cut : goal.returns-in-Cut
unfolding next_of
returns-in-Cut c = rw (within (goal.at.returns-in-Cut c).Else-bytes-end, sym c.first.ensures, c.in-Cut.is)

pub returns-in-Whole : goal.returns-in-Whole
unfolding next_of
returns-in-Whole c = rw (within (goal.at.returns-in-Whole c).Else-bytes-end, sym c.first.ensures, c.in-Whole.is)
