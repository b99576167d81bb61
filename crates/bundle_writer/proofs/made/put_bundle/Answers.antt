-- `made::put_bundle` meets its contract: entry by entry, a body and its entry in the table. Assumes nothing.
use mathlib.Core.Path.{◌≡◌, ap, ◌∙◌}
use Prim.Native.Nat.{◌+◌, ◌-◌, ◌≤◌}
use native.Mathlib.Omega.{arith}
use mathlib.Core.List.{◌∷◌}
use lib.ListN.{length, replicate}
use Rattle.image.specs.Region.{put}
use Rattle.image.proofs.region.Within.{put_length}
use Rattle.bundle_cut.specs.Cut.{image_body}
use Rattle.bundle_given.specs.Given.{count_of, image_at}
use Rattle.bundle_writer.specs.Bundle.{made_bundle}
use Rattle.bundle_writer.proofs.Puts.{put_again, over_put}
use Rattle.bundle_writer.proofs.Promises.{made_size}
use Rattle.bundle_writer.proofs.list.Laws.{entry_of, entry_in, length_entry}
use Rattle.bundle_writer.proofs.made.Laws.{image_sized, bodies_on, fill_start, fill_on, fill_end}
use Rattle.bundle_writer.proofs.made.put_bundle.Goals.{After-image_at, After-put_body-next, After-put_head}
use Rattle.bundle_writer.proofs.made.put_bundle.Goals as goal

-- the output after the head
headed : (c : After-put_head) →
    let s = c in
    (c.put_head.new.out ≡ put 0 (count_of s.args.list.now ∷ 1 ∷ replicate 6 0) s.args.out.now) × (length c.put_head.new.out ≡ length s.args.out.now)
headed c =
    let s = c in
    let m = made_size s.args.list.now s.args.images.now in
    let e = rw c.count_of-count.ensures at c.put_head.ensures in
    (e, rw e (put_length 0 (count_of s.args.list.now ∷ 1 ∷ replicate 6 0) s.args.out.now (omega arith)))

-- the image of this turn, and the room for its body
given : (c : After-image_at)
    → c.image_at.result.now ≡ image_at c.args.images.now (entry_of c.args.list.now c.loop-i.i)
given c = rw c.entry_of-e.ensures.0 at c.image_at.ensures

room : (c : After-image_at) →
    let s = c in
    let l = c.loop-i in
    (l.end + length (image_body (image_at s.args.images.now (entry_of s.args.list.now l.i))) ≤ length (made_bundle s.args.list.now s.args.images.now))
    × (length l.out ≡ length s.args.out.now)
room c =
    let s = c in
    let l = c.loop-i in
    let n = bodies_on s.args.list.now s.args.images.now l.i (omega arith) in
    let h = headed (goal.at.After-image_at c).After-put_head in
    let r = l.invariant.1.room in
    let o = l.invariant.1.long in (omega arith, omega arith)

-- what the body's place became
ended : (c : After-put_body-next) →
    let s = c in
    let l = c.loop-i in
    let w = image_body (image_at s.args.images.now (entry_of s.args.list.now l.i)) in
    (c.put_body-next.result ≡ l.end + length w) × (c.put_body-next.new.out ≡ put l.end w l.out)
ended c = let e = rw (given (goal.at.After-put_body-next c).After-image_at) at c.put_body-next.ensures in (e.0, e.1)

pub put_head-requires : goal.put_head-requires
put_head-requires c =
    let s = c in
    let m = made_size s.args.list.now s.args.images.now in omega arith

pub loop-i-init : goal.loop-i-init
loop-i-init c =
    let s = c in
    let h = headed (goal.at.loop-i-init c).After-put_head in
    let m = made_size s.args.list.now s.args.images.now in
    let k = c.count_of-count.ensures in (
      k,
      rw (c.table_end-end.ensures, k)
          (fill_start s.args.list.now s.args.images.now c.put_head.new.out (omega arith)
          (rw h.0 (put_again (count_of s.args.list.now ∷ 1 ∷ replicate 6 0) s.args.out.now (omega arith)))),
    )

pub put_body-next-requires : goal.put_body-next-requires
put_body-next-requires c =
    let s = c in
    let r = room c in (
      rw (given c) (image_sized s.args.list.now s.args.images.now s.requires.list_value.1 c.loop-i.i (omega arith)).1,
      rw (given c) (omega arith),
    )

pub overflow_cast-end : goal.overflow_cast-end
overflow_cast-end c = let e = ended (goal.at.overflow_cast-end c).After-put_body-next in let r = room (goal.at.overflow_cast-end c).After-image_at in omega arith

pub overflow_sub-next : goal.overflow_sub-next
overflow_sub-next c = let e = ended (goal.at.overflow_sub-next c).After-put_body-next in let r = room (goal.at.overflow_sub-next c).After-image_at in omega arith

pub overflow_cast-next : goal.overflow_cast-next
overflow_cast-next c = let e = ended (goal.at.overflow_cast-next c).After-put_body-next in let r = room (goal.at.overflow_cast-next c).After-image_at in omega arith

pub put_entry-requires : goal.put_entry-requires
put_entry-requires c =
    let s = c in
    let l = c.loop-i in
    let e = ended (goal.at.put_entry-requires c).After-put_body-next in
    let r = room (goal.at.put_entry-requires c).After-image_at in
    let n = ap length e.1 ∙ put_length l.end _ l.out (omega arith) in
    let m = made_size s.args.list.now s.args.images.now in
    (ap length c.entry_of-e.ensures.0 ∙ length_entry s.args.list.now l.i (entry_in s.args.list.now s.requires.list_value.0 l.i (omega arith)), omega arith)

pub loop-i-preserved : goal.loop-i-preserved
loop-i-preserved c =
    let s = c in
    let l = c.loop-i in
    let e = ended (goal.at.loop-i-preserved c).After-put_body-next in
    let h = headed (goal.at.loop-i-preserved c).After-put_head in
    let f = fill_on s.args.list.now s.args.images.now c.put_head.new.out (omega arith) l.out l.end l.i l.invariant.1 (omega arith)
    (length_entry s.args.list.now l.i (entry_in s.args.list.now s.requires.list_value.0 l.i (omega arith))) in
    let g : c.put_body-next.result - l.end ≡ length (image_body (image_at s.args.images.now (entry_of s.args.list.now l.i))) = omega arith in
    (l.invariant.0, rw (c.put_entry.ensures, c.entry_of-e.ensures.0, c.table_end.ensures, e.1, g, e.0) f)

pub shape_of-out : goal.shape_of-out
shape_of-out c = c.loop-i.invariant.1.long ∙ (headed (goal.at.shape_of-out c).After-put_head).1

pub returns : goal.returns
returns c =
    let s = c in
    let l = c.loop-i in
    let h = headed (goal.at.returns c).After-put_head in
    let m = made_size s.args.list.now s.args.images.now in
    fill_end s.args.list.now s.args.images.now c.put_head.new.out (omega arith) l.out l.end l.i l.invariant.1 (omega arith)
    ∙ rw h.0 (over_put (made_bundle s.args.list.now s.args.images.now) _ s.args.out.now (omega arith))
