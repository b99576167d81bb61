-- `made::bundle_length` meets its contract: what was counted and the bodies that are left make the whole. Assumes nothing.
use mathlib.Core.Path.{◌≡◌, ap, ◌∙◌}
use Prim.Native.Nat.{◌*◌, ◌≤◌}
use native.Mathlib.Omega.{arith}
use lib.ListN.{length}
use Rattle.device_component.specs.Setup.{staging_limit}
use Rattle.bundle_cut.specs.Cut.{image_body}
use Rattle.bundle_given.specs.Given.{image_at}
use Rattle.bundle_writer.proofs.Promises.{made_size}
use Rattle.bundle_writer.proofs.list.Laws.{entry_of, good_list}
use Rattle.bundle_writer.proofs.made.Laws.{image_sized, body_most, bodies_on, bodies_none}
use Rattle.bundle_writer.proofs.made.bundle_length.Goals.{After-body_length-size, After-image_at}
use Rattle.bundle_writer.proofs.made.bundle_length.Goals as goal

-- the image of this turn
given : (c : After-image_at)
    → c.image_at.result.now ≡ image_at c.args.images.now (entry_of c.args.list.now c.loop-i.i)
given c = rw c.entry_of-e.ensures.0 at c.image_at.ensures

-- what it adds
counted : (c : After-body_length-size)
    → (c.body_length-size.result ≡ length (image_body (image_at c.args.images.now (entry_of c.args.list.now c.loop-i.i)))) × (c.body_length-size.result ≤ 8 * staging_limit)
counted c =
    let s = c in
    let e = c.body_length-size.ensures ∙ ap (λ m. length (image_body m)) (given (goal.at.After-body_length-size c).After-image_at) in
    (e, rw e (body_most s.args.list.now s.args.images.now s.requires.1 c.loop-i.i (omega arith)))

pub loop-i-init : goal.loop-i-init
loop-i-init c =
    let s = c in
    let k = good_list s.args.list.now s.requires.0 in
    let m = made_size s.args.list.now s.args.images.now in
    (c.count_of-count.ensures, omega arith, omega arith)

pub body_length-size-requires : goal.body_length-size-requires
body_length-size-requires c =
    let s = c in
    rw (given c) (image_sized s.args.list.now s.args.images.now s.requires.1 c.loop-i.i (omega arith)).1

pub overflow_add-size : goal.overflow_add-size
overflow_add-size c =
    let m = counted c in omega arith

pub loop-i-preserved : goal.loop-i-preserved
loop-i-preserved c =
    let s = c in
    let l = c.loop-i in
    let m = counted c in
    let n = bodies_on s.args.list.now s.args.images.now l.i (omega arith) in
    (l.invariant.0, omega arith, omega arith)

pub returns : goal.returns
returns c =
    let s = c in
    let l = c.loop-i in
    let n = bodies_none s.args.list.now s.args.images.now l.i (omega arith) in omega arith
