-- `image_at`: the part that is lent is the image, as far as the slice has it. Assumes nothing.
use Rattle.bundle_layout.specs.Layout.{offset_in, length_in}
use Rattle.image.proofs.region.Lent.{clamped}
use Rattle.bundle_given.specs.Given.{image_at}
use Rattle.bundle_given.proofs.image_at.Goals as goal

pub returns : goal.returns
unfolding image_at
returns c =
    let l = c in
    let a = l.args in
    let start = rw l.offset_in.ensures at l.least-start.ensures in
    let size = rw c.length_in.ensures at c.least.ensures in
    clamped (offset_in a.e.now) (length_in a.e.now) a.images.now _ _ start size
