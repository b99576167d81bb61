-- `bears_offer`: the numbers of the two versions, and the two ids. Assumes nothing.
use Rattle.bundle_given.proofs.bears_offer.Goals.{After-number-2}
use Rattle.bundle_given.proofs.bears_offer.Goals as goal

pub returns : goal.returns
returns c =
    let n = (goal.at.returns c).After-number-2 in
    let v = n in
    rw (c.id_in.ensures, c.byte_at.ensures, n.number-2.ensures, n.number.ensures, v.read_at-offered.ensures, v.read_at-borne.ensures)
