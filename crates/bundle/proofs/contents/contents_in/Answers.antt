-- `contents::contents_in`: the entry's parts, each by its reader. Assumes nothing.
use native.Mathlib.Omega.{arith}
use lib.Seq.{get_or-take, length-take-le}
use Rattle.bundle_layout.specs.Layout.{body_in}
use Rattle.bundle.proofs.contents.Laws.{good_id}
use Rattle.bundle.proofs.contents.contents_in.Goals as goal

pub offer_in-offer-requires : goal.offer_in-offer-requires
offer_in-offer-requires c =
    let s = c in
    (length-take-le 16 s.args.e.now (omega arith), rw (get_or-take 16 s.args.e.now 2 0 (omega arith)) (good_id s.args.e.now s.requires.e_len.1))

pub returns : goal.returns
unfolding body_in
returns c = rw (c.offer_in-offer.ensures, c.records_in-records.ensures, c.offset_in-offset.ensures, c.length_in-size.ensures)
