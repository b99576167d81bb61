-- `made::put_entry` meets its contract: the offer, the offset and the length, one after the other. Assumes nothing.
use mathlib.Core.Path.{sym, ◌∙◌}
use Prim.Native.Nat.{◌+◌}
use native.Mathlib.Omega.{arith}
use lib.Seq.{length-take-le}
use Rattle.wire.specs.Bytes.{bytes_of}
use Rattle.wire.specs.Codes.{short_size}
use Rattle.bundle_layout.specs.Layout.{offer_in}
use Rattle.bundle_writer.proofs.Puts.{put_three}
use Rattle.bundle_writer.proofs.made.put_entry.Goals as goal

pub slice_bounds-put_at-end : goal.slice_bounds-put_at-end
slice_bounds-put_at-end c = sym (length-take-le short_size c.args.e.now (omega arith))

pub put_at-requires : goal.put_at-requires
put_at-requires c = let l = length-take-le short_size c.args.e.now (omega arith) in omega arith

pub returns : goal.returns
returns c =
    let a = c.args in
    let first = c.put_at.ensures in
    let second = c.put_at-2.ensures in
    let offset = c.bytes32.ensures in
    let size = c.bytes32-2.ensures in
    let l = length-take-le short_size a.e.now (omega arith) in
    let e = put_three a.at (a.at + 16) (a.at + 20) (offer_in a.e.now) (bytes_of 4 a.offset) (bytes_of 4 a.size) a.out.now (omega arith) (omega arith) (omega arith) in
    c.put_at-3.ensures ∙ rw (size, second, offset, first) e
