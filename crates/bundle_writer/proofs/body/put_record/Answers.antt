-- `body::put_record` meets its contract: the address, the length and the data, one after the other. Assumes nothing.
use mathlib.Core.Path.{◌∙◌}
use mathlib.Core.List.{[], ◌∷◌}
use Prim.Native.Nat.{◌+◌}
use native.Mathlib.Omega.{arith}
use lib.ListN.{length}
use Rattle.wire.specs.Bytes.{bytes_of}
use Rattle.bundle_writer.proofs.Puts.{put_three}
use Rattle.bundle_writer.proofs.body.put_record.Goals as goal

pub returns : goal.returns
returns c =
    let first = c.put_at.ensures in
    let second = c.put_at-2.ensures in
    let bytes = c.bytes32.ensures in
    let a = c.args in
    let e = put_three a.at (a.at + 4) (a.at + 5) (bytes_of 4 a.address) (length a.bytes.now ∷ []) a.bytes.now a.out.now (omega arith) (omega arith) (omega arith) in
    c.put_at-3.ensures ∙ rw (second, first, bytes) e
