-- `crc16::crc16` meets its contract: what is left of the message, from the register, gives the CRC of the whole. Assumes nothing.
use mathlib.Core.Path.{◌≡◌, refl}
use Prim.Native.Nat.{◌<◌}
use native.Mathlib.Omega.{arith}
use native.Mathlib.Numerals.{add-one}
use lib.ListN.{length}
use lib.Seq.{drop-cons, drop-length}
use Rattle.crc16.specs.Crc.{crc_from, crc_of}
use Rattle.crc16.specs.Table.{crc_table}
use Rattle.crc16.proofs.crc16.Goals as goal

pub loop-b-init : goal.loop-b-init
unfolding crc_of crc_table
loop-b-init c = (refl, refl)

pub loop-b-preserved : goal.loop-b-preserved
unfolding crc_from
loop-b-preserved c =
    let l = c.loop-b in
    let s = c.args.bytes.now in
    let h : l.b-index < length s = omega arith in
    (l.invariant.0, rw (add-one, c.byte_step-r.ensures) (rw (drop-cons s l.b-index 0 h) at l.invariant.1))

pub returns : goal.returns
unfolding crc_from
returns c =
    let l = c.loop-b in
    let s = c.args.bytes.now in
    let e : l.b-index ≡ length s = omega arith in
    rw (e, drop-length) at l.invariant.1
