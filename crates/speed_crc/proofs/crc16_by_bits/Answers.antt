-- `speed_crc::crc16_by_bits` meets its contract: what is left of the message, from the register, gives the CRC of the whole. Assumes nothing.
use mathlib.Core.Path.{◌≡◌, refl}
use native.Mathlib.Omega.{arith}
use native.Mathlib.Numerals.{add-one}
use lib.ListN.{length}
use lib.Seq.{drop-cons, drop-length}
use Rattle.crc16.specs.Crc.{crc_from, crc_of}
use Rattle.speed_crc.proofs.crc16_by_bits.Goals as goal

pub loop-b-init : goal.loop-b-init
unfolding crc_of
loop-b-init c = refl

pub loop-b-preserved : goal.loop-b-preserved
unfolding crc_from
loop-b-preserved c =
    let l = c.loop-b in
    rw (add-one, c.byte_step-r.ensures) (rw (drop-cons c.args.bytes.now l.b-index 0 c.loop-b-test.true) at l.invariant)

pub returns : goal.returns
unfolding crc_from
returns c =
    let l = c.loop-b in
    let e : l.b-index ≡ length c.args.bytes.now = omega arith in
    rw (e, drop-length) at l.invariant
