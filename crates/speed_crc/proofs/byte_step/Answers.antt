-- `speed_crc::byte_step` meets its contract: the bits that are left, from x, give the byte's register. Assumes nothing.
use mathlib.Core.Path.{◌≡◌, ap}
use Prim.Native.Nat.{suc, ◌*◌, ◌%◌, ◌^◌, ◌+◌, ◌-◌}
use native.Mathlib.Omega.{arith}
use lib.Bits.{bit_xor}
use Rattle.crc16.specs.Crc.{bit_steps, byte_step}
use Rattle.speed_crc.proofs.byte_step.Goals as goal

pub loop-init : goal.loop-init
unfolding byte_step
loop-init c =
    let h : c.args.b * 2 ^ 8 % 2 ^ 16 ≡ c.args.b * 256 = omega arith in
    ap (λ n. bit_steps 8 (bit_xor c.args.r n)) h

pub loop-preserved : goal.loop-preserved
unfolding bit_steps
loop-preserved c =
    let l = c.loop in
    let e : 8 - l.counter ≡ suc (8 - (l.counter + 1)) = omega arith in
    rw c.bit_step-x.ensures (rw e at l.invariant)

pub returns : goal.returns
unfolding bit_steps
returns c =
    let l = c.loop in
    let e : l.counter ≡ 8 = omega arith in
    rw e at l.invariant
