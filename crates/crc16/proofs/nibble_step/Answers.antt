-- `crc16::nibble_step` meets its contract: a shift by four within 16 bits keeps the low twelve bits and no others. Assumes nothing.
use mathlib.Core.Path.{◌≡◌, ap}
use Prim.Native.Nat.{◌*◌, ◌%◌, ◌/◌}
use native.Mathlib.Omega.{arith}
use lib.Bits.{bit_xor}
use lib.ListN.{get_or}
use Rattle.crc16.specs.Table.{nibble_step}
use Rattle.crc16.proofs.nibble_step.Goals as goal

pub returns : goal.returns
unfolding nibble_step
returns c =
    let a = c.args in
    let e : a.r * 16 % 65536 ≡ a.r % 4096 * 16 = omega arith in
    ap (λ n. bit_xor n (get_or a.table.now (a.r / 4096) 0)) e
