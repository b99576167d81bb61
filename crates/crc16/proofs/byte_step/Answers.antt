-- `crc16::byte_step` meets its contract: a byte is two steps by the table. Assumes nothing.
use mathlib.Core.Path.{◌≡◌, sym, ap, ◌∙◌}
use Prim.Native.Nat.{◌*◌, ◌%◌, ◌^◌}
use native.Mathlib.Omega.{arith}
use lib.Bits.{bit_xor}
use Rattle.crc16.specs.Table.{nibble_step}
use Rattle.crc16.proofs.Table.{byte_is_two_nibbles}
use Rattle.crc16.proofs.byte_step.Goals as goal

pub returns : goal.returns
returns c =
    let a = c.args in
    let e : a.b * 2 ^ 8 % 2 ^ 16 ≡ a.b * 256 = omega arith in
    c.nibble_step-2.ensures
    ∙ ap (nibble_step a.table.now) (c.nibble_step.ensures ∙ ap (λ n. nibble_step a.table.now (bit_xor a.r n)) e)
    ∙ ap (λ t. nibble_step t (nibble_step t (bit_xor a.r (a.b * 256)))) c.requires
    ∙ sym (byte_is_two_nibbles a.r a.b (omega arith) (omega arith))
