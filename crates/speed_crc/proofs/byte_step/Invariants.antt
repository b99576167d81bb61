-- `speed_crc::byte_step` meets its contract: the bits that are left, from x, give the byte's register. Assumes nothing.
use mathlib.Core.Path.{◌≡◌}
use Prim.Native.Nat.{◌-◌}
use Rattle.crc16.specs.Crc.{bit_steps, byte_step}
use Rattle.speed_crc.proofs.byte_step.Given as goal

abbrev pub invariant-loop : goal.invariant-loop
invariant-loop l = bit_steps (8 - l.counter) l.x ≡ byte_step l.r l.b
