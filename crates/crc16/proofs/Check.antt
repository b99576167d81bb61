-- The check value of the CRC, by computing it. Assumes nothing.
use mathlib.Core.Path.{refl}
use Rattle.crc16.specs.Crc.{CheckValue, bit_step, bit_steps, byte_step, crc_from, crc_of}

-- "123456789" gives 0x31C3
pub check_value : CheckValue
unfolding bit_step bit_steps byte_step crc_from crc_of
check_value = refl
