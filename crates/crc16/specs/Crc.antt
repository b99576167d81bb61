-- CRC-16/XMODEM, from its public description: 16 bits, polynomial 0x1021, start 0, no reflection, no final change (document 01, "The device").
use Rattle.std.specs.Prelude.{◌≡◌, ℕ, zero, suc, ◌*◌, ◌%◌, cond, List, [], ◌∷◌, ltb}
use Rattle.std.specs.Int.Bits.{bit_xor}

-- one bit: the register doubled modulo 2^16, with the polynomial where the bit that is shifted out is 1
unfoldable pub bit_step : ℕ → ℕ
bit_step r = cond (ltb r 0x8000) (r * 2 % 65536) (bit_xor (r * 2 % 65536) 0x1021)

-- k bits
unfoldable pub bit_steps : ℕ → ℕ → ℕ
bit_steps zero r = r
bit_steps (suc k) r = bit_steps k (bit_step r)

-- one byte: into the high half of the register, then eight bits
unfoldable pub byte_step : ℕ → ℕ → ℕ
byte_step r b = bit_steps 8 (bit_xor r (b * 256))

-- the register after a message
unfoldable pub crc_from : ℕ → List ℕ → ℕ
crc_from r [] = r
crc_from r (b ∷ bs) = crc_from (byte_step r b) bs

unfoldable pub crc_of : List ℕ → ℕ
crc_of bytes = crc_from 0 bytes

-- the check value: the nine digits "123456789" give 0x31C3
abbrev pub CheckValue : Type 0
CheckValue = crc_of (0x31 ∷ 0x32 ∷ 0x33 ∷ 0x34 ∷ 0x35 ∷ 0x36 ∷ 0x37 ∷ 0x38 ∷ 0x39 ∷ []) ≡ 0x31C3
