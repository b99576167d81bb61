-- The steps of the CRC four bits at a time, by a table of sixteen entries (document 02, A2). What the CRC is stands in `Crc.antt` and did not change.
use Rattle.std.specs.Prelude.{◌≡◌, List, [], ◌∷◌, ℕ, ◌*◌, ◌/◌, ◌%◌, ◌<◌, length, get_or}
use Rattle.std.specs.Int.Bits.{bit_xor}
use Rattle.crc16.specs.Crc.{bit_steps, byte_step}

-- the table: entry i, counted from 0, goes into the register by exclusive or where the four bits that are shifted out are i; that it is right is `TableRule`
unfoldable pub crc_table : List ℕ
crc_table =
    0x0000 ∷ 0x1021 ∷ 0x2042 ∷ 0x3063
    ∷ 0x4084 ∷ 0x50A5 ∷ 0x60C6 ∷ 0x70E7
    ∷ 0x8108 ∷ 0x9129 ∷ 0xA14A ∷ 0xB16B
    ∷ 0xC18C ∷ 0xD1AD ∷ 0xE1CE ∷ 0xF1EF
    ∷ []

-- four bits of a register of 16 bits, by a table t: its low twelve bits moved up by four, exclusive or with the entry for its high four (0 where t has none)
unfoldable pub nibble_step : List ℕ → ℕ → ℕ
nibble_step t r = bit_xor ((r % 4096) * 16) (get_or t (r / 4096) 0)

-- the rule of a table: sixteen entries; entry i, counted from 0, is what four single-bit steps make of the register with i in its high four bits and zeros
-- below
abbrev pub Ruled : List ℕ → Type 0
Ruled t = (length t ≡ 16) × ((i : ℕ) → i < 16 → get_or t i 0 ≡ bit_steps 4 (i * 4096))

-- the table has the rule
abbrev pub TableRule : Type 0
TableRule = Ruled crc_table

-- the rule is all that is needed of a table: by one that has it, a step is four single-bit steps, for every register of 16 bits
abbrev pub RuledIsFourBits : Type 0
RuledIsFourBits = (t : List ℕ) → Ruled t → (r : ℕ) → r < 65536 → bit_steps 4 r ≡ nibble_step t r

-- a step by `crc_table` is four single-bit steps, for every register of 16 bits
abbrev pub NibbleIsFourBits : Type 0
NibbleIsFourBits = (r : ℕ) → r < 65536 → bit_steps 4 r ≡ nibble_step crc_table r

-- a byte, which goes by exclusive or into the register's high eight bits, is two steps by `crc_table`, for every register of 16 bits and every byte: the first
-- shifts out the four bits where the byte's high half went, the second the four where its low half went, as the first left them
abbrev pub ByteIsTwoNibbles : Type 0
ByteIsTwoNibbles = (r b : ℕ) → r < 65536 → b < 256 → byte_step r b ≡ nibble_step crc_table (nibble_step crc_table (bit_xor r (b * 256)))
