-- The table's rule, by one test over the table; and what follows: four bits at a step, and a byte in two steps (document 02, A2). Assumes nothing.
use mathlib.Core.Path.{◌≡◌, refl, sym, ap, ap₂, ◌∙◌}
use mathlib.Core.List.{List, [], ◌∷◌}
use Prim.Native.Nat.{ℕ, zero, suc, ◌+◌, ◌*◌, ◌/◌, ◌%◌, ◌<◌}
use native.Mathlib.Nat.{add-zero, zero-add, add-suc, suc-add, le_of_suc-le-suc}
use native.Mathlib.Omega.{arith}
use lib.Bits.{bit_xor, xor_comm, xor_lt, xor_shifted}
use lib.ListN.{get_or}
use lib.Pow.{split}
use Rattle.crc16.specs.Crc.{bit_step, bit_steps, byte_step}
use Rattle.crc16.specs.Table.{crc_table, nibble_step, TableRule, RuledIsFourBits, NibbleIsFourBits, ByteIsTwoNibbles}
use Rattle.crc16.proofs.Steps.{steps_add, steps_below, steps_xor, steps_low}

-- n values of f, from f i on
values : (ℕ → ℕ) → ℕ → ℕ → List ℕ
values f i zero = []
values f i (suc n) = f i ∷ values f (suc i) n

value_at : (f : ℕ → ℕ) (i n k : ℕ) → k < n → get_or (values f i n) k 0 ≡ f (i + k)
unfolding values
value_at f i zero k h = absurd (omega arith)
value_at f i (suc n) zero h = ap f (sym (add-zero i))
value_at f i (suc n) (suc k) h =
    value_at f (suc i) n k (le_of_suc-le-suc h) ∙ ap f (suc-add i k ∙ sym (add-suc i k))

-- what four single-bit steps make of i in the high four bits
four : ℕ → ℕ
four i = bit_steps 4 (i * 4096)

-- the test: the table's sixteen numbers are those values
test : crc_table ≡ values four 0 16
unfolding crc_table values four bit_steps bit_step
test = refl

rule : (i : ℕ) → i < 16 → get_or crc_table i 0 ≡ bit_steps 4 (i * 4096)
unfolding four
rule i h = ap (λ (t : List ℕ). get_or t i 0) test ∙ value_at four 0 16 i h ∙ ap four (zero-add i)

pub table_rule : TableRule
unfolding crc_table
table_rule = (refl, rule)

pub ruled_is_four_bits : RuledIsFourBits
unfolding nibble_step
ruled_is_four_bits t ruled r h =
    let low : r % 4096 < 4096 = omega arith in
    ap (bit_steps 4) (sym (split r 12) ∙ sym (xor_shifted (r / 4096) 12 (r % 4096) low))
    ∙ steps_xor 4 (r / 4096 * 4096) (r % 4096) (omega arith) (omega arith)
    ∙ ap₂ bit_xor (sym (ruled.1 (r / 4096) (omega arith))) (steps_low 4 (r % 4096) (omega arith))
    ∙ xor_comm (get_or t (r / 4096) 0) (r % 4096 * 16)

pub nibble_is_four_bits : NibbleIsFourBits
nibble_is_four_bits = ruled_is_four_bits crc_table table_rule

pub byte_is_two_nibbles : ByteIsTwoNibbles
unfolding byte_step
byte_is_two_nibbles r b hr hb =
    let x = bit_xor r (b * 256) in
    let h : x < 65536 = xor_lt 16 r (b * 256) hr (omega arith) in
    steps_add 4 4 x
    ∙ nibble_is_four_bits (bit_steps 4 x) (steps_below 4 x h)
    ∙ ap (nibble_step crc_table) (nibble_is_four_bits x h)
