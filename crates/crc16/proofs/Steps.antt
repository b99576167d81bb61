-- The register's steps of single bits: they stay below 2^16, go through exclusive or, and only double where no bit is shifted out. Assumes nothing.
use mathlib.Core.Path.{◌≡◌, refl, sym, ap, ap₂, ◌∙◌}
use Prim.Native.Nat.{ℕ, zero, suc, ◌+◌, ◌*◌, ◌/◌, ◌%◌, ◌^◌, ◌<◌, ◌≤◌}
use native.Mathlib.Nat.{mod-lt, pow-suc, mul_assoc, mul_comm, mul-one, mul-le-mul_left, zero-add, suc-add}
use native.Mathlib.Decide.{dec_lt}
use native.Mathlib.Omega.{arith}
use borrow.Author.Tests.{lt-ltb, le-ltb}
use lib.Pow.{pow_pos}
use lib.Bits.{bit_xor, xor_shr, xor_mod, xor_lt, xor_zero_r}
use Rattle.crc16.specs.Crc.{bit_step, bit_steps}
use Rattle.crc16.proofs.Xor.{xor_swap, xor_shl}

-- j bits and then k bits
pub steps_add : (j k r : ℕ) → bit_steps (j + k) r ≡ bit_steps k (bit_steps j r)
unfolding bit_steps
steps_add zero k r = ap (λ (n : ℕ). bit_steps n r) (zero-add k)
steps_add (suc j) k r = ap (λ (n : ℕ). bit_steps n r) (suc-add j k) ∙ steps_add j k (bit_step r)

-- a step without its test
plain : (r : ℕ) → r < 65536 → bit_step r ≡ bit_xor (r * 2 % 65536) (r / 32768 * 4129)
unfolding bit_step
plain r h = go (dec_lt r 32768)
  where
    go : Dec (r < 32768) → bit_step r ≡ bit_xor (r * 2 % 65536) (r / 32768 * 4129)
    go (yes l) =
        let z : r / 32768 ≡ 0 = omega arith in
        rw (z, lt-ltb r 32768 l, xor_zero_r (r * 2 % 65536)) refl
    go (no n) =
        let z : r / 32768 ≡ 1 = omega arith in
        let l : 32768 ≤ r = omega arith in
        rw (z, le-ltb r 32768 l) refl

step_below : (r : ℕ) → r < 65536 → bit_step r < 65536
step_below r h =
    rw (plain r h) (xor_lt 16 (r * 2 % 65536) (r / 32768 * 4129) (mod-lt (r * 2) (pow_pos 16)) (omega arith))

pub steps_below : (k r : ℕ) → r < 65536 → bit_steps k r < 65536
unfolding bit_steps
steps_below zero r h = h
steps_below (suc k) r h = steps_below k (bit_step r) (step_below r h)

-- the polynomial, once for each of two bits
polynomial : (u v : ℕ) → u < 2 → v < 2 → bit_xor u v * 4129 ≡ bit_xor (u * 4129) (v * 4129)
polynomial zero v hu hv = refl
polynomial (suc zero) zero hu hv = refl
polynomial (suc zero) (suc zero) hu hv = refl
polynomial (suc zero) (suc (suc v)) hu hv = absurd (omega arith)
polynomial (suc (suc u)) v hu hv = absurd (omega arith)

step_xor : (a b : ℕ) → a < 65536 → b < 65536 → bit_step (bit_xor a b) ≡ bit_xor (bit_step a) (bit_step b)
step_xor a b ha hb =
    plain (bit_xor a b) (xor_lt 16 a b ha hb)
    ∙ ap₂ bit_xor
    (ap (λ (x : ℕ). x % 65536) (sym (xor_shl a b 1)) ∙ xor_mod (a * 2) (b * 2) 16)
    (ap (λ (x : ℕ). x * 4129) (xor_shr a b 15) ∙ polynomial (a / 32768) (b / 32768) (omega arith) (omega arith))
    ∙ xor_swap (a * 2 % 65536) (b * 2 % 65536) (a / 32768 * 4129) (b / 32768 * 4129)
    ∙ ap₂ bit_xor (sym (plain a ha)) (sym (plain b hb))

pub steps_xor : (k a b : ℕ) → a < 65536 → b < 65536 → bit_steps k (bit_xor a b) ≡ bit_xor (bit_steps k a) (bit_steps k b)
unfolding bit_steps
steps_xor zero a b ha hb = refl
steps_xor (suc k) a b ha hb =
    ap (bit_steps k) (step_xor a b ha hb)
    ∙ steps_xor k (bit_step a) (bit_step b) (step_below a ha) (step_below b hb)

-- no bit is shifted out
step_low : (r : ℕ) → r < 32768 → bit_step r ≡ r * 2
unfolding bit_step
step_low r h =
    let e : r * 2 % 65536 ≡ r * 2 = omega arith in
    rw (lt-ltb r 32768 h) e

pub steps_low : (k r : ℕ) → r * 2 ^ k < 65536 → bit_steps k r ≡ r * 2 ^ k
unfolding bit_steps
steps_low zero r h = sym (mul-one r)
steps_low (suc k) r h =
    let e : r * 2 ^ suc k ≡ r * 2 * 2 ^ k =
    ap (λ (x : ℕ). r * x) (pow-suc 2 k ∙ mul_comm (2 ^ k) 2) ∙ sym (mul_assoc r 2 (2 ^ k)) in
    let l : r * 2 * 1 ≤ r * 2 * 2 ^ k = mul-le-mul_left (r * 2) (pow_pos k) in
    let h' : r * 2 * 2 ^ k < 65536 = rw e at h in
    ap (bit_steps k) (step_low r (omega arith)) ∙ steps_low k (r * 2) h' ∙ sym e
