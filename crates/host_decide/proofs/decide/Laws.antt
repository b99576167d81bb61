-- A bit of a mask, and the replies that are read. Assumes nothing.
use mathlib.Core.Path.{◌≡◌, refl, sym, ap, ◌∙◌}
use mathlib.Core.Bool.{Bool, true, false, cond}
use Prim.Native.Nat.{ℕ, suc, ◌+◌, ◌*◌, ◌-◌, ◌/◌, ◌%◌, ◌^◌, ◌≤◌}
use native.Mathlib.Nat.{pow-suc, one-mul}
use native.Mathlib.Omega.{arith}
use borrow.Author.Tests.{eqb-true, eqb-false}
use lib.Dec.{lit<}
use lib.Pow.{shl_exact}
use lib.Bits.{bit_and, bit_or, and_high, or_add_and}
use mathlib.Core.List.{List}
use lib.ListN.{length}
use Rattle.wire.specs.Rows.{Told}
use Rattle.wire_offer.specs.Reply as offer_reply
use Rattle.wire_offer.specs.declared.reply.OfferReply.{OfferReply}
use Rattle.wire_content.specs.Reply as content_reply
use Rattle.wire_content.specs.declared.reply.ContentReply.{ContentReply}
use Rattle.host_record.specs.Record.{has_bit, with_bit}
use Rattle.host_decide.specs.Decide.{decide_in, decide_of}
use Rattle.host_record.specs.declared.record.Host.{Host}
use Rattle.host_record.specs.declared.record.HostStage.{HostStage}

-- `&` with one bit is that bit
and_bit : (i m : ℕ) → bit_and m (2 ^ i) ≡ m / 2 ^ i % 2 * 2 ^ i
and_bit i m =
    let s : 1 + i ≡ suc i = omega arith in
    let e : 2 ^ (1 + i) - 2 ^ i ≡ 2 ^ i = rw s (omega (arith, pow-suc 2 i)) in
    rw e at (and_high m 1 i)

-- `|` with one bit sets it, whether it was set or not
or_is : (i m : ℕ) → bit_or m (2 ^ i) ≡ with_bit m i
or_is i m = go (has_bit m i) refl
  where
    go : (t : Bool) → has_bit m i ≡ t → bit_or m (2 ^ i) ≡ cond t m (m + 2 ^ i)
    go true h = omega (arith, or_add_and m (2 ^ i), (rw (eqb-true (m / 2 ^ i % 2) 1 h) at (and_bit i m)))
    go false h =
        let z : m / 2 ^ i % 2 ≡ 0 = omega (arith, eqb-false (m / 2 ^ i % 2) 1 h) in
        omega (arith, or_add_and m (2 ^ i), (rw z at (and_bit i m)))

-- what `mask | (1 << i)` is, at any width
pub or_bit : (w i m : ℕ) → 1 + i ≤ w → bit_or m (1 * 2 ^ i % 2 ^ w) ≡ with_bit m i
or_bit w i m fits = ap (bit_or m) (shl_exact 1 i w (lit< tt) fits ∙ one-mul (2 ^ i)) ∙ or_is i m

-- a decision, by the stage that a record is in
pub by_stage : {s : HostStage} (n : ℕ) (last : Bool) (h : Host) (reply : List ℕ) → h.stage ≡ s → decide_in s n last h reply ≡ decide_of n last h reply
by_stage {s} n last h reply e = sym (ap (λ (t : HostStage). decide_in t n last h reply) e)
