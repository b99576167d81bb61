-- `fits::mask_breaks`: a shift within 32 bits, and no bit past them. Assumes nothing.
use mathlib.Core.Path.{sym, ap, ◌∙◌}
use Prim.Native.Nat.{ℕ, ◌^◌, ◌<◌, ◌≤◌}
use native.Mathlib.Nat.{one-mul}
use native.Mathlib.Omega.{arith}
use borrow.Author.Tests.{lt-leb, le-ltb}
use lib.Dec.{leb, lit<}
use lib.Pow.{shl_exact, pow_mono}
use borrow.Author.Rules.{rules}
use Rattle.host_record.proofs.fits.mask_breaks.Goals as goal

pub returns-then-n-lt32 : goal.returns-then-n-lt32
returns-then-n-lt32 c = ap (λ (x : ℕ). leb x c.args.mask) (shl_exact 1 c.args.n 32 (lit< tt) (omega (arith, c.if-n-lt32.true)) ∙ one-mul (2 ^ c.args.n))

pub returns-else-n-lt32 : goal.returns-else-n-lt32
returns-else-n-lt32 c = let l : 2 ^ 32 ≤ 2 ^ c.args.n = pow_mono c.if-n-lt32.false in let m : c.args.mask < 2 ^ 32 = search rules in le-ltb _ _ c.if-n-lt32.false ∙ sym (lt-leb (2 ^ c.args.n) c.args.mask (omega arith))
