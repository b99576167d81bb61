-- What is known of a number that is tested against two limits. Assumes nothing.
use mathlib.Core.Path.{◌≡◌}
use mathlib.Core.Bool.{false, ◌||◌}
use Prim.Native.Nat.{ℕ, ◌≤◌}
use borrow.Author.Tests.{ltb-false}
use lib.Dec.{ltb}
use Rattle.wire.proofs.Tests.{neither}

-- a number that is neither below nor above its limits
pub inside : (low high n : ℕ) → (ltb n low || ltb high n) ≡ false → (low ≤ n) × (n ≤ high)
inside low high n h = let w = neither (ltb n low) (ltb high n) h in (ltb-false n low w.0, ltb-false high n w.1)
