-- The rows and their numbers. Assumes nothing.
use Prim.Native.Nat.{ℕ, zero, suc, ◌≤◌}
use mathlib.Core.Path.{◌≡◌, refl}
use native.Mathlib.Omega.{arith}
use Rattle.std.specs.Prelude.{Option, Some, None}
use Rattle.bundle_layout.specs.declared.BundleRow.{BundleRow}
use Rattle.bundle_layout.specs.declared.BundleRow.TheVariants.{B1, B2, B3, B4, B5, B6, B7, B8}
use Rattle.bundle_layout.specs.Rows.{number_of, row_at, row_of, verdict_of}

-- the number of a verdict, 0 for none
abbrev pub verdict_number_of : Option BundleRow → ℕ
verdict_number_of None = 0
verdict_number_of (Some row) = number_of row

-- a verdict is that of its number
pub verdict_number : (v : Option BundleRow) → verdict_of (verdict_number_of v) ≡ v
verdict_number None = refl
verdict_number (Some B1) = refl
verdict_number (Some B2) = refl
verdict_number (Some B3) = refl
verdict_number (Some B4) = refl
verdict_number (Some B5) = refl
verdict_number (Some B6) = refl
verdict_number (Some B7) = refl
verdict_number (Some B8) = refl

-- and a number that a row has is that of its verdict
pub number_verdict : (k : ℕ) → k ≤ 8 → verdict_number_of (verdict_of k) ≡ k
number_verdict zero h = refl
number_verdict (suc zero) h = refl
number_verdict (suc (suc zero)) h = refl
number_verdict (suc (suc (suc zero))) h = refl
number_verdict (suc (suc (suc (suc zero)))) h = refl
number_verdict (suc (suc (suc (suc (suc zero))))) h = refl
number_verdict (suc (suc (suc (suc (suc (suc zero)))))) h = refl
number_verdict (suc (suc (suc (suc (suc (suc (suc zero))))))) h = refl
number_verdict (suc (suc (suc (suc (suc (suc (suc (suc zero)))))))) h = refl
number_verdict (suc (suc (suc (suc (suc (suc (suc (suc (suc k))))))))) h = absurd (omega arith)

-- the row of a number that a row has
pub row_verdict : (k entry : ℕ) → k ≤ 8 → row_of (verdict_of k) entry ≡ row_at k entry
row_verdict zero entry h = refl
row_verdict (suc zero) entry h = refl
row_verdict (suc (suc zero)) entry h = refl
row_verdict (suc (suc (suc zero))) entry h = refl
row_verdict (suc (suc (suc (suc zero)))) entry h = refl
row_verdict (suc (suc (suc (suc (suc zero))))) entry h = refl
row_verdict (suc (suc (suc (suc (suc (suc zero)))))) entry h = refl
row_verdict (suc (suc (suc (suc (suc (suc (suc zero))))))) entry h = refl
row_verdict (suc (suc (suc (suc (suc (suc (suc (suc zero)))))))) entry h = refl
row_verdict (suc (suc (suc (suc (suc (suc (suc (suc (suc k))))))))) entry h = absurd (omega arith)
