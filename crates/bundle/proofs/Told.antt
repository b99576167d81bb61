-- The row of a check's answer. Assumes nothing.
use mathlib.Core.Path.{◌≡◌, refl}
use mathlib.Core.List.{List}
use Prim.Native.Nat.{ℕ}
use Rattle.bundle_layout.specs.Rows.{Row, served, row_b, bundle_row}
use Rattle.bundle.specs.Contents.{contents_by, check_of}

row_told : (r : Row) (b : List ℕ) → (contents_by r b).row ≡ r
row_told served b = refl
row_told (row_b k entry) b = refl

pub check_row : (b : List ℕ) → (check_of b).row ≡ bundle_row b
unfolding check_of
check_row b = row_told (bundle_row b) b
