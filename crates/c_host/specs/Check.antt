-- The bundle's call from C: what it answers and leaves in the lent buffer.
use Rattle.std.specs.Prelude.{ℕ, ◌+◌, List}
use Rattle.bundle_layout.specs.Rows.{Row, served, row_b}
use Rattle.bundle.specs.Contents.{Contents, check_of}
use Rattle.host_bytes.specs.Layout.{contents_size, no_place, contents_bytes}
use Rattle.c_types.specs.declared.types.CCheck.{CCheck}
use Rattle.c_types.specs.Numbers.{served_number, wrong_output, letter_b, sized}

-- the number of a row of the check
abbrev pub bundle_number : Row → ℕ
bundle_number served = served_number
bundle_number (row_b k entry) = letter_b + k

-- what the check leaves: the contents, with no block in hand and the cursor at 0
pub record CheckLeft : Type 0 where
  pub check : CCheck
  pub contents : List ℕ

abbrev pub told_check : CCheck → (contents : List ℕ) → CheckLeft
told_check check contents = record { check = check; contents = contents }

abbrev pub check_by : Contents → CheckLeft
check_by c = record {
  check = record { number = bundle_number c.row; entry = c.place; count = c.count };
  contents = contents_bytes c no_place 0;
}

unfoldable pub check_call : (bundle contents : List ℕ) → CheckLeft
check_call bundle contents =
    sized contents contents_size (record { check = record { number = wrong_output; entry = 0; count = 0 }; contents = contents })
    (check_by (check_of bundle))
