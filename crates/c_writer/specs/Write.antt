-- The writer's call from C: what it answers and leaves in the lent output.
use Rattle.std.specs.Prelude.{ℕ, ◌+◌, List}
use Rattle.bundle_writer.specs.Rows.{Row, served, row_w}
use Rattle.bundle_writer.specs.Answer.{Made, make_of}
use Rattle.c_types.specs.declared.types.CWritten.{CWritten}
use Rattle.c_types.specs.Numbers.{served_number, letter_w}

-- the number of a row of the writer
abbrev pub write_number : Row → ℕ
write_number served = served_number
write_number (row_w k entry) = letter_w + k

-- what the call answers, and the output
pub record WriteLeft : Type 0 where
  pub written : CWritten
  pub out : List ℕ

abbrev pub told_write : CWritten → (out : List ℕ) → WriteLeft
told_write written out = record { written = written; out = out }

abbrev pub write_by : Made → WriteLeft
write_by m = record { written = record { number = write_number m.row; entry = m.place; length = m.length }; out = m.out }

unfoldable pub write_call : (list images out : List ℕ) → WriteLeft
write_call list images out = write_by (make_of list images out)
