-- The writer's answer as it crosses to C. Assumes nothing.
use mathlib.Core.Path.{◌≡◌, refl, ap}
use mathlib.Core.List.{List}
use Rattle.std.specs.Prelude.{Result, Ok, Err}
use Prim.Native.Nat.{ℕ, ◌+◌}
use Rattle.bundle_writer.specs.declared.WriteRefusal.{WriteRefusal}
use Rattle.bundle_writer.specs.Rows.{number_of}
use Rattle.bundle_writer.specs.declared.rows.WriteRow.{WriteRow}
use Rattle.bundle_writer.specs.declared.rows.WriteRow.TheVariants.{W1, W2, W3, W4, W5, W6, W7, W8}
use Rattle.bundle_writer.specs.Answer.{told, make_of}
use Rattle.c_types.specs.declared.types.CWritten.{CWritten}
use Rattle.c_types.specs.Numbers.{served_number, letter_w, lettered_of}
use Rattle.c_writer.specs.Write.{told_write, write_by, write_call}

-- the number of a row
pub row_number : (v : WriteRow) → lettered_of letter_w (number_of v) ≡ letter_w + number_of v
row_number W1 = refl
row_number W2 = refl
row_number W3 = refl
row_number W4 = refl
row_number W5 = refl
row_number W6 = refl
row_number W7 = refl
row_number W8 = refl

-- the writer's answer, as it crosses
abbrev written_as : Result ℕ WriteRefusal → CWritten
written_as (Ok length) = record { number = served_number; entry = 0; length = length }
written_as (Err r) = record { number = letter_w + number_of r.row; entry = r.place; length = 0 }

-- and the output as it left it
pub write_left : (list images out left : List ℕ) (r : Result ℕ WriteRefusal) → told r left ≡ make_of list images out
    → told_write (written_as r) left ≡ write_call list images out
unfolding write_call
write_left list images out left (Ok length) e = ap write_by e
write_left list images out left (Err r) e = ap write_by e
