-- What the writer answers, and what it leaves of the output: untouched by a refusal, and otherwise the bundle, with every byte past it as it was.
use Rattle.std.specs.Prelude.{Result, Ok, Err, ℕ, List, ◌++◌, length, drop}
use Rattle.bundle_writer.specs.declared.WriteRefusal.{WriteRefusal}
use Rattle.bundle_writer.specs.Bundle.{made_bundle}
use Rattle.bundle_writer.specs.Rows.{Row, served, row_w, row_of, write_row}

-- l with `bytes` for its first ones
abbrev pub over : (bytes l : List ℕ) → List ℕ
over bytes l = bytes ++ drop (length bytes) l

-- the row, the entry that it names, the length of the bundle, 0 where a row refuses, and the output
pub record Made : Type 0 where
  pub row : Row
  pub place : ℕ
  pub length : ℕ
  pub out : List ℕ

abbrev pub made_by : Row → (list images out : List ℕ) → Made
made_by served list images out = record {
  row = served;
  place = 0;
  length = length (made_bundle list images);
  out = over (made_bundle list images) out;
}
made_by (row_w k entry) list images out = record { row = row_w k entry; place = entry; length = 0; out = out }

-- the writer
unfoldable pub make_of : (list images out : List ℕ) → Made
make_of list images out = made_by (write_row list images (length out)) list images out

-- an answer of the code in these terms, with the output as it was left
abbrev pub told : Result ℕ WriteRefusal → (out : List ℕ) → Made
told (Ok length) out = record { row = served; place = 0; length = length; out = out }
told (Err r) out = record { row = row_of r; place = r.place; length = 0; out = out }
