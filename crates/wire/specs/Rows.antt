-- The rows of document 01's refusals that packets give out, and the row of each.
use Rattle.std.specs.Prelude.{ℕ, Result, Ok, Err}
use Rattle.wire.specs.declared.verdict.PacketRefusal.{PacketRefusal}
use Rattle.wire.specs.declared.verdict.PacketRefusal.TheVariants.{P1, P2}

-- no refusal, or row P with its number
pub data Row : Type 0 where
  served : Row
  row_p : ℕ → Row

-- the number of a refusal's row
abbrev pub number_of : PacketRefusal → ℕ
number_of P1 = 1
number_of P2 = 2

abbrev pub row_of : PacketRefusal → Row
row_of e = row_p (number_of e)

-- the number of an answer's row, or 0 where no row refuses
abbrev pub row_number : Row → ℕ
row_number served = 0
row_number (row_p k) = k

-- what a build or a read answers: its row, and the bytes or the fields
pub record Told (A : Type 0) : Type 0 where
  pub row : Row
  pub value : A

-- the same, of what the code answers: `zeros` stands where a row refuses
abbrev pub told : {A : Type 0} → (zeros : A) → Result A PacketRefusal → Told A
told zeros (Ok x) = record { row = served; value = x }
told zeros (Err e) = record { row = row_of e; value = zeros }
