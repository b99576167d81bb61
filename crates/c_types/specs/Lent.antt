-- What a call leaves in a lent buffer.
use Rattle.std.specs.Prelude.{ℕ, List}

-- a call's number, and what it leaves in one lent buffer
pub record Left : Type 0 where
  pub number : ℕ
  pub left : List ℕ

abbrev pub leaves : (number : ℕ) → List ℕ → Left
leaves number left = record { number = number; left = left }
