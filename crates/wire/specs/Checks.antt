-- Checks in a list: the first that applies answers. Some, every, some two, and the first of a list.
use Rattle.std.specs.Prelude.{Bool, false, cond, ◌||◌, List, [], ◌∷◌}

module _ {A : Type 0} where
  -- the answer of the first check that applies, or `last` where none does
  unfoldable pub first_of : List (Bool × A) → A → A
  first_of [] last = last
  first_of (c ∷ cs) last = cond c.0 c.1 (first_of cs last)

  -- some check applies
  unfoldable pub applies : List (Bool × A) → Bool
  applies [] = false
  applies (c ∷ cs) = c.0 || applies cs

  -- p holds of some member
  unfoldable pub any : (A → Bool) → List A → Bool
  any p [] = false
  any p (x ∷ xs) = p x || any p xs

  -- every member has p
  abbrev pub All : (A → Type 0) → List A → Type 0
  All p [] = Unit {0}
  All p (x ∷ xs) = p x × All p xs

  -- q holds of some member and a later one
  unfoldable pub pairs : (A → A → Bool) → List A → Bool
  pairs q [] = false
  pairs q (x ∷ xs) = any (q x) xs || pairs q xs
