-- The owed ready-reply (document 01, "The device").
use Rattle.std.specs.Prelude.{ℕ, ◌<◌, Bool, Option, Some, None, is_some}

-- the values of the type
abbrev pub FitsOwed : Option ℕ → Type 0
FitsOwed None = Unit {0}
FitsOwed (Some t) = t < 256

-- a ready-reply is owed
abbrev pub owes : Option ℕ → Bool
owes owed = is_some owed
