-- The components in use, and where one stands.
use Rattle.std.specs.Prelude.{ℕ, suc, Bool, cond, List, [], ◌∷◌, eqb, take, get_or, Option, Some, None}
use Rattle.device_component.specs.Record.{blank_component}
use Rattle.device_component.specs.declared.record.Component.{Component}

-- the place of the first of which p holds, the first place being k
unfoldable pub first_from : {A : Type 0} → (A → Bool) → ℕ → List A → Option ℕ
first_from p k [] = None
first_from p k (x ∷ xs) = cond (p x) (Some k) (first_from p (suc k) xs)

-- the slot of the component with this id, among the first `count`
unfoldable pub find : (id count : ℕ) → List Component → Option ℕ
find id count components = first_from (λ c. eqb id c.fixed.id) 0 (take count components)

-- the component in a slot
abbrev pub component_at : List Component → ℕ → Component
component_at components k = get_or components k blank_component
