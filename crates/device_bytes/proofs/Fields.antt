-- The fields of a record, by the readers of each. Assumes nothing.
use mathlib.Core.Path.{◌≡◌, refl, sym, ap, ◌∙◌}
use mathlib.Core.Bool.{Bool, true, false}
use mathlib.Core.List.{List}
use Prim.Native.Nat.{ℕ}
use native.Mathlib.Omega.{arith}
use borrow.Author.Tests.{ltb-true}
use lib.Dec.{eqb, ltb}
use lib.ListN.{length, set, drop}
use lib.Seq.{get_or-set_same}
use Rattle.wire.specs.Codes.{component_limit}
use Rattle.wire.proofs.Tests.{both}
use Rattle.device_component.specs.Lists.{component_at}
use Rattle.device_component.specs.Record.{blank_component}
use Rattle.device_component.specs.declared.record.Component.{Component}
use Rattle.device_bytes.specs.Layout.{components_start, device_size, has_slot, platform_in, count_in, session_in, device_in, with_component_bytes}
use Rattle.device_bytes.proofs.Record.{components_full}
use Rattle.device_bytes.proofs.Stored.{component_stays}

-- there are as many components as the limit
pub full_in : (b : List ℕ) → length (device_in b).components ≡ component_limit
unfolding device_in
full_in b = components_full (drop components_start b)

-- how many of them are in use
pub count_read : (b : List ℕ) → (device_in b).count ≡ count_in b
unfolding device_in
count_read b = refl

-- the platform, and the session
pub platform_read : (b : List ℕ) → platform_in b ≡ (device_in b).platform
unfolding device_in
platform_read b = refl

pub session_read : (b : List ℕ) → session_in b ≡ (device_in b).session
unfolding device_in
session_read b = refl

-- the component that a list holds in a slot where it was put there
pub same_slot : (slot : ℕ) (c : Component) (l : List Component) (b : List ℕ) → length l ≡ component_limit → with_component_bytes slot (component_at (set l slot c) slot) b ≡ with_component_bytes slot c b
same_slot slot c l b full = go (has_slot slot b) refl
  where
    go : (t : Bool) → has_slot slot b ≡ t → with_component_bytes slot (component_at (set l slot c) slot) b ≡ with_component_bytes slot c b
    go true h =
        let k = ltb-true slot component_limit (both (eqb (length b) device_size) (ltb slot component_limit) h).1 in
        ap (λ (x : Component). with_component_bytes slot x b) (get_or-set_same l slot c blank_component (omega arith))
    go false h = sym (component_stays slot (component_at (set l slot c) slot) b h) ∙ component_stays slot c b h
