-- Where a component is found: in a listed slot that has its id, and, where ids do not repeat, in the only one. Assumes nothing.
use mathlib.Core.Path.{◌≡◌, refl, sym, ap, ◌∙◌}
use mathlib.Core.Bool.{Bool, true, false}
use mathlib.Core.List.{List, [], ◌∷◌, map}
use Prim.Native.Nat.{ℕ, suc, ◌+◌, ◌-◌, ◌≤◌, ◌<◌}
use native.Mathlib.Nat.{sub-zero, min-le_left, min-le_right}
use native.Mathlib.Decide.{dec_lt}
use native.Mathlib.Omega.{arith}
use borrow.Author.Tests.{eqb-true, eqb-false}
use lib.Dec.{eqb}
use lib.ListN.{length, take, get_or, length-take}
use lib.Seq.{get_or-take}
use Rattle.wire.specs.Checks.{any}
use Rattle.device_component.specs.Record.{blank_component}
use Rattle.device_component.specs.Lists.{first_from, find, component_at}
use Rattle.device_component.specs.Setup.{bad_id, bad_ids}
use Rattle.device_component.specs.declared.record.Component.{Component}
use Rattle.std.specs.Prelude.{Option, Some, None, is_some}
use Rattle.device_component.proofs.list.Loops.{at_any}
use Rattle.wire.proofs.Tests.{neither}
use Rattle.device_component.proofs.list.Members.{any_none, pairs_none, map_take, first_map}

-- what is found is a member of which p holds
found : {A : Type 0} (d : A) (p : A → Bool) (i : ℕ) (l : List A) (k : ℕ) → first_from p i l ≡ Some k → (i ≤ k) × (k < i + length l) × (p (get_or l (k - i) d) ≡ true)
unfolding first_from
found d p i [] k e = let z : ◌≡◌ {A = ℕ} 0 1 = cc in absurd (omega arith)
found d p i (x ∷ l) k e = go (p x) refl (found d p (suc i) l k) where
  go : (b : Bool) → p x ≡ b → (first_from p (suc i) l ≡ Some k → (suc i ≤ k) × (k < suc i + length l) × (p (get_or l (k - suc i) d) ≡ true))
      → (i ≤ k) × (k < i + length (x ∷ l)) × (p (get_or (x ∷ l) (k - i) d) ≡ true)
  go true t rest =
      let same : Some i ≡ Some k = rw t at e in
      let q : i ≡ k = cc in
      let z : k - i ≡ 0 = omega arith in
      (omega arith, omega arith, rw z t)
  go false t rest =
      let r = rest (rw t at e) in
      let z : k - i ≡ suc (k - suc i) = omega arith in
      (omega arith, omega arith, rw z r.2)

-- what a listed slot is
module _ (count : ℕ) (components : List Component) (k : ℕ) where
  -- a slot of the components in use is a listed one
  pub slot_listed : k < length (take count components) → (k < count) × (k < length components)
  slot_listed h = (
    omega (arith, length-take count components, min-le_left count (length components)),
    omega (arith, length-take count components, min-le_right count (length components)),
  )

  -- a listed slot is one of the components in use
  pub slot_taken : k < count → k < length components → k < length (take count components)
  slot_taken h h' = omega (arith, length-take count components)

module _ (id count : ℕ) (components : List Component) where
  -- the slot that is found is listed, and has the id
  pub find_at : (k : ℕ) → find id count components ≡ Some k → (k < count) × (k < length components) × ((component_at components k).fixed.id ≡ id)
  unfolding find
  find_at k e =
      let f = found blank_component (λ c. eqb id c.fixed.id) 0 (take count components) k e in
      let s = slot_listed count components k (omega (arith, f.1)) in
      let g = rw (sub-zero, get_or-take count components k blank_component s.0) at f.2 in
      (s.0, s.1, sym (eqb-true id (component_at components k).fixed.id g))

  -- where none is found, no listed slot has the id
  pub find_none : find id count components ≡ None → (k : ℕ) → k < count → k < length components → (component_at components k).fixed.id ≡ id → ⊥
  unfolding find
  find_none e k h h' q =
      let none : any (λ c. eqb id c.fixed.id) (take count components) ≡ false = sym (at_any (λ c. eqb id c.fixed.id) 0 (take count components)) ∙ ap is_some e in
      eqb-false id (component_at components k).fixed.id
      (rw (get_or-take count components k blank_component h) at (any_none blank_component (λ c. eqb id c.fixed.id) (take count components) none k (slot_taken count components k h h')))
      (sym q)

-- two listed slots with one id are one slot, where no id repeats
pub ids_differ : (count : ℕ) (components : List Component) → bad_ids (take count components) ≡ false
    → (i j : ℕ) → i < count → i < length components → j < count → j < length components → (component_at components i).fixed.id ≡ (component_at components j).fixed.id → i ≡ j
unfolding bad_ids
ids_differ count components e i j i< i<' j< j<' q = go (dec_lt i j) (dec_lt j i) where
  unlike : (m n : ℕ) → m < n → m < count → n < count → n < length components → (component_at components m).fixed.id ≡ (component_at components n).fixed.id → ⊥
  unlike m n h m< n< n<' s =
      eqb-false (component_at components m).fixed.id (component_at components n).fixed.id
      (rw (get_or-take count components m blank_component m<, get_or-take count components n blank_component n<) at
      (pairs_none blank_component (λ c c'. eqb c.fixed.id c'.fixed.id) (take count components) (neither (any (λ c. bad_id c.fixed.id) (take count components)) _ e).1 m n h (slot_taken count components n n< n<')))
      s

  go : Dec (i < j) → Dec (j < i) → i ≡ j
  go (yes h) b = absurd (unlike i j h i< j< j<' q)
  go (no a) (yes h) = absurd (unlike j i h j< i< i<' (sym q))
  go (no a) (no b) = omega arith

-- a listed slot that has the id is the one that is found, where no id repeats
pub find_only : (id count : ℕ) (components : List Component) → bad_ids (take count components) ≡ false
    → (k : ℕ) → k < count → k < length components → (component_at components k).fixed.id ≡ id → find id count components ≡ Some k
find_only id count components e k h h' q = go (find id count components) refl where
  go : (f : Option ℕ) → find id count components ≡ f → find id count components ≡ Some k
  go None t = absurd (find_none id count components t k h h' q)
  go (Some j) t =
      let a = find_at id count components j t in
      let s : j ≡ k = ids_differ count components e j k a.0 a.1 h h' (a.2 ∙ sym q) in
      t ∙ ap Some s

-- lists with the same ids give the same slot
pub find_same : (id count : ℕ) (components components' : List Component) → map (λ c. c.fixed.id) components ≡ map (λ c. c.fixed.id) components' → find id count components ≡ find id count components'
unfolding find
find_same id count components components' e = by_ids components ∙ ap (λ ids. first_from (eqb id) 0 (take count ids)) e ∙ sym (by_ids components') where
  by_ids : (l : List Component) → first_from (λ c. eqb id c.fixed.id) 0 (take count l) ≡ first_from (eqb id) 0 (take count (map (λ c. c.fixed.id) l))
  by_ids l = first_map (λ (c : Component). c.fixed.id) (eqb id) 0 (take count l) ∙ ap (first_from (eqb id) 0) (map_take (λ (c : Component). c.fixed.id) count l)
