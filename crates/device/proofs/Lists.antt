-- Laws of lists that the device's events need: one member set, and the first ones replaced by their images. Assumes nothing.
use mathlib.Core.Path.{◌≡◌, refl, sym, ap, ◌∙◌}
use mathlib.Core.Bool.{Bool, false}
use mathlib.Core.List.{List, [], ◌∷◌, ◌++◌, map, map-map, map-append}
use Prim.Native.Nat.{ℕ, zero, suc, ◌≤◌, ◌<◌}
use native.Mathlib.Nat.{not-suc-le-zero, le_of_suc-le-suc}
use lib.ListN.{length, take, drop, set, get_or, length-map, take-append-drop}
use lib.Seq.{take_at, length-take-le}
use Rattle.wire.specs.Checks.{any}
use Rattle.device_component.specs.Record.{blank_component, after_reset}
use Rattle.device_component.specs.Lists.{component_at}
use Rattle.device_component.specs.declared.record.Component.{Component}
use Rattle.device_component.specs.declared.record.Fixed.{Fixed}
use Rattle.device_component.proofs.setup.Laws.{seen}
use Rattle.device_slots.specs.Slots.{reset_components}
use Rattle.wire.proofs.Tests.{neither}

module _ {A : Type 0} where
  -- what holds of no value holds of no member
  pub any_never : (l : List A) → any (λ a. false) l ≡ false
  unfolding any
  any_never [] = refl
  any_never (x ∷ l) = any_never l

  -- what holds of no member holds of none after one is set to a value of which it does not hold
  pub any_set : (p : A → Bool) (l : List A) (i : ℕ) (y : A) → p y ≡ false → any p l ≡ false → any p (set l i y) ≡ false
  unfolding any
  any_set p [] i y h k = k
  any_set p (x ∷ l) zero y h k = rw h (neither (p x) (any p l) k).1
  any_set p (x ∷ l) (suc i) y h k = let n = neither (p x) (any p l) k in rw n.0 (any_set p l i y h n.1)

  -- what is said of every place of a list is said of every place after one is set to a value of which it is said
  pub each_set : (P : A → Type 0) (l : List A) (i : ℕ) (y z : A) → P y → ((k : ℕ) → P (get_or l k z)) → (k : ℕ) → P (get_or (set l i y) k z)
  each_set P [] i y z h f k = f k
  each_set P (x ∷ l) zero y z h f zero = h
  each_set P (x ∷ l) zero y z h f (suc k) = f (suc k)
  each_set P (x ∷ l) (suc i) y z h f zero = f zero
  each_set P (x ∷ l) (suc i) y z h f (suc k) = each_set P l i y z h (λ j. f (suc j)) k

  -- what is said of every place of a list, and kept by f, is said of every place after the first n are replaced by their images
  pub each_front : (P : A → Type 0) (f : A → A) (z : A) → ((a : A) → P a → P (f a)) → (n : ℕ) (l : List A)
      → ((k : ℕ) → P (get_or l k z)) → (k : ℕ) → P (get_or (map f (take n l) ++ drop n l) k z)
  each_front P f z g zero l h k = h k
  each_front P f z g (suc n) [] h k = h k
  each_front P f z g (suc n) (x ∷ l) h zero = g x (h zero)
  each_front P f z g (suc n) (x ∷ l) h (suc k) = each_front P f z g n l (λ j. h (suc j)) k

-- what holds of none of the first n components, nor of the blank one, holds of none below n
pub none_below : (p : Component → Bool) (n : ℕ) (cs : List Component) (k : ℕ) → p blank_component ≡ false → k < n → any p (take n cs) ≡ false → p (component_at cs k) ≡ false
unfolding any
none_below p zero cs k h l e = absurd (not-suc-le-zero l)
none_below p (suc n) [] k h l e = h
none_below p (suc n) (c ∷ cs) zero h l e = (neither (p c) _ e).0
none_below p (suc n) (c ∷ cs) (suc k) h l e = none_below p n cs k h (le_of_suc-le-suc l) (neither (p c) _ e).1

-- a reset keeps what set-up looks at
pub reset_seen : (n : ℕ) (l : List Component) → map seen (reset_components n l) ≡ map seen l
reset_seen n l =
    map-append seen (map after_reset (take n l)) (drop n l)
    ∙ ap (λ (t : List Fixed). t ++ map seen (drop n l)) (map-map seen after_reset (take n l))
    ∙ sym (map-append seen (take n l) (drop n l)) ∙ ap (map seen) (take-append-drop n l)

-- the components in use after a reset
pub reset_take : (n : ℕ) (l : List Component) → n ≤ length l → take n (reset_components n l) ≡ map after_reset (take n l)
reset_take n l h = take_at (map after_reset (take n l)) (drop n l) n (length-map (take n l) after_reset ∙ length-take-le n l h)
