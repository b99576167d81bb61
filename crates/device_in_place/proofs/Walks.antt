-- A walk over the slots in use, by their numbers: what it answers of the components in them. Assumes nothing.
use Rattle.std.proofs.Common.{◌≡◌, ℕ, zero, suc, ◌+◌, ◌-◌, ◌<◌, Bool, true, false, ◌||◌, cond, List, ◌∷◌, length, get_or, take, drop, refl, ap, ◌∙◌, arith}
use Rattle.std.specs.List.{list_any, range_with_len, find}
use Rattle.std.specs.Prelude.{Option, Some, None}
use Rattle.std.specs.Option.{option_map}
use Rattle.wire.specs.Checks.{any, pairs}
use Rattle.device_component.specs.Lists.{first_from}
use Rattle.device_component.proofs.list.Loops.{from_here, from_end}

-- two tests in one walk
regroup : (x a y b : Bool) → ((x || a) || (y || b)) ≡ ((x || y) || (a || b))
regroup true a y b = refl
regroup false true true b = refl
regroup false true false b = refl
regroup false false y b = refl

pub as_found : (r : Option ℕ) → r ≡ option_map (λ x. x) r
as_found None = refl
as_found (Some x) = refl

module _ {A : Type 0} (l : List A) (d : A) (n : ℕ) where
  -- the first slot from i on whose component passes
  pub walk_find : (p : A → Bool) (k i : ℕ) → k ≡ length (take n l) - i → find (λ j. p (get_or l j d)) (range_with_len i k) ≡ first_from p i (drop i (take n l))
  unfolding first_from
  walk_find p zero i e = rw (from_end l n i (omega arith))
  walk_find p (suc k) i e =
      let z : i + 1 ≡ suc i = omega arith in
      rw (from_here l n i d (omega arith))
      (ap (λ (o : Option ℕ). cond (p (get_or l i d)) (Some i) o) (walk_find p k (i + 1) (omega arith) ∙ ap (λ (j : ℕ). first_from p j (drop (i + 1) (take n l))) z))

  pub walk_any : (p : A → Bool) (k i : ℕ) → k ≡ length (take n l) - i → list_any (λ j. p (get_or l j d)) (range_with_len i k) ≡ any p (drop i (take n l))
  unfolding any
  walk_any p zero i e = rw (from_end l n i (omega arith))
  walk_any p (suc k) i e = rw (from_here l n i d (omega arith)) (ap (λ (b : Bool). p (get_or l i d) || b) (walk_any p k (i + 1) (omega arith)))

  -- a test of each, and of each two
  pub walk_each : (p : A → Bool) (q : A → A → Bool) (k i : ℕ) → k ≡ length (take n l) - i
      → list_any (λ j. p (get_or l j d) || any (q (get_or l j d)) (drop (j + 1) (take n l))) (range_with_len i k) ≡ (any p (drop i (take n l)) || pairs q (drop i (take n l)))
  unfolding any pairs
  walk_each p q zero i e = rw (from_end l n i (omega arith))
  walk_each p q (suc k) i e =
      let c = get_or l i d in
      rw (from_here l n i d (omega arith))
      (ap (λ (b : Bool). (p c || any (q c) (drop (i + 1) (take n l))) || b) (walk_each p q k (i + 1) (omega arith)) ∙ regroup (p c) _ _ _)
