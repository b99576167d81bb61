-- What `any` and `pairs` say of the members of a list, and lists that look alike. Assumes nothing.
use mathlib.Core.Path.{◌≡◌, refl, ap, ap₂}
use mathlib.Core.Bool.{Bool, false, ◌||◌}
use mathlib.Core.List.{List, [], ◌∷◌, map}
use Prim.Native.Nat.{ℕ, zero, suc, ◌<◌}
use native.Mathlib.Nat.{not-suc-le-zero, le_of_suc-le-suc}
use lib.ListN.{length, take, get_or}
use Rattle.wire.specs.Checks.{any, pairs}
use Rattle.wire.proofs.Tests.{neither}
use Rattle.device_component.specs.Lists.{first_from}

module _ {A : Type 0} (d : A) where
  -- where p holds of no member, it does not hold of the member at k
  pub any_none : (p : A → Bool) (l : List A) → any p l ≡ false → (k : ℕ) → k < length l → p (get_or l k d) ≡ false
  unfolding any
  any_none p [] e k h = absurd (not-suc-le-zero h)
  any_none p (x ∷ l) e zero h = (neither (p x) _ e).0
  any_none p (x ∷ l) e (suc k) h = any_none p l (neither (p x) _ e).1 k (le_of_suc-le-suc h)

  -- where q holds of no two members, it does not hold of the member at i and a later one
  pub pairs_none : (q : A → A → Bool) (l : List A) → pairs q l ≡ false → (i j : ℕ) → i < j → j < length l → q (get_or l i d) (get_or l j d) ≡ false
  unfolding pairs
  pairs_none q [] e i j h k = absurd (not-suc-le-zero k)
  pairs_none q (x ∷ l) e i zero h k = absurd (not-suc-le-zero h)
  pairs_none q (x ∷ l) e zero (suc j) h k = any_none (q x) l (neither (any (q x) l) _ e).0 j (le_of_suc-le-suc k)
  pairs_none q (x ∷ l) e (suc i) (suc j) h k = pairs_none q l (neither (any (q x) l) _ e).1 i j (le_of_suc-le-suc h) (le_of_suc-le-suc k)

module _ {A B : Type 0} (f : A → B) where
  pub map_take : (n : ℕ) (l : List A) → map f (take n l) ≡ take n (map f l)
  map_take zero l = refl
  map_take (suc n) [] = refl
  map_take (suc n) (x ∷ l) = ap (λ (t : List B). f x ∷ t) (map_take n l)

  -- a test that looks at members only through f
  pub any_map : (p : B → Bool) (l : List A) → any (λ (x : A). p (f x)) l ≡ any p (map f l)
  unfolding any
  any_map p [] = refl
  any_map p (x ∷ l) = ap (λ (b : Bool). p (f x) || b) (any_map p l)

  pub pairs_map : (q : B → B → Bool) (l : List A) → pairs (λ (x y : A). q (f x) (f y)) l ≡ pairs q (map f l)
  unfolding pairs
  pairs_map q [] = refl
  pairs_map q (x ∷ l) = ap₂ (λ (a b : Bool). a || b) (any_map (q (f x)) l) (pairs_map q l)

  pub first_map : (p : B → Bool) (k : ℕ) (l : List A) → first_from (λ (x : A). p (f x)) k l ≡ first_from p k (map f l)
  unfolding first_from
  first_map p k [] = refl
  first_map p k (x ∷ l) = rw (first_map p (suc k) l)
