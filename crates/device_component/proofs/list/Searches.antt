-- What the walks over a list answer: the first place that passes, one that passes. Assumes nothing.
use Rattle.std.proofs.Common.{◌≡◌, ℕ, suc, ◌+◌, Bool, true, false, ◌||◌, cond, ltb, List, [], ◌∷◌, length, Some, None, refl, ◌∙◌, ap, zero-add, arith}
use Rattle.std.specs.List.{position_or_len, list_any}
use Rattle.std.proofs.lemmas.Bool.Decides.{nat_tests}
use Rattle.wire.specs.Checks.{any}
use Rattle.device_component.specs.Lists.{first_from}

at_first : (n k : ℕ) → cond (ltb 0 (suc n)) (Some (k + 0)) None ≡ Some k
at_first n k = grind (arith, nat_tests)

at_later : (i n k : ℕ) → cond (ltb (1 + i) (suc n)) (Some (k + (1 + i))) None ≡ cond (ltb i n) (Some (suc k + i)) None
at_later i n k = grind (arith, nat_tests)

module _ {A : Type 0} where
  pub any_listed : (p : A → Bool) (l : List A) → list_any p l ≡ any p l
  unfolding any
  any_listed p [] = refl
  any_listed p (x ∷ l) = ap (λ (b : Bool). p x || b) (any_listed p l)

  -- the first place that passes, counted from k
  first_place : (p : A → Bool) (k : ℕ) (l : List A) → cond (ltb (position_or_len p l) (length l)) (Some (k + position_or_len p l)) None ≡ first_from p k l
  unfolding first_from
  first_place p k [] = refl
  first_place p k (x ∷ l) = go (p x) refl (first_place p (suc k) l) where
    go : (b : Bool) → p x ≡ b → cond (ltb (position_or_len p l) (length l)) (Some (suc k + position_or_len p l)) None ≡ first_from p (suc k) l
        → cond (ltb (position_or_len p (x ∷ l)) (length (x ∷ l))) (Some (k + position_or_len p (x ∷ l))) None ≡ first_from p k (x ∷ l)
    go true e h = rw e (at_first (length l) k)
    go false e h = rw e (at_later (position_or_len p l) (length l) k ∙ h)

  pub first_at : (p : A → Bool) (l : List A) → cond (ltb (position_or_len p l) (length l)) (Some (position_or_len p l)) None ≡ first_from p 0 l
  first_at p l = rw zero-add at (first_place p 0 l)
