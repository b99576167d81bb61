-- An array that `map` made, by a closure that computes a function. Assumes nothing.
use Rattle.std.proofs.Common.{◌≡◌, ℕ, zero, suc, ◌+◌, ◌≤◌, ◌<◌, List, length, get_or, map, sym, ◌∙◌, ap, refl, subst, ◌⊎◌, inl, inr, arith}
use Rattle.std.proofs.lemmas.Bool.{cases_lt}
use lib.ListN.{length-map}
use Rattle.std.proofs.lemmas.List.{get_or-map, ext_get_or}
use Rattle.std.specs.Array.{MapsFrom, IsMapOf}
use Rattle.std.specs.Fn.{Called}
use denote.Param.Members.{Mut}

module _ {F A B : Type 0} (h : A → B) (d : A) (e : B) (xs : List A) (ys : List B) (g : Mut F (A × Unit {0}) B) (f : F)
    (by : (x : A) (y : B) (q : F) → Called g f (x, tt) y q → (q ≡ f) × (y ≡ h x)) where
  each : (n i : ℕ) (p : F) → p ≡ f → MapsFrom g p xs ys i n → (j : ℕ) → i ≤ j → j < i + n → get_or ys j e ≡ h (get_or xs j d)
  each zero i p s m j l u = absurd (omega arith)
  each (suc n) i p s m j l u =
      let r = by m.1 m.2 m.0 (subst (λ (t : F). Called g t (m.1, tt) m.2 m.0) s m.5) in
      go r.1 (λ a. each n (i + 1) m.0 r.0 m.6 j a (omega arith)) (cases_lt i j)
    where
      go : m.2 ≡ h m.1 → (i + 1 ≤ j → get_or ys j e ≡ h (get_or xs j d)) → (i < j) ⊎ (j ≤ i) → get_or ys j e ≡ h (get_or xs j d)
      go r later (inl a) = later (omega arith)
      go r later (inr b) = let z : j ≡ i = omega arith in rw z (m.4.1 e ∙ r ∙ ap h (sym (m.3.1 d)))

  pub mapped : (n : ℕ) → length xs ≡ n → IsMapOf g f xs ys n → ys ≡ map h xs
  mapped n k m =
      ext_get_or e ys (map h xs) (m.long ∙ sym k ∙ sym (length-map xs h)) (λ i l. each n 0 f refl m.each i (omega arith) (omega (arith, m.long)) ∙ sym (get_or-map h xs i d e (omega (arith, m.long))))
