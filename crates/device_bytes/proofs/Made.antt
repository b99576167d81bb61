-- An array that `from_fn` made, by a closure that computes a function of the place. Assumes nothing.
use Rattle.std.proofs.Common.{◌≡◌, ℕ, zero, suc, ◌+◌, ◌≤◌, ◌<◌, List, length, get_or, sym, ◌∙◌, refl, subst, ◌⊎◌, inl, inr, arith}
use Rattle.std.proofs.lemmas.Bool.{cases_lt}
use Rattle.std.proofs.lemmas.List.{ext_get_or}
use Rattle.std.specs.Array.{IsFromFnResultFrom, IsFromFnResult}
use Rattle.std.specs.Fn.{Called}
use denote.Param.Members.{Mut}

module _ {F B : Type 0} (h : ℕ → B) (e : B) (ys : List B) (g : Mut F (ℕ × Unit {0}) B) (f : F) (by : (i : ℕ) (y : B) (q : F) → Called g f (i, tt) y q → (q ≡ f) × (y ≡ h i)) where
  each : (n i : ℕ) (p : F) → p ≡ f → IsFromFnResultFrom g p ys i n → (j : ℕ) → i ≤ j → j < i + n → get_or ys j e ≡ h j
  each zero i p s m j l u = absurd (omega arith)
  each (suc n) i p s m j l u =
      let r = by i m.1 m.0 (subst (λ (t : F). Called g t (i, tt) m.1 m.0) s m.3) in
      go r.1 (λ a. each n (i + 1) m.0 r.0 m.4 j a (omega arith)) (cases_lt i j)
    where
      go : m.1 ≡ h i → (i + 1 ≤ j → get_or ys j e ≡ h j) → (i < j) ⊎ (j ≤ i) → get_or ys j e ≡ h j
      go r later (inl a) = later (omega arith)
      go r later (inr b) = let z : j ≡ i = omega arith in rw z (m.2.1 e ∙ r)

  -- it is the list that has the function's value at each place
  pub made : (n : ℕ) (zs : List B) → length zs ≡ n → ((i : ℕ) → i < n → get_or zs i e ≡ h i) → IsFromFnResult g f ys n → ys ≡ zs
  made n zs k at m =
      ext_get_or e ys zs (m.long ∙ sym k) (λ i l. each n 0 f refl m.each i (omega arith) (omega (arith, m.long)) ∙ sym (at i (omega (arith, m.long))))
