-- One pass: what its answers keep, and what it leaves. Assumes nothing.
use Prim.Native.Nat.{ℕ, ◌+◌, ◌≤◌, ◌<◌}
use native.Mathlib.Omega.{arith}
use mathlib.Core.Path.{refl}
use mathlib.Core.Logic.{◌⊎◌, inl, inr, ⊎_elim}
use mathlib.Core.Bool.{not, ◌&&◌, ◌||◌}
use mathlib.Core.List.{List, [], ◌∷◌}
use lib.Dec.{T, T_not}
use Rattle.update_passes.specs.Sets.{Set, Sub, In, weight, one}
use Rattle.update_passes.specs.Passes.{Offers, Pass, lands, skips, answered, pass_over, Closed, Monotone}
use Rattle.update_passes.proofs.Tests.{cond_cases, or_cases, nor_l, nor_r, not_not, nand}
use Rattle.update_passes.proofs.Sets.{ins_old, ins_new, ins_sub, weight_ins}

module _ (y : Offers) where
  -- what holds after an answer, by the three answers
  pub answer_cases : (P : Pass → Type 0) (p : Pass) (i : ℕ) → ((T (y.eligible i) → T (p.set i)) → P p)
      → (T (not (p.set i)) → T (y.eligible i) → T (y.met p.set i) → P (lands y p i))
      → (T (not (y.met p.set i)) → P (skips p)) → P (answered y p i)
  unfolding answered
  answer_cases P p i r a k =
      cond_cases P (p.set i || not (y.eligible i))
      (λ t. r (or_cases (p.set i) (not (y.eligible i)) (λ z e. z) (λ z e. absurd (T_not (y.eligible i) z e)) t))
      (λ t. cond_cases P (y.met p.set i)
      (a (nor_l (p.set i) (not (y.eligible i)) t) (not_not (y.eligible i) (nor_r (p.set i) (not (y.eligible i)) t))) k)

  -- what each answer keeps, a pass keeps
  pub pass_keeps : (P : Pass → Type 0) (os : List ℕ) → ((p : Pass) (i : ℕ) → In i os → P p → P (answered y p i)) → (p : Pass) → P p
      → P (pass_over y os p)
  unfolding pass_over
  pass_keeps P [] h p q = q
  pass_keeps P (i ∷ is) h p q = pass_keeps P is (λ p' j m. h p' j (inr m)) (answered y p i) (h p i (inl refl) q)

  -- the set grows
  answer_grows : (p : Pass) (i : ℕ) → Sub p.set (answered y p i).set
  answer_grows p i = answer_cases (λ p'. Sub p.set p'.set) p i (λ r k t. t) (λ n e t. ins_old p.set i) (λ n k t. t)

  -- so it does in a pass
  pass_grows : (os : List ℕ) (p : Pass) → Sub p.set (pass_over y os p).set
  pass_grows os p = pass_keeps (λ p'. Sub p.set p'.set) os (λ p' i m h k t. answer_grows p' i k (h k t)) p (λ k t. t)

  -- a skip stays noted
  pass_skips : (os : List ℕ) (p : Pass) → T p.skipped → T (pass_over y os p).skipped
  pass_skips os p t =
      pass_keeps (λ p'. T p'.skipped) os (λ p' i m h. answer_cases (λ p''. T p''.skipped) p' i (λ r. h) (λ n e z. h) (λ z. tt)) p t

  -- with no landing the set stays
  pass_still : (os : List ℕ) (p : Pass) → T (not (pass_over y os p).landed) → Sub (pass_over y os p).set p.set
  pass_still os p =
      pass_keeps (λ p'. T (not p'.landed) → Sub p'.set p.set) os
      (λ p' i m h. answer_cases (λ p''. T (not p''.landed) → Sub p''.set p.set) p' i (λ r. h) (λ n e z. λ t. absurd t) (λ z. h)) p
      (λ t k z. z)

  -- inside every closed set
  pub pass_least : Monotone y → (os : List ℕ) (C : Set) → Closed y os C → (p : Pass) → Sub p.set C → Sub (pass_over y os p).set C
  pass_least mono os C closed p sub =
      pass_keeps (λ p'. Sub p'.set C) os
      (λ p' i m h. answer_cases (λ p''. Sub p''.set C) p' i (λ r. h)
      (λ n e t. ins_sub p'.set C i h (closed i m e (mono p'.set C h i t))) (λ t. h)) p sub

  -- after a pass an eligible offer is a member, or it was skipped, when its need was not met
  abbrev Dealt : Set → Pass → ℕ → Type 0
  Dealt S p i = T (p.set i) ⊎ (T p.skipped × (T (y.met S i) → ⊥))

  -- so it is for every offer of the list
  pass_deals : Monotone y → (os : List ℕ) (p : Pass) (i : ℕ) → In i os → T (y.eligible i) → Dealt p.set (pass_over y os p) i
  unfolding pass_over
  pass_deals mono [] p i m e = absurd m
  pass_deals mono (j ∷ js) p i (inl q) e =
      rw (← q)
      (answer_cases (λ p'. Dealt p.set (pass_over y js p') i) p i
      (λ r. inl (pass_grows js p i (r e)))
      (λ n z t. inl (pass_grows js (lands y p i) i (ins_new p.set i)))
      (λ t. inr (pass_skips js (skips p) tt, T_not (y.met p.set i) t)))
  pass_deals mono (j ∷ js) p i (inr m) e =
      ⊎_elim inl (λ h. inr (h.0, λ t. h.1 (mono p.set (answered y p j).set (answer_grows p j) i t)))
      (pass_deals mono js (answered y p j) i m e)

  -- a pass with no skip, or with no landing, leaves a closed set
  pub pass_closed : Monotone y → (os : List ℕ) (p : Pass) → T (not ((pass_over y os p).skipped && (pass_over y os p).landed))
      → Closed y os (pass_over y os p).set
  pass_closed mono os p stop i m e t =
      ⊎_elim (λ h. h)
      (λ h. absurd (nand (pass_over y os p).skipped (pass_over y os p).landed (λ z. T_not (pass_over y os p).skipped z h.0)
      (λ z. h.1 (mono (pass_over y os p).set p.set (pass_still os p z) i t)) stop))
      (pass_deals mono os p i m e)

  -- what is sent is what is new in the set
  pub pass_sent : (os : List ℕ) (p : Pass)
      → (pass_over y os p).sent + weight y.records p.set os ≤ p.sent + weight y.records (pass_over y os p).set os
  pass_sent os p =
      pass_keeps P os
      (λ p' i m h. answer_cases P p' i (λ r. h) (λ n e t. omega (arith, h, weight_ins y.records p'.set i n os m)) (λ t. h)) p (omega arith)
    where
      P : Pass → Type 0
      P p' = p'.sent + weight y.records p.set os ≤ p.sent + weight y.records p'.set os

  -- a landing is a new member
  pub pass_counts : (os : List ℕ) (p : Pass) → T (not p.landed) → T (pass_over y os p).landed
      → weight one p.set os < weight one (pass_over y os p).set os
  pass_counts os p z =
      (pass_keeps P os
      (λ p' i m h. answer_cases P p' i (λ r. h)
      (λ n e t. (omega (arith, h.0, weight_ins one p'.set i n os m), λ q. omega (arith, h.0, weight_ins one p'.set i n os m))) (λ t. h)) p
      (omega arith, λ t. absurd (T_not p.landed z t))).1
    where
      P : Pass → Type 0
      P p' = (weight one p.set os ≤ weight one p'.set os) × (T p'.landed → weight one p.set os < weight one p'.set os)
