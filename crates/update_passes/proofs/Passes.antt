-- The passes: the set that they reach is the smallest closed one, in few passes and packets. Assumes nothing.
use Prim.Native.Nat.{ℕ, zero, suc, ◌+◌, ◌≤◌, ◌<◌}
use native.Mathlib.Nat.{mul-le-mul_right}
use native.Mathlib.Omega.{arith}
use mathlib.Core.Bool.{Bool, true, false, not, ◌&&◌}
use mathlib.Core.List.{List, [], ◌∷◌}
use lib.Dec.{T, eqb}
use lib.ListN.{length}
use Rattle.wire.specs.Checks.{any}
use Rattle.update_passes.specs.Sets.{Set, Sub, weight, one}
use Rattle.update_passes.specs.Passes.{Offers, Passes, opened, unpassed, one_pass, onward, again, repeat, passes_of, Closed, Monotone, PassesReach, NeedMonotone}
use Rattle.update_passes.proofs.Tests.{cond_cases, or_inl, or_inr, or_cases, and_r}
use Rattle.update_passes.proofs.Sets.{weight_all, weight_full}
use Rattle.update_passes.proofs.Pass.{pass_least, pass_closed, pass_sent, pass_counts}

module _ (y : Offers) (os : List ℕ) where
  -- no more passes than allowed
  repeat_passes : (f : ℕ) (r : Passes) → (repeat y os f r).passes ≤ r.passes + f
  unfolding repeat onward
  repeat_passes zero r = omega arith
  repeat_passes (suc f) r =
      cond_cases (λ (r' : Passes). r'.passes ≤ r.passes + suc f) (again y os r) (λ t. omega (arith, repeat_passes f (onward y os r))) (λ t. omega arith)

  -- no more records than those that landed
  repeat_sent : (f : ℕ) (r : Passes)
      → (repeat y os f r).sent + weight y.records r.set os ≤ r.sent + weight y.records (repeat y os f r).set os
  unfolding repeat onward one_pass
  repeat_sent zero r = omega arith
  repeat_sent (suc f) r =
      cond_cases (λ (r' : Passes). r'.sent + weight y.records r.set os ≤ r.sent + weight y.records r'.set os) (again y os r)
      (λ t. omega (arith, repeat_sent f (onward y os r), one_more)) (λ t. one_more)
    where
      one_more : (onward y os r).sent + weight y.records r.set os ≤ r.sent + weight y.records (onward y os r).set os
      one_more = omega (arith, pass_sent y os (opened r.set))

  module _ (mono : Monotone y) where
    -- inside every closed set
    repeat_least : (C : Set) → Closed y os C → (f : ℕ) (r : Passes) → Sub r.set C → Sub (repeat y os f r).set C
    unfolding repeat onward one_pass
    repeat_least C closed zero r sub = sub
    repeat_least C closed (suc f) r sub =
        cond_cases (λ (r' : Passes). Sub r'.set C) (again y os r) (λ t. repeat_least C closed f (onward y os r) more) (λ t. more)
      where
        more : Sub (onward y os r).set C
        more = pass_least y mono os C closed (opened r.set) sub

    -- closed, once as many passes are allowed as offers are missing
    repeat_closed : (f : ℕ) (r : Passes) → length os ≤ weight one r.set os + f → Closed y os (repeat y os f r).set
    unfolding repeat onward one_pass
    repeat_closed zero r h = λ i m e t. weight_full r.set os (omega arith) i m
    repeat_closed (suc f) r h =
        cond_cases (λ (r' : Passes). Closed y os r'.set) (again y os r)
        (λ t. repeat_closed f (onward y os r) (omega (arith, counts t)))
        (pass_closed y mono os (opened r.set))
      where
        counts : T (again y os r) → weight one r.set os < weight one (onward y os r).set os
        counts t =
            pass_counts y os (opened r.set) tt (and_r (one_pass y os r.set).skipped (one_pass y os r.set).landed t)

-- what the passes come to
pub passes_reach : PassesReach
unfolding passes_of
passes_reach y os mono =
    record {
      closed = repeat_closed y os mono (length os) unpassed (omega arith);
      least = λ C closed. repeat_least y os mono C closed (length os) unpassed (λ k t. absurd t);
      few = few;
      bound = omega (arith, repeat_sent y os (length os) unpassed, weight_all y.records (passes_of y os).set os, mul-le-mul_right (length os + 2) few);
    }
  where
    few : (passes_of y os).passes ≤ length os
    few = omega (arith, repeat_passes y os (length os) unpassed)

-- a test that holds of more members
some_mono : (os : List ℕ) (p q : ℕ → Bool) → ((j : ℕ) → T (p j) → T (q j)) → T (any p os) → T (any q os)
unfolding any
some_mono [] p q h t = t
some_mono (j ∷ js) p q h t =
    or_cases (p j) (any p js) (λ z. or_inl (q j) (any q js) (h j z)) (λ z. or_inr (q j) (any q js) (some_mono js p q h z)) t

-- a test that holds in more cases
and_mono : (a b c : Bool) → (T a → T b) → T (a && c) → T (b && c)
and_mono true true c h t = t
and_mono true false c h t = h tt
and_mono false b c h t = elim t [ ]

-- a need that a set meets, a larger set meets
pub need_monotone : NeedMonotone
need_monotone start gives os eligible records A B sub i t =
    or_cases (start i) (any (λ j. A j && (not (eqb j i) && gives j i)) os)
    (or_inl (start i) (any (λ j. B j && (not (eqb j i) && gives j i)) os))
    (λ z. or_inr (start i) (any (λ j. B j && (not (eqb j i) && gives j i)) os)
    (some_mono os (λ j. A j && (not (eqb j i) && gives j i)) (λ j. B j && (not (eqb j i) && gives j i))
    (λ j. and_mono (A j) (B j) (not (eqb j i) && gives j i) (sub j)) z)) t
