-- Sets of offers, and their weights. Assumes nothing.
use Prim.Native.Nat.{ℕ, zero, suc, ◌+◌, ◌≤◌, ◌<◌}
use native.Mathlib.Decide.{ℕ_discrete}
use native.Mathlib.Omega.{arith}
use mathlib.Core.Path.{◌≡◌, refl, sym, ap, subst}
use mathlib.Core.Logic.{inl, inr}
use mathlib.Core.Bool.{Bool, true, false, not, cond}
use mathlib.Core.List.{List, [], ◌∷◌}
use lib.Dec.{T, eqb, eqb→eq, eqb_refl}
use lib.ListN.{length}
use Rattle.wire.specs.Checks.{any}
use Rattle.update_passes.specs.Sets.{Set, Sub, In, all, ins, from, weight, one}
use Rattle.update_passes.proofs.Tests.{or_inl, or_inr, or_cases, bool_cases, is_true, is_false}

-- one member more: the old ones, the new one, and where it stays inside
pub ins_old : (S : Set) (i : ℕ) → Sub S (ins S i)
ins_old S i k t = or_inr (eqb k i) (S k) t

-- the new member is one
pub ins_new : (S : Set) (i : ℕ) → T (ins S i i)
ins_new S i = or_inl (eqb i i) (S i) (eqb_refl i)

-- where the new member is in C, all of them are
pub ins_sub : (S C : Set) (i : ℕ) → Sub S C → T (C i) → Sub (ins S i) C
ins_sub S C i sub c k t =
    or_cases (eqb k i) (S k) (λ e. subst (λ (n : ℕ). T (C n)) (sym (eqb→eq k i e)) c) (sub k) t

-- the numbers from k on
pub in_from : (m k i : ℕ) → In i (from k m) → (k ≤ i) × (i < k + m)
in_from zero k i h = absurd h
in_from (suc m) k i (inl e) = omega arith
in_from (suc m) k i (inr h) = omega (arith, in_from m (suc k) i h)

-- every number in between is one of them
pub from_in : (m k i : ℕ) → k ≤ i → i < k + m → In i (from k m)
from_in zero k i p q = absurd (omega arith)
from_in (suc m) k i p q = go (ℕ_discrete i k) (λ h. from_in m (suc k) i h (omega arith))
  where
    go : Dec (i ≡ k) → (suc k ≤ i → In i (from (suc k) m)) → In i (from k (suc m))
    go (yes e) h = inl e
    go (no ne) h = inr (h (omega arith))

-- as many as asked
pub length_from : (k m : ℕ) → length (from k m) ≡ m
length_from k zero = refl
length_from k (suc m) = ap suc (length_from (suc k) m)

-- a member of which a test holds
pub record Some (os : List ℕ) (p : ℕ → Bool) : Type 0 where
  pub j : ℕ
  pub listed : In j os
  pub has : T (p j)

-- a test that holds of some member names it
pub some_out : (os : List ℕ) (p : ℕ → Bool) → T (any p os) → Some os p
unfolding any
some_out [] p t = absurd t
some_out (j ∷ js) p t =
    or_cases (p j) (any p js) (λ z. record { j = j; listed = inl refl; has = z })
    (λ z. let s = some_out js p z in record { j = s.j; listed = inr s.listed; has = s.has }) t

-- a test that holds of a member holds of some
pub some_in : (os : List ℕ) (p : ℕ → Bool) (j : ℕ) → In j os → T (p j) → T (any p os)
unfolding any
some_in (k ∷ ks) p j (inl q) t = or_inl (p k) (any p ks) (subst (λ (n : ℕ). T (p n)) q t)
some_in (k ∷ ks) p j (inr m) t = or_inr (p k) (any p ks) (some_in ks p j m t)
some_in [] p j x'' t = elim x'' [ ]

-- weights grow with the set
cond_mono : (a b : Bool) (n : ℕ) → (T a → T b) → cond a n zero ≤ cond b n zero
cond_mono true true n h = omega arith
cond_mono true false n h = absurd (h tt)
cond_mono false true n h = omega arith
cond_mono false false n h = omega arith

-- a larger set weighs no less
pub weight_mono : (f : ℕ → ℕ) (A B : Set) → Sub A B → (os : List ℕ) → weight f A os ≤ weight f B os
weight_mono f A B sub [] = omega arith
weight_mono f A B sub (i ∷ is) = omega (arith, weight_mono f A B sub is, cond_mono (A i) (B i) (f i) (sub i))

-- a new member adds its weight
pub weight_ins : (f : ℕ → ℕ) (S : Set) (i : ℕ) → T (not (S i)) → (os : List ℕ) → In i os → weight f S os + f i ≤ weight f (ins S i) os
weight_ins f S i new [] m = absurd m
weight_ins f S i new (j ∷ js) (inl e) =
    rw (← e)
    (rw (is_false (S i) new, is_true (eqb i i) (eqb_refl i))
    (omega (arith, weight_mono f S (ins S i) (ins_old S i) js)))
weight_ins f S i new (j ∷ js) (inr m) =
    omega (arith, weight_ins f S i new js m, cond_mono (S j) (ins S i j) (f j) (ins_old S i j))

-- all together weigh the most
pub weight_all : (f : ℕ → ℕ) (S : Set) (os : List ℕ) → weight f S os ≤ weight f all os
weight_all f S os = weight_mono f S all (λ k t. tt) os

-- as many as the list has, at the most
pub weight_length : (S : Set) (os : List ℕ) → weight one S os ≤ length os
weight_length S [] = omega arith
weight_length S (i ∷ is) = omega (arith, weight_length S is, cond_mono (S i) true 1 (λ t. tt))

-- a set that counts as many as the list has holds all of the list
pub weight_full : (S : Set) (os : List ℕ) → length os ≤ weight one S os → (i : ℕ) → In i os → T (S i)
weight_full S [] h i m = absurd m
weight_full S (j ∷ js) h i (inl e) = rw e (bool_cases (S j) (λ t. t) (λ t. absurd (few t)))
  where
    few : T (not (S j)) → ⊥
    few t = omega (arith, weight_length S js, rw (is_false (S j) t) at h)
weight_full S (j ∷ js) h i (inr m) = weight_full S js (omega (arith, cond_mono (S j) true 1 (λ t. tt))) i m
