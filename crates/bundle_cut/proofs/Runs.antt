-- What the counts of `leading`, `run_at` and `reach` say of the bytes. Assumes nothing.
use mathlib.Core.Path.{◌≡◌, refl, sym, ◌∙◌}
use mathlib.Core.Bool.{Bool, true, false, cond}
use mathlib.Core.List.{List, [], ◌∷◌}
use Prim.Native.Nat.{ℕ, zero, suc, ◌+◌, ◌-◌, ◌≤◌, ◌<◌}
use native.Mathlib.Nat.{not-suc-le-zero}
use native.Mathlib.Decide.{dec_lt}
use native.Mathlib.Omega.{arith}
use borrow.Author.Tests.{eqb-true, eqb-false, leb-true, leb-false}
use lib.Dec.{eqb, leb}
use lib.ListN.{length, get_or, drop, length-drop, get_or-eq_default}
use lib.Seq.{get_or-drop}
use Rattle.bundle_cut.specs.Cut.{erased_byte, run_least, leading, run_at, reach}

-- how many bytes 0xFF some bytes begin with

pub leading_inside : (l : List ℕ) → leading l ≤ length l
unfolding leading
leading_inside [] = omega arith
leading_inside (b ∷ bs) = go (eqb b erased_byte) (leading_inside bs) where
  go : (t : Bool) → leading bs ≤ length bs → cond t (suc (leading bs)) 0 ≤ suc (length bs)
  go true h = omega arith
  go false h = omega arith

leading_erased : (l : List ℕ) (x : ℕ) → x < leading l → get_or l x 0 ≡ erased_byte
unfolding leading
leading_erased [] x h = absurd (not-suc-le-zero h)
leading_erased (b ∷ bs) x h = go x (eqb b erased_byte) refl h (leading_erased bs) where
  go : (x : ℕ) (t : Bool) → eqb b erased_byte ≡ t → x < cond t (suc (leading bs)) 0 → ((y : ℕ) → y < leading bs → get_or bs y 0 ≡ erased_byte) → get_or (b ∷ bs) x 0 ≡ erased_byte
  go x false q h ih = absurd (not-suc-le-zero h)
  go zero true q h ih = eqb-true b erased_byte q
  go (suc x) true q h ih = ih x (omega arith)

leading_ends : (l : List ℕ) → get_or l (leading l) 0 ≡ erased_byte → ⊥
unfolding leading
leading_ends [] e = omega arith
leading_ends (b ∷ bs) e = go (eqb b erased_byte) refl e (leading_ends bs) where
  go : (t : Bool) → eqb b erased_byte ≡ t → get_or (b ∷ bs) (cond t (suc (leading bs)) 0) 0 ≡ erased_byte → (get_or bs (leading bs) 0 ≡ erased_byte → ⊥) → ⊥
  go true q e ih = ih e
  go false q e ih = eqb-false b erased_byte q e

-- past the end stands none
pub erased_inside : (l : List ℕ) (x : ℕ) → get_or l x 0 ≡ erased_byte → x < length l
erased_inside l x e = go (dec_lt x (length l)) where
  go : Dec (x < length l) → x < length l
  go (yes h) = h
  go (no h) = absurd (omega (arith, get_or-eq_default l 0 {n = x} (omega arith)))

-- how many bytes 0xFF stand from place a on

module _ (d : List ℕ) (a : ℕ) where
  pub run_inside : a ≤ length d → a + run_at d a ≤ length d
  run_inside h = omega (arith, leading_inside (drop a d), length-drop a d)

  pub run_erased : (x : ℕ) → a ≤ x → x < a + run_at d a → get_or d x 0 ≡ erased_byte
  run_erased x h k =
      let e : a + (x - a) ≡ x = omega arith in
      rw e at (sym (get_or-drop a d (x - a) 0) ∙ leading_erased (drop a d) (x - a) (omega arith))

  pub run_ends : get_or d (a + run_at d a) 0 ≡ erased_byte → ⊥
  run_ends e = leading_ends (drop a d) (get_or-drop a d (run_at d a) 0 ∙ e)

  -- it is the one count for which the bytes before are 0xFF and the one after is not
  pub run_is : (n : ℕ) → ((x : ℕ) → a ≤ x → x < a + n → get_or d x 0 ≡ erased_byte) → (get_or d (a + n) 0 ≡ erased_byte → ⊥) → run_at d a ≡ n
  run_is n h k = go (leb n (run_at d a)) (leb (run_at d a) n) refl refl where
    go : (s t : Bool) → leb n (run_at d a) ≡ s → leb (run_at d a) n ≡ t → run_at d a ≡ n
    go s false p q = absurd (k (run_erased (a + n) (omega arith) (omega (arith, leb-false (run_at d a) n q))))
    go false true p q = absurd (run_ends (h (a + run_at d a) (omega arith) (omega (arith, leb-false n (run_at d a) p))))
    go true true p q = omega (arith, leb-true n (run_at d a) p, leb-true (run_at d a) n q)

-- within a run, what is left of it
pub run_later : (d : List ℕ) (a j : ℕ) → j ≤ run_at d a → run_at d (a + j) ≡ run_at d a - j
run_later d a j h =
    let e : a + j + (run_at d a - j) ≡ a + run_at d a = omega arith in
    run_is d (a + j) (run_at d a - j) (λ x k l. run_erased d a x (omega arith) (omega arith)) (rw e (run_ends d a))

-- how many bytes stand before a run that is left out

module _ (b : ℕ) (bs : List ℕ) (n : ℕ) where
  -- either such a run stands at once, or there is a byte more
  reach_by : (P : ℕ → Type 0) → (run_least ≤ leading (b ∷ bs) → P 0) → (leading (b ∷ bs) < run_least → P (suc (reach n bs))) → P (reach (suc n) (b ∷ bs))
  unfolding reach
  reach_by P f g = go (leb run_least (leading (b ∷ bs))) refl where
    go : (t : Bool) → leb run_least (leading (b ∷ bs)) ≡ t → P (cond t 0 (suc (reach n bs)))
    go true q = f (leb-true run_least _ q)
    go false q = g (leb-false run_least _ q)

pub reach_most : (n : ℕ) (l : List ℕ) → reach n l ≤ n
unfolding reach
reach_most zero l = omega arith
reach_most (suc n) [] = omega arith
reach_most (suc n) (b ∷ bs) = reach_by b bs n (λ k. k ≤ suc n) (λ h. omega arith) (λ h. omega (arith, reach_most n bs))

pub reach_inside : (n : ℕ) (l : List ℕ) → reach n l ≤ length l
unfolding reach
reach_inside zero l = omega arith
reach_inside (suc n) [] = omega arith
reach_inside (suc n) (b ∷ bs) = reach_by b bs n (λ k. k ≤ suc (length bs)) (λ h. omega arith) (λ h. omega (arith, reach_inside n bs))

-- none of them begins such a run
pub reach_short : (n : ℕ) (l : List ℕ) (y : ℕ) → y < reach n l → run_at l y < run_least
unfolding reach
reach_short zero l y h = absurd (not-suc-le-zero h)
reach_short (suc n) [] y h = absurd (not-suc-le-zero h)
reach_short (suc n) (b ∷ bs) zero h =
    reach_by b bs n (λ k. 0 < k → leading (b ∷ bs) < run_least) (λ s k. absurd (not-suc-le-zero k)) (λ s k. s) h
reach_short (suc n) (b ∷ bs) (suc y) h =
    reach_by b bs n (λ k. suc y < k → run_at bs y < run_least) (λ s k. absurd (not-suc-le-zero k)) (λ s k. reach_short n bs y (omega arith)) h

-- and they are n, or the end comes after them, or such a run does
pub reach_stops : (n : ℕ) (l : List ℕ) → reach n l < n → reach n l < length l → run_least ≤ run_at l (reach n l)
unfolding reach
reach_stops zero l h k = absurd (not-suc-le-zero h)
reach_stops (suc n) [] h k = absurd (not-suc-le-zero k)
reach_stops (suc n) (b ∷ bs) h k =
    reach_by b bs n (λ r. r < suc n → r < suc (length bs) → run_least ≤ run_at (b ∷ bs) r) (λ s p q. s)
    (λ s p q. reach_stops n bs (omega arith) (omega arith)) h k

-- at least one, where neither comes at once
pub reach_some : (n : ℕ) (l : List ℕ) → 0 < length l → leading l < run_least → 0 < reach (suc n) l
reach_some n [] h k = absurd (not-suc-le-zero h)
reach_some n (b ∷ bs) h k = reach_by b bs n (λ r. 0 < r) (λ s. absurd (omega arith)) (λ s. omega arith)
