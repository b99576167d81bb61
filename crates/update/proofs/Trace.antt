-- What a list of exchanges shows, with one exchange more at its end. Assumes nothing.
use mathlib.Core.Path.{◌≡◌, refl, ap, ◌∙◌}
use mathlib.Core.Bool.{Bool, true, false, cond, ◌&&◌, ◌||◌}
use mathlib.Core.List.{List, [], ◌∷◌, ◌++◌}
use Prim.Native.Nat.{ℕ, suc, ◌+◌}
use native.Mathlib.Omega.{arith}
use lib.Dec.{eqb}
use lib.ListN.{length, length-append}
use Rattle.update.specs.Trace.{Exchange, opens_pass, passes_in, about, completes, completed_in}

-- the component of the last offer of a list, after an offer for component id
unfoldable pub about_in : (id : ℕ) → List Exchange → ℕ
about_in id [] = id
about_in id (x ∷ xs) = about_in (about id x.packet) xs

-- its length
pub length_more : (xs : List Exchange) (x : Exchange) → length (xs ++ (x ∷ [])) ≡ length xs + 1
length_more xs x = length-append xs (x ∷ [])

-- its passes
pub passes_more : (xs : List Exchange) (x : Exchange) → passes_in (xs ++ (x ∷ [])) ≡ passes_in xs + cond (opens_pass x.packet) 1 0
unfolding passes_in
passes_more [] x = go (opens_pass x.packet)
  where
    go : (y : Bool) → cond y 1 0 ≡ 0 + cond y 1 0
    go true = refl
    go false = refl
passes_more (y ∷ xs) x = go (opens_pass y.packet) (passes_more xs x)
  where
    go : (z : Bool) → passes_in (xs ++ (x ∷ [])) ≡ passes_in xs + cond (opens_pass x.packet) 1 0
        → cond z (suc (passes_in (xs ++ (x ∷ [])))) (passes_in (xs ++ (x ∷ []))) ≡ cond z (suc (passes_in xs)) (passes_in xs) + cond (opens_pass x.packet) 1 0
    go true h = omega arith
    go false h = h

-- the component of its last offer
pub about_more : (id : ℕ) (xs : List Exchange) (x : Exchange) → about_in id (xs ++ (x ∷ [])) ≡ about (about_in id xs) x.packet
unfolding about_in
about_more id [] x = refl
about_more id (y ∷ xs) x = about_more (about id y.packet) xs x

-- three tests in another order
swap : (p q r : Bool) → (p || (q || r)) ≡ (q || (p || r))
swap true true r = refl
swap true false r = refl
swap false true r = refl
swap false false r = refl

-- the offers that were completed
pub completed_more : (id : ℕ) (xs : List Exchange) (x : Exchange) (j : ℕ)
    → completed_in id (xs ++ (x ∷ [])) j ≡ ((completes x.packet x.reply && eqb (about_in id xs) j) || completed_in id xs j)
unfolding completed_in about_in
completed_more id [] x j = refl
completed_more id (y ∷ xs) x j =
    ap (λ (z : Bool). (completes y.packet y.reply && eqb id j) || z) (completed_more (about id y.packet) xs x j)
    ∙ swap (completes y.packet y.reply && eqb id j) (completes x.packet x.reply && eqb (about_in (about id y.packet) xs) j) (completed_in (about id y.packet) xs j)
