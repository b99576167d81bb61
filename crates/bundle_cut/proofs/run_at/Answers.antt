-- `run_at`: the first byte that is not 0xFF, or the end. Assumes nothing.
use mathlib.Core.Path.{◌≡◌, refl, sym, ◌∙◌}
use mathlib.Core.Bool.{Bool, true, false, not, cond}
use mathlib.Core.List.{List, [], ◌∷◌}
use Prim.Native.Nat.{ℕ, suc, ◌+◌, ◌-◌}
use native.Mathlib.Omega.{arith}
use borrow.Author.Rules.{rules}
use borrow.Author.Tests.{ltb-false, ne_eqb}
use lib.Dec.{eqb, ltb}
use lib.ListN.{length, take, drop, length-drop}
use Rattle.std.specs.Prelude.{Some, None, position}
use Rattle.std.specs.Option.{unwrap_or}
use Rattle.std.specs.List.{position_or_len}
use Rattle.std.proofs.lemmas.List.{take_all, nil_from_length}
use Rattle.bundle_cut.specs.Cut.{erased_byte, leading}
use Rattle.bundle_cut.proofs.Runs.{leading_inside}
use Rattle.bundle_cut.proofs.run_at.Goals as goal

-- a byte that is not 0xFF
abbrev other : ℕ → Bool
other b = not (eqb b erased_byte)

first_other : (l : List ℕ) → position_or_len other l ≡ leading l
unfolding leading
first_other [] = refl
first_other (b ∷ bs) = go (eqb b erased_byte) (first_other bs) where
  go : (t : Bool) → position_or_len other bs ≡ leading bs → cond (not (not t)) (1 + position_or_len other bs) 0 ≡ cond t (suc (leading bs)) 0
  go true e = omega arith
  go false e = refl

run_is : (l : List ℕ) → unwrap_or (position other l) (length l) ≡ leading l
run_is l = go (ltb (position_or_len other l) (length l)) refl where
  go : (t : Bool) → ltb (position_or_len other l) (length l) ≡ t → unwrap_or (cond t (Some (position_or_len other l)) None) (length l) ≡ leading l
  go true e = first_other l
  go false e =
      let f = first_other l in
      let g = leading_inside l in
      let h = ltb-false (position_or_len other l) (length l) e in omega arith

-- a byte 0xFF is one more, and any other is the end
leads : (b : ℕ) (bs : List ℕ) → b ≡ 255 → 1 + leading bs ≡ leading (b ∷ bs)
unfolding leading
leads b bs e = rw e (omega arith)

ends : (b : ℕ) (bs : List ℕ) → (b ≡ 255 → ⊥) → 0 ≡ leading (b ∷ bs)
unfolding leading
ends b bs h = rw (ne_eqb b 255 h) refl

-- the bytes from a place on are those that are lent
rest_is : (d : List ℕ) (x : ℕ) → take (length d - x) (drop x d) ≡ drop x d
rest_is d x = take_all _ _ (simp length-drop (omega arith))

pub returns-in-Some : goal.returns-in-Some
returns-in-Some c =
    let d = c.args.d.now in
    let s : take (length d - c.args.x) (drop c.args.x d) ≡ c.in-Some.byte.now ∷ c.in-Some.rest.now = search rules in
    let e : drop c.args.x d ≡ c.in-Some.byte.now ∷ c.in-Some.rest.now = sym (rest_is d c.args.x) ∙ s in
    rw (c.unwrap_or.ensures, c.first_other.ensures, e, run_is c.in-Some.rest.now) (leads c.in-Some.byte.now c.in-Some.rest.now c.if-byte.true)

pub returns-in_default : goal.returns-in_default
returns-in_default c =
    let d = c.args.d.now in
    let s : take (length d - c.args.x) (drop c.args.x d) ≡ c.in-Some.byte.now ∷ c.in-Some.rest.now = search rules in
    let e : drop c.args.x d ≡ c.in-Some.byte.now ∷ c.in-Some.rest.now = sym (rest_is d c.args.x) ∙ s in
    rw e (ends c.in-Some.byte.now c.in-Some.rest.now c.if-byte.false)

pub returns-in_default-2 : goal.returns-in_default-2
unfolding leading
returns-in_default-2 c =
    let d = c.args.d.now in
    let z = nil_from_length (take (length d - c.args.x) (drop c.args.x d)) (rw c.in_default.is at c.split_first.ensures.cases) in
    let e : drop c.args.x d ≡ [] = sym (rest_is d c.args.x) ∙ z in
    rw e refl
