-- What a chain of checks answers. Assumes nothing.
use mathlib.Core.Path.{◌≡◌, refl, sym, ◌∙◌}
use mathlib.Core.Bool.{Bool, true, false, cond, ◌||◌, true≢false}
use mathlib.Core.List.{List, [], ◌∷◌, ◌++◌}
use Rattle.wire.specs.Checks.{first_of, applies}
use Rattle.wire.proofs.Tests.{neither}

-- a helper's answer r is s by its contract, and a branch says that r is b
pub by : {A : Type 0} {r s b : A} → r ≡ s → r ≡ b → s ≡ b
by e t = sym e ∙ t

-- a chain of tests answers by its first where that applies, and by those after it where it does not
pub here : {A : Type 0} (t : Bool) (x y : A) → t ≡ true → x ≡ cond t x y
here t x y e = rw e

pub on : {A : Type 0} (t : Bool) (x y z : A) → t ≡ false → z ≡ y → z ≡ cond t x y
on t x y z e h = rw e h

-- for `search`: the answer of a chain, from what its helpers ensure and the branches that were taken
pub ruleset chain = (here, on, by)

-- no check applies
abbrev pub Quiet : {A : Type 0} → List (Bool × A) → Type 0
Quiet [] = Unit {0}
Quiet (c ∷ cs) = (c.0 ≡ false) × Quiet cs

module _ {A : Type 0} (P : A → Type 0) where
  -- what is said of the answer of each check
  abbrev pub Each : List (Bool × A) → Type 0
  Each [] = Unit {0}
  Each (c ∷ cs) = P c.1 × Each cs

  -- what is said of each check's answer, and of the last where no check applies, is said of the answer of the chain
  pub first_says : (cs : List (Bool × A)) (last : A) → Each cs → (Quiet cs → P last) → P (first_of cs last)
  unfolding first_of
  first_says [] last e f = f tt
  first_says (c ∷ cs) last e f = go c.0 refl (first_says cs last e.1) where
    go : (b : Bool) → c.0 ≡ b → ((Quiet cs → P last) → P (first_of cs last)) → P (first_of (c ∷ cs) last)
    go true q h = rw q e.0
    go false q h = rw q (h (λ z. f (q, z)))

  -- where one of the checks applies, what is said of each check's answer is said of the answer of every chain that begins with them
  pub first_applies : (cs ds : List (Bool × A)) (last : A) → Each cs → applies cs ≡ true → P (first_of (cs ++ ds) last)
  unfolding first_of applies
  first_applies [] ds last e f = absurd (true≢false (sym f))
  first_applies (c ∷ cs) ds last e f = go c.0 refl f (first_applies cs ds last e.1) where
    go : (b : Bool) → c.0 ≡ b → (c.0 || applies cs) ≡ true → (applies cs ≡ true → P (first_of (cs ++ ds) last)) → P (first_of ((c ∷ cs) ++ ds) last)
    go true q g h = rw q e.0
    go false q g h = rw q (h (rw q at g))

module _ {A : Type 0} where
  -- where none does, the chain is what follows them
  pub first_passes : (cs ds : List (Bool × A)) (last : A) → applies cs ≡ false → first_of (cs ++ ds) last ≡ first_of ds last
  unfolding first_of applies
  first_passes [] ds last f = refl
  first_passes (c ∷ cs) ds last f = let z = neither c.0 (applies cs) f in rw z.0 (first_passes cs ds last z.1)

  -- and each check does not apply
  pub quiet : (cs : List (Bool × A)) → applies cs ≡ false → Quiet cs
  unfolding applies
  quiet [] f = tt
  quiet (c ∷ cs) f = let z = neither c.0 (applies cs) f in (z.0, quiet cs z.1)

  -- where each check does not apply, none applies
  pub none_applies : (cs : List (Bool × A)) → Quiet cs → applies cs ≡ false
  unfolding applies
  none_applies [] q = refl
  none_applies (c ∷ cs) q = rw q.0 (none_applies cs q.1)

-- what is said of both answers of a test is said of its answer
pub either : {A : Type 0} (P : A → Type 0) (b : Bool) (x y : A) → P x → P y → P (cond b x y)
either P true x y h k = h
either P false x y h k = k
