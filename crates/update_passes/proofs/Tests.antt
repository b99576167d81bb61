-- Tests, by their cases. Assumes nothing.
use mathlib.Core.Path.{◌≡◌, refl}
use mathlib.Core.Bool.{Bool, true, false, not, cond, ◌&&◌, ◌||◌}
use lib.Dec.{T}

-- the two cases of a conditional, each with what its test says
pub cond_cases {ℓ} : {A : Type 0} (P : A → Type ℓ) (b : Bool) {x y : A} → (T b → P x) → (T (not b) → P y) → P (cond b x y)
cond_cases P true f g = f tt
cond_cases P false f g = g tt

-- the two cases of a test
pub bool_cases {ℓ} : {C : Type ℓ} (b : Bool) → (T b → C) → (T (not b) → C) → C
bool_cases true f g = f tt
bool_cases false f g = g tt

-- one of two tests: the first
pub or_inl : (a b : Bool) → T a → T (a || b)
or_inl true b t = tt
or_inl false b t = elim t [ ]

-- one of two tests: the second
pub or_inr : (a b : Bool) → T b → T (a || b)
or_inr true b t = tt
or_inr false b t = t

-- which of two tests holds
pub or_cases {ℓ} : {C : Type ℓ} (a b : Bool) → (T a → C) → (T b → C) → T (a || b) → C
or_cases true b f g t = f tt
or_cases false b f g t = g t

-- neither of two tests: not the first
pub nor_l : (a b : Bool) → T (not (a || b)) → T (not a)
nor_l false b t = tt
nor_l true b t = elim t [ ]

-- neither of two tests: not the second
pub nor_r : (a b : Bool) → T (not (a || b)) → T (not b)
nor_r false b t = t
nor_r true b t = elim t [ ]

-- a test that does not fail
pub not_not : (a : Bool) → T (not (not a)) → T a
not_not true t = tt
not_not false t = elim t [ ]

-- both of two tests
pub both : (a b : Bool) → T a → T b → T (a && b)
both true true p q = tt
both false b p q = elim p [ ]
both true false p q = elim q [ ]

-- the first of two tests
pub and_l : (a b : Bool) → T (a && b) → T a
and_l true b t = tt
and_l false b t = elim t [ ]

-- the second of two tests
pub and_r : (a b : Bool) → T (a && b) → T b
and_r true b t = t
and_r false b t = elim t [ ]

-- not both of two tests
pub nand : {C : Type 0} (a b : Bool) → (T (not a) → C) → (T (not b) → C) → T (not (a && b)) → C
nand true b f g t = g t
nand false b f g t = f tt

-- a test that is known, as an equation to rewrite by
pub is_true : (b : Bool) → T b → b ≡ true
is_true true t = refl
is_true false t = elim t [ ]

-- a test that fails is false
pub is_false : (b : Bool) → T (not b) → b ≡ false
is_false false t = refl
is_false true t = elim t [ ]

-- a test that is true holds
pub holds : (b : Bool) → b ≡ true → T b
holds b e = rw e tt

-- a test that cannot hold is false
pub fails : (b : Bool) → (T b → ⊥) → b ≡ false
fails true t = absurd (t tt)
fails false t = refl

-- two tests that hold together are one
pub true_ext : (a b : Bool) → (T a → T b) → (T b → T a) → a ≡ b
true_ext true true f g = refl
true_ext true false f g = absurd (f tt)
true_ext false true f g = absurd (g tt)
true_ext false false f g = refl

-- either of two tests, one of which holds
pub or_true : (x : Bool) → (x || true) ≡ true
or_true true = refl
or_true false = refl

-- either of two tests, one of which fails
pub or_false : (x : Bool) → (x || false) ≡ x
or_false true = refl
or_false false = refl

-- both of two tests, one of which fails
pub and_false : (x : Bool) → (x && false) ≡ false
and_false true = refl
and_false false = refl
