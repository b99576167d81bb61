-- Sets of offers by their numbers, and what the members of a list weigh. Nothing of the protocol is named here.
use Rattle.std.specs.Prelude.{ℕ, zero, suc, ◌+◌, ◌≡◌, ◌⊎◌, Bool, true, false, cond, ◌||◌, List, [], ◌∷◌, T, eqb}

-- a set of offers
abbrev pub Set : Type 0
Set = ℕ → Bool

-- each member of A is one of B
abbrev pub Sub : Set → Set → Type 0
Sub A B = (k : ℕ) → T (A k) → T (B k)

-- no member
abbrev pub none : Set
none k = false

-- every number
abbrev pub all : Set
all k = true

-- one member more
abbrev pub ins : Set → ℕ → Set
ins S i k = eqb k i || S k

-- i is one of a list
abbrev pub In : ℕ → List ℕ → Type 0
In i [] = ⊥
In i (j ∷ js) = (i ≡ j) ⊎ In i js

-- m numbers from k on
abbrev pub from : (k m : ℕ) → List ℕ
from k zero = []
from k (suc m) = k ∷ from (suc k) m

-- the weights of those members of a list that are in a set
abbrev pub weight : (ℕ → ℕ) → Set → List ℕ → ℕ
weight f S [] = zero
weight f S (i ∷ is) = cond (S i) (f i) zero + weight f S is

-- each weighs one
abbrev pub one : ℕ → ℕ
one k = 1
