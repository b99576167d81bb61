-- Passes over a list of offers (document 01, "The host": replay): each offer of a pass is refused, skipped or lands, and another pass follows one that
-- had a skip and a landing. What the passes come to is the smallest closed set.
use Rattle.std.specs.Prelude.{ℕ, zero, suc, ◌+◌, ◌*◌, ◌≤◌, Bool, true, false, not, cond, ◌&&◌, ◌||◌, List, [], ◌∷◌, T, eqb, length}
use Rattle.wire.specs.Checks.{any}
use Rattle.update_passes.specs.Sets.{Set, Sub, In, none, all, ins, weight}

-- the offers: which pass the checks, whose result only their own landing changes; whose need is met once a set has landed; the records of each
pub record Offers : Type 0 where
  pub eligible : ℕ → Bool
  pub met : Set → ℕ → Bool
  pub records : ℕ → ℕ

-- a pass so far: what has landed in all passes, whether this one had a skip and a landing, and the records that it sent
pub record Pass : Type 0 where
  pub set : Set
  pub skipped : Bool
  pub landed : Bool
  pub sent : ℕ

-- the pass at its start
abbrev pub opened : Set → Pass
opened S = record { set = S; skipped = false; landed = false; sent = zero }

-- an offer lands
abbrev pub lands : Offers → Pass → ℕ → Pass
lands y p i = record { set = ins p.set i; skipped = p.skipped; landed = true; sent = p.sent + y.records i }

-- an offer is skipped
abbrev pub skips : Pass → Pass
skips p = record { set = p.set; skipped = true; landed = p.landed; sent = p.sent }

-- one offer: refused where it has landed or is not eligible, skipped where its need is not met
unfoldable pub answered : Offers → Pass → ℕ → Pass
answered y p i = cond (p.set i || not (y.eligible i)) p (cond (y.met p.set i) (lands y p i) (skips p))

-- the offers of a list, in order
unfoldable pub pass_over : Offers → List ℕ → Pass → Pass
pass_over y [] p = p
pass_over y (i ∷ is) p = pass_over y is (answered y p i)

-- some passes: what has landed, how many they were, the records that they sent
pub record Passes : Type 0 where
  pub set : Set
  pub passes : ℕ
  pub sent : ℕ

-- no pass yet
abbrev pub unpassed : Passes
unpassed = record { set = none; passes = zero; sent = zero }

module _ (y : Offers) (os : List ℕ) where
  -- a pass from a set on
  unfoldable pub one_pass : Set → Pass
  one_pass S = pass_over y os (opened S)

  -- one pass more
  unfoldable pub onward : Passes → Passes
  onward r = record { set = (one_pass r.set).set; passes = suc r.passes; sent = r.sent + (one_pass r.set).sent }

  -- that pass has a skip and a landing
  abbrev pub again : Passes → Bool
  again r = (one_pass r.set).skipped && (one_pass r.set).landed

  -- passes until one lacks a skip or a landing, and at most so many
  unfoldable pub repeat : ℕ → Passes → Passes
  repeat zero r = r
  repeat (suc f) r = cond (again r) (repeat f (onward r)) (onward r)

  -- as many passes as there are offers, at the most
  unfoldable pub passes_of : Passes
  passes_of = repeat (length os) unpassed

  -- code 0, the codes 1 and 2 and the offers of each pass, and the records
  abbrev pub packets_of : ℕ
  packets_of = 1 + passes_of.passes * (length os + 2) + passes_of.sent

  -- closed: each eligible offer whose need the set meets is a member
  abbrev pub Closed : Set → Type 0
  Closed C = (i : ℕ) → In i os → T (y.eligible i) → T (y.met C i) → T (C i)

  -- what the passes come to
  pub record Reached : Type 0 where
    pub closed : Closed passes_of.set
    pub least : (C : Set) → Closed C → Sub passes_of.set C
    pub few : passes_of.passes ≤ length os
    pub bound : packets_of ≤ 1 + length os * (length os + 2) + weight y.records all os

-- what meets a need, a larger set meets too
abbrev pub Monotone : Offers → Type 0
Monotone y = (A B : Set) → Sub A B → (i : ℕ) → T (y.met A i) → T (y.met B i)

-- the passes reach the smallest closed set, within as many passes as there are offers
abbrev pub PassesReach : Type 0
PassesReach = (y : Offers) (os : List ℕ) → Monotone y → Reached y os

-- the need of an offer: met at the start, or given by another member
abbrev pub need_met : (start : ℕ → Bool) → (gives : ℕ → ℕ → Bool) → List ℕ → Set → ℕ → Bool
need_met start gives os S i = start i || any (λ j. S j && (not (eqb j i) && gives j i)) os

-- so the need is monotone
abbrev pub NeedMonotone : Type 0
NeedMonotone = (start : ℕ → Bool) (gives : ℕ → ℕ → Bool) (os : List ℕ) (eligible : ℕ → Bool) (records : ℕ → ℕ)
    → Monotone (record { eligible = eligible; met = need_met start gives os; records = records })
