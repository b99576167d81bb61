-- `list::some_unsound` meets its contract: what is left of the list gives the answer for the whole. The later ones
-- that are walked are all of them, by `take_all` where they are a part of that list. Assumes nothing.
use Rattle.std.proofs.Common.{◌≡◌, ℕ, Bool, true, false, ◌||◌, List, ◌∷◌, refl, sym, ap, ◌∙◌, rules, tests}
use Rattle.std.proofs.lemmas.List.{nil_from_length, take_all}
use Rattle.std.proofs.lemmas.Iterator.{YieldsList-from_slice}
use Rattle.std.proofs.lemmas.Iterator.Search.{any_from_yields_List}
use Rattle.wire.specs.Checks.{any, pairs}
use Rattle.device_component.specs.declared.record.Component.{Component}
use Rattle.device_component.specs.Rules.{flawed, clash, unsound}
use Rattle.device_component.proofs.list.Searches.{any_listed}
use Rattle.device_component.proofs.list.some_unsound.Goals.{then-flawed-via-then-flawed, then-flawed-via-else-flawed+then-any}
use Rattle.device_component.proofs.list.some_unsound.Goals as goal

-- the two tests of the first component, and then the rest
turned : (f a k p : Bool) → ((f || a) || (k || p)) ≡ ((f || k) || (a || p))
turned true a k p = refl
turned false true true p = refl
turned false true false p = refl
turned false false k p = refl

first : (n : ℕ) (x : Component) (xs : List Component) → unsound n (x ∷ xs) ≡ ((flawed n x || any (clash x) xs) || unsound n xs)
unfolding unsound any pairs
first n x xs = turned (flawed n x) (any (flawed n) xs) (any (clash x) xs) (pairs clash xs)

pub loop-c-init : goal.loop-c-init
loop-c-init c = ap (unsound c.args.n) c.in_use-rest.ensures

pub returns-then-flawed : goal.returns-then-flawed
returns-then-flawed c =
    let x = c.in-Some.c.now in
    let later = c.in-Some.later.now in
    let e : c.loop-c.rest.now ≡ x ∷ later = search rules in
    let h = rw (e, first) at c.loop-c.invariant in
    elim c.then-flawed.branch [
      | then-flawed-via-then-flawed w ↦
          let f = sym c.flawed.ensures ∙ w.if-flawed.true in
          rw f at h
      | then-flawed-via-else-flawed+then-any w ↦
          let f = sym c.flawed.ensures ∙ w.if-flawed.false in
          let a = any_from_yields_List (clash x) _ _ w.any.result w.any.ensures.ran (YieldsList-from_slice later (rw w.iter.ensures.rest (search (rules, take_all)))) (λ d b q k. search (rules, tests)) in
          let t = sym (any_listed (clash x) later) ∙ sym a ∙ w.if-any.true in
          rw (f, t) at h
    ]

pub loop-c-preserved : goal.loop-c-preserved
loop-c-preserved c =
    let x = c.in-Some.c.now in
    let later = c.in-Some.later.now in
    let e : c.loop-c.rest.now ≡ x ∷ later = search rules in
    let h = rw (e, first) at c.loop-c.invariant in
    let f = sym c.flawed.ensures ∙ c.if-flawed.false in
    let a = any_from_yields_List (clash x) _ _ c.any.result c.any.ensures.ran (YieldsList-from_slice later (rw c.iter.ensures.rest (search (rules, take_all)))) (λ d b q k. search (rules, tests)) in
    let t = sym (any_listed (clash x) later) ∙ sym a ∙ c.if-any.false in
    rw (f, t) at h

pub returns : goal.returns
unfolding unsound any pairs
returns c =
    let e = nil_from_length c.loop-c.rest.now (rw c.in_default.is at c.split_first.ensures.cases) in
    rw e at c.loop-c.invariant
