-- `list::some_two` meets its contract: what is left of the list has such two where the whole has. The later ones
-- that are walked are all of them, by `take_all` where they are a part of that list. Assumes nothing.
use Rattle.std.proofs.Common.{◌≡◌, ◌∷◌, sym, ◌∙◌, rules, tests}
use Rattle.std.proofs.lemmas.List.{nil_from_length, take_all}
use Rattle.std.proofs.lemmas.Iterator.{YieldsList-from_slice}
use Rattle.std.proofs.lemmas.Iterator.Search.{any_from_yields_List}
use Rattle.wire.specs.Checks.{pairs}
use Rattle.device_component.proofs.list.Searches.{any_listed}
use Rattle.device_component.proofs.list.some_two.Goals as goal

pub returns-then-any : goal.returns-then-any
unfolding pairs
returns-then-any g c =
    let later = c.in-Some.later.now in
    let test = g.holds c.in-Some.c.now in
    let a = any_from_yields_List test _ _ c.any.result c.any.ensures.ran (YieldsList-from_slice later (rw c.iter.ensures.rest (search (rules, take_all)))) (λ x b q k. search (rules, tests, c.requires.1.1)) in
    let e : c.loop-c.rest.now ≡ c.in-Some.c.now ∷ later = search rules in
    let h = rw e at c.loop-c.invariant in
    let t = sym (any_listed test later) ∙ sym a ∙ c.if-any.true in
    rw t at h

pub loop-c-preserved : goal.loop-c-preserved
unfolding pairs
loop-c-preserved g c =
    let later = c.in-Some.later.now in
    let test = g.holds c.in-Some.c.now in
    let a = any_from_yields_List test _ _ c.any.result c.any.ensures.ran (YieldsList-from_slice later (rw c.iter.ensures.rest (search (rules, take_all)))) (λ x b q k. search (rules, tests, c.requires.1.1)) in
    let e : c.loop-c.rest.now ≡ c.in-Some.c.now ∷ later = search rules in
    let h = rw e at c.loop-c.invariant in
    let t = sym (any_listed test later) ∙ sym a ∙ c.if-any.false in
    rw t at h

pub returns : goal.returns
unfolding pairs
returns g c =
    let e = nil_from_length c.loop-c.rest.now (rw c.in_default.is at c.split_first.ensures.cases) in
    rw e at c.loop-c.invariant
