-- `cfu_list_put` meets its contract: C2, C4, or the list with the component. Assumes nothing.
use mathlib.Core.Path.{ap, ◌∙◌}
use native.Mathlib.Omega.{arith}
use borrow.Author.Tests.{eq-eqb, ne_eqb, lt-ltb, le-ltb}
use Rattle.wire.specs.Codes.{component_limit}
use Rattle.device_component.specs.declared.record.Listed.{Listed}
use Rattle.device_bytes.specs.Layout.{with_listed_bytes}
use Rattle.c_types.specs.Numbers.{served_number}
use Rattle.c_types.specs.Lent.{leaves}
use Rattle.c_access.specs.Access.{list_call}
use Rattle.c_access.proofs.cfu_list_put.Goals.{After-store_listed}
use Rattle.c_access.proofs.cfu_list_put.Goals as goal

pub returns-then-list-ne-LIST_SIZE : goal.returns-then-list-ne-LIST_SIZE
unfolding list_call
returns-then-list-ne-LIST_SIZE c = rw (ne_eqb _ _ c.if-list-ne-LIST_SIZE.true)

pub returns-then-place-ge-COMPONENT_LIMIT : goal.returns-then-place-ge-COMPONENT_LIMIT
unfolding list_call
returns-then-place-ge-COMPONENT_LIMIT c = rw (eq-eqb _ _ c.if-list-ne-LIST_SIZE.false, le-ltb c.args.place component_limit (omega (arith, c.if-place-ge-COMPONENT_LIMIT.true)))

pub returns : goal.returns
unfolding list_call
returns c =
    let s = (goal.at.returns c).After-store_listed in
    let t = s in
    let a = t.args in
    rw (eq-eqb _ _ t.if-list-ne-LIST_SIZE.false, lt-ltb _ _ t.if-place-ge-COMPONENT_LIMIT.false)
    (ap (leaves served_number) (s.store_listed.ensures ∙ ap (λ (x : Listed). with_listed_bytes a.place x a.list.now) s.listed.ensures))
