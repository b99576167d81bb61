-- `all::reset_components` meets its contract: after i turns the first i are reset. Assumes nothing.
use mathlib.Core.Path.{◌≡◌, refl, ap, ◌∙◌}
use native.Mathlib.Omega.{arith}
use mathlib.Core.List.{List}
use lib.ListN.{length, take, set, get_or}
use Rattle.device_component.specs.Record.{blank_component}
use Rattle.device_component.specs.declared.record.Component.{Component}
use Rattle.device_slots.proofs.Turns.{turn, still, first_turned}
use Rattle.device_component.proofs.list.Loops.{ends}
use Rattle.wire.specs.Codes.{component_limit}
use Rattle.device_component.specs.Record.{after_reset}
use borrow.Author.Rules.{rules}
use Rattle.device_slots.proofs.all.reset_components.Goals as goal

pub loop-i-init : goal.loop-i-init
loop-i-init c = refl

pub loop-i-preserved : goal.loop-i-preserved
loop-i-preserved c =
    let s = c.args in
    let l = c.loop-i in
    let n : length s.components ≡ component_limit = search rules in
    let e : c.after_reset.result ≡ after_reset (get_or s.components l.i blank_component)
    = c.after_reset.ensures ∙ ap (λ (p : List Component). after_reset (get_or p l.i blank_component)) l.invariant
    ∙ ap after_reset (still after_reset s.components s.components refl l.i (omega arith) blank_component) in
    ap (λ (p : List Component). set p l.i c.after_reset.result) l.invariant ∙ turn after_reset s.components s.components refl l.i (omega arith) blank_component blank_component _ e

pub returns : goal.returns
returns c =
    let s = c.args in
    let l = c.loop-i in
    let n : length s.components ≡ component_limit = search rules in
    let e : l.i ≡ length (take s.count s.components) = ends s.count s.components n (omega (arith, c.within_slots-i-end.ensures)) in
    l.invariant ∙ first_turned after_reset s.components s.count l.i e
