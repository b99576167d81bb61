-- `with_components` meets its contract. After i turns the first i components are written. Assumes nothing.
use Rattle.device_bytes.proofs.Record.{component_written, written}
use mathlib.Core.Path.{sym, ap, ◌∙◌}
use mathlib.Core.List.{append-nil}
use Prim.Native.Nat.{◌+◌}
use native.Mathlib.Omega.{arith}
use lib.ListN.{length, take}
use Rattle.device_bytes.specs.Layout.{components_start, component_start, components_bytes}
use borrow.Author.Rules.{rules}
use Rattle.device_bytes.proofs.with_components.Goals as goal

pub loop-i-init : goal.loop-i-init
unfolding components_bytes
loop-i-init c = (search rules, sym (append-nil _))

pub loop-i-preserved : goal.loop-i-preserved
loop-i-preserved c =
    let l = c.loop-i in
    let a = c.args in
    let w = component_written l.out (take components_start a.out) a.components l.i (omega arith) (search rules) l.invariant.0 l.invariant.1 in
    let e = c.store_component.ensures in
    (ap length e ∙ w.0, ap (take (component_start (l.i + 1))) e ∙ w.1)

pub returns : goal.returns
returns c =
    let l = c.loop-i in
    let a = c.args in written l.out (take components_start a.out) a.components l.i (omega arith) (search rules) l.invariant.0 l.invariant.1
