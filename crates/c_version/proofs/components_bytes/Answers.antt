-- `components_bytes` meets its contract. After i turns the first i components are written. Assumes nothing.
use native.Mathlib.Omega.{arith}
use Rattle.c_version.proofs.Pieces.{component_written, written}
use Rattle.c_version.specs.Layout.{running_size, components_bytes}
use Prim.Native.Nat.{◌+◌, ◌*◌, ◌-◌}
use mathlib.Core.Path.{refl}
use borrow.Author.Rules.{rules}
use Rattle.c_version.proofs.components_bytes.Goals as goal

pub loop-i-init : goal.loop-i-init
unfolding components_bytes
loop-i-init c = (search rules, refl)

pub loop-i-preserved : goal.loop-i-preserved
loop-i-preserved c =
    let l = c.loop-i in
    let at = l.i * running_size in
    let b = c.running_bytes in
    component_written l.out b.result c.copy_from_slice.new.self c.args.components l.i (at + running_size - at) (omega arith) (search rules) l.invariant.0 (omega arith) b.ensures c.copy_from_slice.ensures.after l.invariant.1

pub returns : goal.returns
returns c =
    let l = c.loop-i in written l.out c.args.components l.i (omega arith) (search rules) l.invariant.0 l.invariant.1
