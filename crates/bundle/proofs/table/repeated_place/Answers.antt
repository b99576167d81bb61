-- `table::repeated_place`: of the bytes behind the head. Assumes nothing.
use mathlib.Core.Path.{◌≡◌}
use Prim.Native.Nat.{◌-◌}
use native.Mathlib.Omega.{arith}
use lib.ListN.{length, take, drop, length-drop}
use lib.Seq.{take_all}
use Rattle.bundle_layout.specs.Layout.{head_size, entries_in}
use Rattle.bundle_layout.specs.Rows.{row_b6}
use Rattle.bundle.proofs.table.repeated_place.Goals as goal

pub returns : goal.returns
unfolding row_b6 entries_in
returns c =
    let b = c.args.b.now in
    let t : take (length b - head_size) (drop head_size b) ≡ drop head_size b = take_all _ _ (simp length-drop (omega arith)) in
    rw t at c.repeated_place.ensures
