-- `table::entry_at`: the part from the entry's place. Assumes nothing.
use mathlib.Core.Path.{◌≡◌}
use Prim.Native.Nat.{◌+◌, ◌-◌}
use native.Mathlib.Omega.{arith}
use Rattle.bundle_layout.specs.Layout.{entry_size}
use Rattle.bundle.proofs.table.Laws.{length_entry}
use Rattle.bundle.proofs.table.entry_at.Goals as goal

pub returns : goal.returns
returns c =
    let e = c.table_end-at.ensures in
    let a = c.args in
    let t = c.table_end-at.result in
    let k : t + entry_size - t ≡ entry_size = omega arith in (rw (k, e), rw (k, e) (length_entry a.b.now a.i c.requires))
