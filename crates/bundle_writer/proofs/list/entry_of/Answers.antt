-- `list::entry_of`: the part from the entry's place. Assumes nothing.
use mathlib.Core.Path.{◌≡◌}
use Prim.Native.Nat.{◌+◌, ◌-◌, ◌*◌}
use native.Mathlib.Omega.{arith}
use Rattle.bundle_layout.specs.Layout.{entry_size}
use Rattle.bundle_writer.proofs.list.Laws.{length_entry}
use Rattle.bundle_writer.proofs.list.entry_of.Goals as goal

pub returns : goal.returns
returns c =
    let s = c in
    let at = entry_size * s.args.i in
    let k : at + entry_size - at ≡ entry_size = omega arith in (rw k, rw k (length_entry s.args.list.now s.args.i s.requires))
