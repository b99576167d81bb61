-- `table::entry_at`: the part from the entry's place, as far as the table has it. Assumes nothing.
use Prim.Native.Nat.{◌*◌}
use Rattle.bundle_layout.specs.Layout.{entry_size}
use Rattle.bundle_layout.proofs.Entries.{clamped}
use Rattle.bundle_layout.proofs.table.entry_at.Goals as goal

pub returns : goal.returns
returns c = clamped (entry_size * c.args.i) entry_size c.args.table.now _ _ c.least-at.ensures c.least.ensures
