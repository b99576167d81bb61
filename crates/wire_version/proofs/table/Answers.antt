-- `table` meets its contract: each component from its place, up to the count. Assumes nothing.
use mathlib.Core.Path.{◌≡◌}
use Prim.Native.Nat.{ℕ, zero, suc, ◌<◌}
use native.Mathlib.Omega.{arith}
use borrow.Author.Rules.{rules}
use lib.ListN.{get_or}
use Rattle.wire.specs.Codes.{component_limit}
use Rattle.wire_version.specs.Reply.{none, entry_of}
use Rattle.wire_version.proofs.Entries.{table_read}
use Rattle.wire_version.proofs.table.Goals as goal

read_each : (c : goal.After-from_fn) (k : ℕ) → k < component_limit → get_or c.from_fn.result k none ≡ entry_of c.args.p.now c.args.count k
read_each c zero h = search rules
read_each c (suc zero) h = search rules
read_each c (suc (suc zero)) h = search rules
read_each c (suc (suc (suc zero))) h = search rules
read_each c (suc (suc (suc (suc zero)))) h = search rules
read_each c (suc (suc (suc (suc (suc zero))))) h = search rules
read_each c (suc (suc (suc (suc (suc (suc zero)))))) h = search rules
read_each c (suc (suc (suc (suc (suc (suc (suc k))))))) h = absurd (omega arith)

pub returns : goal.returns
returns c = table_read c.args.p.now c.args.count c.requires.1 c.from_fn.result c.from_fn.ensures.items.long (read_each c)
