-- `read_components` meets its contract: each component is read from its place. Assumes nothing.
use mathlib.Core.Path.{◌≡◌}
use Prim.Native.Nat.{ℕ, zero, suc, ◌*◌, ◌<◌}
use native.Mathlib.Omega.{arith}
use borrow.Author.Rules.{rules}
use lib.ListN.{get_or, drop}
use Rattle.wire.specs.Codes.{component_limit}
use Rattle.wire_version.specs.Reply.{none}
use Rattle.c_version.specs.Layout.{running_size, running_in}
use Rattle.c_version.proofs.Pieces.{components_read}
use Rattle.c_version.proofs.read_components.Goals as goal

read_each : (c : goal.After-from_fn) (k : ℕ) → k < component_limit → get_or c.from_fn.result k none ≡ running_in (drop (k * running_size) c.args.q.now)
read_each c zero h = search rules
read_each c (suc zero) h = search rules
read_each c (suc (suc zero)) h = search rules
read_each c (suc (suc (suc zero))) h = search rules
read_each c (suc (suc (suc (suc zero)))) h = search rules
read_each c (suc (suc (suc (suc (suc zero))))) h = search rules
read_each c (suc (suc (suc (suc (suc (suc zero)))))) h = search rules
read_each c (suc (suc (suc (suc (suc (suc (suc k))))))) h = absurd (omega arith)

pub returns : goal.returns
returns c = components_read c.args.q.now c.from_fn.result c.from_fn.ensures.items.long (read_each c)
