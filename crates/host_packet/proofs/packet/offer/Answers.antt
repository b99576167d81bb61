-- `packet::offer` meets its contract: the table's bytes, with the token. Assumes nothing.
use mathlib.Core.Path.{ap, ◌∙◌}
use mathlib.Core.List.{List, ◌++◌}
use Prim.Native.Nat.{ℕ, ◌+◌, ◌-◌}
use native.Mathlib.Omega.{arith}
use lib.ListN.{set, replicate}
use Rattle.bundle_layout.specs.Layout.{table_end}
use Rattle.host_packet.proofs.packet.Laws.{offer_copied}
use Rattle.host_packet.proofs.packet.offer.Goals.{After-copy}
use Rattle.host_packet.proofs.packet.offer.Goals as goal

pub returns : goal.returns
returns c =
    let k = (goal.at.returns c).After-copy in
    let s = k in
    let at = table_end s.args.entry in
    c.lay.ensures
    ∙ ap (λ (q : List ℕ). set q 3 s.args.token ++ replicate 44 0)
    (offer_copied _ at (at + 16 - at) _ (omega arith) (omega (arith, s.requires)) k.copy.ensures)
