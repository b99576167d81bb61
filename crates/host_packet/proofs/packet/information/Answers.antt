-- `packet::information` meets its contract: what is built, the rest cleared. Assumes nothing.
use mathlib.Core.Path.{ap, ◌∙◌}
use mathlib.Core.List.{List, ◌++◌}
use Prim.Native.Nat.{ℕ}
use lib.ListN.{replicate}
use Rattle.host_packet.proofs.packet.information.Goals as goal

pub returns : goal.returns
returns c = c.lay.ensures ∙ ap (λ (q : List ℕ). q ++ replicate 44 0) c.build_information-p.ensures
