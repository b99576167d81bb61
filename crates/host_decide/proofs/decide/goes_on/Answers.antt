-- `decide::goes_on`: by whether the block is the last. Assumes nothing.
use mathlib.Core.Path.{ap, ◌∙◌}
use Prim.Native.Nat.{◌+◌}
use Rattle.host_decide.specs.Decide.{offer_from}
use Rattle.host_decide.proofs.decide.goes_on.Goals as goal

pub offer_from-requires : goal.offer_from-requires
offer_from-requires c = rw c.completes.ensures c.requires.0.0

pub returns-then-last : goal.returns-then-last
returns-then-last c =
    let a = c.args in
    rw c.if-last.true (c.offer_from.ensures ∙ ap (offer_from a.n (a.p.entry + 1)) c.completes.ensures)

pub returns-else-last : goal.returns-else-last
returns-else-last c = rw c.if-last.false c.send_block.ensures
