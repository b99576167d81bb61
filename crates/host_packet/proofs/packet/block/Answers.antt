-- `packet::block` meets its contract: the head, the record's data after it, the rest cleared. Assumes nothing.
use mathlib.Core.Path.{◌≡◌, ap₂, ◌∙◌}
use Prim.Native.Nat.{ℕ}
use borrow.Author.Rules.{rules}
use lib.ListN.{length}
use Rattle.wire_content.specs.Content.{head_of}
use Rattle.host_packet.proofs.packet.Laws.{block_stored}
use Rattle.host_packet.proofs.packet.block.Goals.{After-copy, After-copy-2, After-head-h}
use Rattle.host_packet.proofs.packet.block.Goals as goal

pub returns : goal.returns
returns c =
    let k = (goal.at.returns c).After-copy-2 in
    let j = (goal.at.returns c).After-copy in
    let h = (goal.at.returns c).After-head-h in
    let s = h in
    let a = s.args in
    let n : length a.packet.now ≡ 60 = search rules in
    block_stored a.packet.now h.head-h.result j.copy.new.target a.b.now k.copy-2.new.target c.fill.new.s a.start a.size
    a.k a.last a.address n s.requires.1 s.requires.2
    (h.head-h.ensures ∙ ap₂ (λ (f n : ℕ). head_of f a.size n a.address) h.flags-f.ensures h.sequence-s.ensures)
    j.copy.ensures k.copy-2.ensures c.fill.ensures
