-- `inner_over` meets its contract: what it reads of the contents, and the inner step. Assumes nothing.
use mathlib.Core.Path.{ap, ◌∙◌}
use borrow.Author.Rules.{rules}
use Rattle.host_bytes.specs.Layout.{body_read}
use Rattle.c_host_step.proofs.Laws.{inner_told}
use Rattle.c_host_step.proofs.inner_over.Goals as goal

pub returns : goal.returns
returns c =
    let a = c.args in
    let q = a.contents.now in
    inner_told a.host.now q a.bundle.now a.reply.now c.requires.0 c.read_host-h.result c.read_body-hand.result c.cursor_over-cursor.result _ a.packet.now c.inner_step.new.packet c.inner_step.result
    c.requires.1 c.read_host-h.ensures (c.read_body-hand.ensures ∙ ap (body_read q) c.in_hand.ensures) c.cursor_over-cursor.ensures (search rules) c.inner_step.ensures
