-- `replies_of` meets its contract: by what is due and what is owed. Assumes nothing.
use Rattle.device.specs.Refusals.{ready_bytes}
use Rattle.c_device_packet.proofs.Laws.{none_sent, one_sent, two_sent}
use lib.ListN.{length}
use mathlib.Core.Path.{◌≡◌, refl, ◌∙◌}
use borrow.Author.Rules.{rules}
use Rattle.c_device_packet.proofs.replies_of.Goals as goal

pub returns-then-replies : goal.returns-then-replies
returns-then-replies c =
    let p = c.args.replies.reply in
    let l : length p ≡ 16 = search rules in rw (c.if-replies.true, c.in-None.is) (c.joined.ensures ∙ one_sent p l)

pub returns-else-replies : goal.returns-else-replies
returns-else-replies c = rw (c.if-replies.false, c.in-None.is) (c.joined-else-replies.ensures ∙ none_sent)

pub returns-then-replies-2 : goal.returns-then-replies-2
returns-then-replies-2 c =
    let p = c.args.replies.reply in
    let l : length p ≡ 16 = search rules in
    let b = c.ready_reply-b in
    rw (c.if-replies-2.true, c.in-Some.is) (rw b.ensures at c.joined-then-replies-2.ensures ∙ two_sent p (ready_bytes _) l refl)

pub returns-else-replies-2 : goal.returns-else-replies-2
returns-else-replies-2 c =
    let b = c.ready_reply-b in
    rw (c.if-replies-2.false, c.in-Some.is) (rw b.ensures at c.joined-else-replies-2.ensures ∙ one_sent (ready_bytes _) refl)
