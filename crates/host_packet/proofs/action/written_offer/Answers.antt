-- `action::written_offer` meets its contract: by the test. Assumes nothing.
use borrow.Author.Tests.{le-leb, lt-leb}
use Rattle.host_packet.proofs.action.Laws.{offer_laid, offer_length}
use Rattle.host_packet.proofs.action.written_offer.Goals.{Else-entry-b}
use Rattle.host_packet.proofs.action.written_offer.Goals as goal

pub returns-then-entry-b : goal.returns-then-entry-b
returns-then-entry-b c =
    let t = c in
    let a = t.args in
    rw (le-leb _ _ t.if-entry-b.true) (offer_laid _ _ a.cursor (offer_length a.b.now a.entry a.token t.if-entry-b.true) c.offer.ensures)

pub returns-else-entry-b : goal.returns-else-entry-b
returns-else-entry-b c =
    rw (lt-leb _ _ (goal.at.returns-else-entry-b c).Else-entry-b.if-entry-b.false) (c.lacking.ensures c.args.cursor)
