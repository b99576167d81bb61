-- `decide::act`: what each code does. Assumes nothing.
use borrow.Author.Tests.{lt-ltb, le-ltb}
use mathlib.Core.Path.{ap, ◌∙◌}
use Prim.Native.Nat.{◌+◌}
use Rattle.host_decide.specs.Decide.{act, offer_from}
use Rattle.host_decide.proofs.decide.act.Goals as goal

pub offer_from-requires-in-Some-NextOffer : goal.offer_from-requires-in-Some-NextOffer
offer_from-requires-in-Some-NextOffer c = rw c.noted.ensures c.requires.0.0

pub returns-in-Some-List : goal.returns-in-Some-List
unfolding act
returns-in-Some-List c = rw (c.in-Some-List.is, (rw c.in-Some-List.is at c.in-Some-List.field-0-is)) c.list.ensures

pub returns-in-Some-Offer : goal.returns-in-Some-Offer
unfolding act
returns-in-Some-Offer c = rw (c.in-Some-Offer.is, (rw c.in-Some-Offer.is at c.in-Some-Offer.field-0-is)) c.offer_from.ensures

pub returns-in-Some-Send : goal.returns-in-Some-Send
unfolding act
returns-in-Some-Send c = rw (c.in-Some-Send.is, (rw c.in-Some-Send.is at c.in-Some-Send.field-0-is)) c.send_block.ensures

pub returns-in-Some-NextOffer : goal.returns-in-Some-NextOffer
unfolding act
returns-in-Some-NextOffer c =
    let a = c.args in
    rw (c.in-Some-NextOffer.is, (rw c.in-Some-NextOffer.is at c.in-Some-NextOffer.field-0-is)) (c.offer_from-in-Some-NextOffer.ensures ∙ ap (offer_from a.n (a.t.entry + 1)) c.noted.ensures)

pub returns-then-t-lt-BUSY_LIMIT : goal.returns-then-t-lt-BUSY_LIMIT
unfolding act
returns-then-t-lt-BUSY_LIMIT c = rw (c.in-Some-Wait.is, (rw c.in-Some-Wait.is at c.in-Some-Wait.field-0-is), lt-ltb _ _ c.if-t-lt-BUSY_LIMIT.true) c.sends.ensures

pub returns-else-t-lt-BUSY_LIMIT : goal.returns-else-t-lt-BUSY_LIMIT
unfolding act
returns-else-t-lt-BUSY_LIMIT c = rw (c.in-Some-Wait.is, (rw c.in-Some-Wait.is at c.in-Some-Wait.field-0-is), le-ltb _ _ c.if-t-lt-BUSY_LIMIT.false) c.ends.ensures

pub returns-in-Some-Same : goal.returns-in-Some-Same
unfolding act
returns-in-Some-Same c = rw (c.in-Some-Same.is, (rw c.in-Some-Same.is at c.in-Some-Same.field-0-is)) c.sends-in-Some-Same.ensures

pub returns-then-replays : goal.returns-then-replays
unfolding act
returns-then-replays c = rw (c.in-Some-Decide.is, (rw c.in-Some-Decide.is at c.in-Some-Decide.field-0-is), ← c.replays.ensures, c.if-replays.true) c.list-then-replays.ensures

pub returns-else-replays : goal.returns-else-replays
unfolding act
returns-else-replays c = rw (c.in-Some-Decide.is, (rw c.in-Some-Decide.is at c.in-Some-Decide.field-0-is), ← c.replays.ensures, c.if-replays.false) c.ends-else-replays.ensures

pub returns-in-None : goal.returns-in-None
unfolding act
returns-in-None c = rw c.in-None.is c.ends-in-None.ensures
