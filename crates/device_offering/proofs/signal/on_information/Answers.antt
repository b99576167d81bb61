-- `signal::on_information` meets its contract: code 0, codes 1 and 2, any other. Assumes nothing.
use mathlib.Core.Path.{◌∙◌}
use borrow.Author.Tests.{eq-eqb, ne_eqb, le-leb, lt-leb}
use Rattle.device_offering.specs.Signal.{on_information}
use Rattle.device_offering.proofs.signal.on_information.Goals as goal

pub returns-then-s-eq-INFO_START_ENTIRE_TRANSACTION : goal.returns-then-s-eq-INFO_START_ENTIRE_TRANSACTION
unfolding on_information
returns-then-s-eq-INFO_START_ENTIRE_TRANSACTION c = rw (eq-eqb _ _ c.if-s-eq-INFO_START_ENTIRE_TRANSACTION.true) (c.plain_reply.ensures ∙ rw c.idle-next.ensures)

pub returns-then-s-le-INFO_END_OFFER_LIST : goal.returns-then-s-le-INFO_END_OFFER_LIST
unfolding on_information
returns-then-s-le-INFO_END_OFFER_LIST c = rw (ne_eqb _ _ c.if-s-eq-INFO_START_ENTIRE_TRANSACTION.false, le-leb _ _ c.if-s-le-INFO_END_OFFER_LIST.true) c.plain_reply-then-s-le-INFO_END_OFFER_LIST.ensures

pub returns : goal.returns
unfolding on_information
returns c = rw (ne_eqb _ _ c.if-s-eq-INFO_START_ENTIRE_TRANSACTION.false, lt-leb _ _ c.if-s-le-INFO_END_OFFER_LIST.false) c.plain_reply-2.ensures
