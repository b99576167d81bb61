-- `action::written_in` meets its contract: by the action. Assumes nothing.
use mathlib.Core.Path.{refl}
use Rattle.host_packet.specs.Made.{laid_of}
use Rattle.host_packet.proofs.action.Laws.{offer_laid}
use Rattle.host_packet.proofs.action.written_in.Goals.{In-Nothing}
use Rattle.host_packet.proofs.action.written_in.Goals as goal

pub returns-in-Nothing : goal.returns-in-Nothing
unfolding laid_of
returns-in-Nothing c =
    rw (goal.at.returns-in-Nothing c).In-Nothing.in-Nothing.is c.silent.ensures

pub returns-in-Information : goal.returns-in-Information
unfolding laid_of
returns-in-Information c = rw c.in-Information.is (offer_laid _ _ _ refl c.information.ensures)

pub returns-in-Notify : goal.returns-in-Notify
unfolding laid_of
returns-in-Notify c = rw c.in-Notify.is (offer_laid _ _ _ refl c.notify.ensures)

pub returns-in-Offer : goal.returns-in-Offer
unfolding laid_of
returns-in-Offer c = rw c.in-Offer.is c.written_offer.ensures

pub returns-in-Block : goal.returns-in-Block
unfolding laid_of
returns-in-Block c = rw c.in-Block.is c.written_block.ensures
