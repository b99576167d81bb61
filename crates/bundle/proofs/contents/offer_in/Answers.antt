-- `contents::offer_in`: the reader finds an offer, and no other kind. Assumes nothing.
use mathlib.Core.Path.{◌≡◌, ◌∙◌}
use Rattle.wire_offer.specs.declared.kind.OfferPacket.TheVariants.{Offer}
use Rattle.std.specs.Prelude.{Ok}
use Rattle.wire_offer.specs.Offer.{fields_in}
use Rattle.bundle.proofs.contents.Laws.{read_offer, offer_told}
use Rattle.bundle.proofs.contents.offer_in.Goals.{After-read_offer_packet}
use Rattle.bundle.proofs.contents.offer_in.Goals as goal

-- the packet is an offer
is_offer_lem : (c : After-read_offer_packet) → c.read_offer_packet.result ≡ Ok (Offer (fields_in c.args.p.now))
is_offer_lem c = offer_told _ _ (c.read_offer_packet.ensures ∙ read_offer _ c.requires.0 c.requires.1)

pub returns-in-Err : goal.returns-in-Err
returns-in-Err c =
    let e = rw (is_offer_lem (goal.at.returns-in-Err c).After-read_offer_packet) at c.in-Err.is in cc e

pub returns-in-Ok-Offer : goal.returns-in-Ok-Offer
returns-in-Ok-Offer c =
    cc (is_offer_lem (goal.at.returns-in-Ok-Offer c).After-read_offer_packet, c.in-Ok-Offer.is, c.in-Ok-Offer.field-0-is)

pub returns-in-Ok-Information : goal.returns-in-Ok-Information
returns-in-Ok-Information c =
    cc (is_offer_lem (goal.at.returns-in-Ok-Information c).After-read_offer_packet, c.in-Ok-Information.is, c.in-Ok-Information.field-0-is)

pub returns-in-Ok-Extended : goal.returns-in-Ok-Extended
returns-in-Ok-Extended c =
    cc (is_offer_lem (goal.at.returns-in-Ok-Extended c).After-read_offer_packet, c.in-Ok-Extended.is, c.in-Ok-Extended.field-0-is)
