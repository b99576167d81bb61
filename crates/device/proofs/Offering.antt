-- The reply to an offer, by its verdict, with the offer's token. Assumes nothing.
use Prim.Native.Nat.{ℕ}
use mathlib.Core.Path.{◌≡◌, ◌∙◌}
use mathlib.Core.List.{List}
use lib.ListN.{length}
use Rattle.wire_offer.specs.Reply.{reply_bytes}
use Rattle.wire_offer.specs.Kind.{offer, kind_in}
use Rattle.wire_offer.specs.declared.offer.OfferFields.{OfferFields}
use Rattle.std.specs.Prelude.{None}
use Rattle.device_offering.specs.Offer as offering
use Rattle.device_offering.specs.Offer.{status_of, reason_of, on_offer}
use Rattle.device_offering.specs.declared.verdict.OfferVerdict.{OfferVerdict}
use Rattle.device.specs.declared.record.Device.{Device}
use Rattle.device.specs.declared.answer.Channel.TheVariants.{Offer}
use Rattle.device.specs.Record.{with_session}
use Rattle.device.specs.Entries.{serve_entry}
use Rattle.device.proofs.Calls.{Sound, answered_with, serves_kind}

-- checks 1 to 9 over a record
abbrev pub offer_verdict : Device → OfferFields → OfferVerdict
offer_verdict d o = offering.offer_verdict d.platform d.count d.components d.session.stage o

-- the record after a verdict
abbrev pub after_offer : Device → (token : ℕ) → OfferVerdict → Device
after_offer d token v = with_session d d.components (offering.after_offer d.session token v)

pub answers : (d : Device) (s p : List ℕ) (o : OfferFields) (v : OfferVerdict) → Sound d s → length p ≡ 16 → kind_in p ≡ offer o → offer_verdict d o ≡ v
    → serve_entry d Offer s p
    ≡ answered_with (reply_bytes (record { token = o.token; reason = reason_of v; status = status_of v })) None (after_offer d o.token v)
unfolding on_offer
answers d s p o v h l e q = serves_kind d s p (offer o) h l e ∙ rw q
