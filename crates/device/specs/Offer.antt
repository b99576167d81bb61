-- The offer entry: offers, information and extended packets (document 01, "The device").
use Rattle.std.specs.Prelude.{ℕ, Bool, List, length}
use Rattle.wire.specs.Codes.{short_size}
use Rattle.wire_offer.specs.Kind.{Kind, kind_in}
use Rattle.wire_offer.specs.declared.offer.OfferFields.{OfferFields}
use Rattle.device_offering.specs.Offer as offering
use Rattle.device_offering.specs.Packet as packet
use Rattle.device_offering.specs.declared.verdict.OfferVerdict.{OfferVerdict}
use Rattle.device.specs.declared.record.Device.{Device}
use Rattle.device.specs.Refusals.{Outcome, refusal_of, unless_refused, served_with}

-- checks 2 to 7, those of the variant and the floor among them, each with its answer, and check 8
abbrev pub rejections : Device → OfferFields → List (Bool × OfferVerdict)
rejections d o = offering.rejections d.platform d.count d.components o

abbrev pub need_unmet : Device → OfferFields → Bool
need_unmet d o = offering.need_unmet d.count d.components o

-- a packet by its kind; none changes a component
abbrev pub on_kind : Device → Kind → Outcome
on_kind d kind = served_with d d.components (packet.on_kind d.platform d.count d.components d.session kind)

-- the offer entry, for a staging buffer of n bytes
unfoldable pub offer_entry : Device → (n : ℕ) → (report : List ℕ) → Outcome
offer_entry d n report = unless_refused (refusal_of short_size d n (length report)) d (on_kind d (kind_in report))
