-- How a session opens, and what a pending component keeps (document 01, "The device"; document 00: one module took another module's image).
use Rattle.std.specs.Prelude.{ℕ, ◌<◌, ◌≡◌, true, List, [], ◌∷◌, ◌⊎◌, Some}
use Rattle.wire.specs.Codes.{offer_accept}
use Rattle.wire_offer.specs.Kind.{offer, kind_in}
use Rattle.wire_offer.specs.Reply.{reply_bytes}
use Rattle.wire_offer.specs.declared.offer.OfferFields.{OfferFields}
use Rattle.image.specs.Region.{region_bytes}
use Rattle.device_component.specs.Record.{is_pending}
use Rattle.device_session.specs.Stage.{open_slot}
use Rattle.device_offering.specs.Offer.{offer_verdict}
use Rattle.device_offering.specs.declared.verdict.OfferVerdict.TheVariants.{Accept}
use Rattle.device.specs.declared.record.Device.{Device}
use Rattle.device.specs.declared.answer.Channel.{Channel}
use Rattle.device.specs.declared.answer.Channel.TheVariants.{Offer}
use Rattle.device.specs.Record.{FitsDevice, find, component}
use Rattle.device.specs.Entries.{serve_entry, serve_staging}

-- an ACCEPT for the component in slot k: the packet is an offer for that component, the checks accept it, and the only reply says so
pub record Accepts (d : Device) (channel : Channel) (staging report : List ℕ) (k : ℕ) : Type 0 where
  pub fields : OfferFields
  pub entry : channel ≡ Offer
  pub kind : kind_in report ≡ offer fields
  pub component : find d fields.id ≡ Some k
  pub verdict : offer_verdict d.platform d.count d.components d.session.stage fields ≡ Accept k
  pub reply : (serve_entry d channel staging report).sent ≡ reply_bytes (record { token = fields.token; reason = 0; status = offer_accept }) ∷ []

-- a session opens only by an ACCEPT for that component: if it is open on a slot after a packet, it was so before, or the packet was accepted for the
-- component there
abbrev pub OpensByAccept : Type 0
OpensByAccept = (d : Device) (channel : Channel) (staging report : List ℕ) (k : ℕ)
    → open_slot (serve_entry d channel staging report).device.session.stage ≡ Some k
    → (open_slot d.session.stage ≡ Some k) ⊎ Accepts d channel staging report k

-- while a component is pending, no packet changes a byte of its region
abbrev pub PendingKept : Type 0
PendingKept = (d : Device) (channel : Channel) (staging report : List ℕ) (k : ℕ) → FitsDevice d
    → k < d.count → is_pending (component d k).staged ≡ true
    → region_bytes (component d k).fixed.region (serve_staging d channel staging report) ≡ region_bytes (component d k).fixed.region staging
