-- A packet of the offer channel, by its kind (document 01, "Packets").
use Rattle.std.specs.Prelude.{ℕ, List, Result, Ok, Err}
use Rattle.wire.specs.declared.verdict.PacketRefusal.{PacketRefusal}
use Rattle.wire_offer.specs.Kind.{Kind, offer, information, extended}
use Rattle.wire_offer.specs.declared.kind.OfferPacket.{OfferPacket}
use Rattle.wire_offer.specs.declared.kind.OfferPacket.TheVariants.{Offer, Information, Extended}
use Rattle.device_component.specs.declared.record.Component.{Component}
use Rattle.device_slots.specs.Standing.{standing_of}
use Rattle.device_slots.specs.declared.standing.Standing.{Standing}
use Rattle.device_session.specs.Effect.{silent}
use Rattle.device_session.specs.declared.effect.Session.{Session}
use Rattle.device_session.specs.declared.effect.Effect.{Effect}
use Rattle.device_offering.specs.Offer.{on_offer, on_offer_at}
use Rattle.device_offering.specs.Signal.{on_information, on_extended}

-- the id of the component that a packet is for, and of the one that it needs; 0 where it is no offer
abbrev pub id_of : Result OfferPacket PacketRefusal → ℕ
id_of (Err e) = 0
id_of (Ok (Offer o)) = o.id
id_of (Ok (Information s)) = 0
id_of (Ok (Extended s)) = 0

abbrev pub need_of : Result OfferPacket PacketRefusal → ℕ
need_of (Err e) = 0
need_of (Ok (Offer o)) = o.need
need_of (Ok (Information s)) = 0
need_of (Ok (Extended s)) = 0

abbrev pub on_kind : (platform count : ℕ) → List Component → Session → Kind → Effect
on_kind platform count components session (offer o) = on_offer platform count components session o
on_kind platform count components session (information s) = on_information session s
on_kind platform count components session (extended s) = on_extended session s

-- what the reader hands out, with the component that it is for and the one that it needs; bytes that are no packet get no reply and change nothing
abbrev pub on_packet_at : (platform : ℕ) → Session → (target needed : Standing) → Result OfferPacket PacketRefusal → Effect
on_packet_at platform session target needed (Err e) = silent session
on_packet_at platform session target needed (Ok (Offer o)) = on_offer_at platform session target needed o
on_packet_at platform session target needed (Ok (Information s)) = on_information session s
on_packet_at platform session target needed (Ok (Extended s)) = on_extended session s

-- .. for a device's components
abbrev pub on_packet : (platform count : ℕ) → List Component → Session → Result OfferPacket PacketRefusal → Effect
on_packet platform count components session p = on_packet_at platform session (standing_of (id_of p) count components) (standing_of (need_of p) count components) p
