-- What packets that no row refuses come to, over the bytes of a record. Contracts of private functions use these; no promise and no public contract does.
use Rattle.std.specs.Prelude.{ℕ, List, Result}
use Rattle.wire.specs.declared.verdict.PacketRefusal.{PacketRefusal}
use Rattle.wire_offer.specs.declared.kind.OfferPacket.{OfferPacket}
use Rattle.device_session.specs.Stage.{at_slot}
use Rattle.device_receiving.specs.Receive.{on_content}
use Rattle.device_offering.specs.Packet.{on_packet}
use Rattle.device.specs.Refusals.{Outcome, served_with}
use Rattle.device.specs.Content.{session_component, received}
use Rattle.device_bytes.specs.Layout.{device_in, with_session_bytes, with_component_bytes}

-- what a content packet that no row refuses comes to, over the record in these bytes
abbrev pub content_by : (b staging report : List ℕ) → Outcome
content_by b staging report =
    received (device_in b) (on_content (session_component (device_in b)) (device_in b).session report staging)

-- the bytes that it leaves: another session, and another component in the slot of the session before
abbrev pub content_stored : (b staging report : List ℕ) → List ℕ
content_stored b staging report =
    with_component_bytes (at_slot (device_in b).session.stage) (on_content (session_component (device_in b)) (device_in b).session report staging).component
    (with_session_bytes (content_by b staging report).device.session b)

-- what a packet of the offer channel that no row refuses comes to
abbrev pub packet_by : (b : List ℕ) → Result OfferPacket PacketRefusal → Outcome
packet_by b p =
    served_with (device_in b) (device_in b).components
    (on_packet (device_in b).platform (device_in b).count (device_in b).components (device_in b).session p)
