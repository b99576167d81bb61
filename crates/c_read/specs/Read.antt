-- Reading each packet from C (document 01, "Packets", rows P1 and P2).
use Rattle.std.specs.Prelude.{ℕ, Bool, true, false, List}
use Rattle.wire.specs.Rows.{Row, row_p, Told}
use Rattle.wire.specs.Codes.{packet_data_size}
use Rattle.wire_offer.specs.Offer as offer
use Rattle.wire_offer.specs.Kind as kind
use Rattle.wire_offer.specs.Reply as offer_reply
use Rattle.wire_offer.specs.declared.offer.OfferFields.{OfferFields}
use Rattle.wire_offer.specs.declared.signal.Signal.{Signal}
use Rattle.wire_offer.specs.declared.reply.OfferReply.{OfferReply}
use Rattle.wire_content.specs.Content as content
use Rattle.wire_content.specs.Reply as content_reply
use Rattle.wire_content.specs.declared.content.ContentFields.{ContentFields}
use Rattle.wire_content.specs.declared.reply.ContentReply.{ContentReply}
use Rattle.wire_version.specs.Reply as versions
use Rattle.wire_version.specs.declared.VersionReply.{VersionReply}
use Rattle.c_version.specs.Layout.{components_size, components_bytes}
use Rattle.c_types.specs.declared.types.COffer.{COffer}
use Rattle.c_types.specs.declared.types.CSignal.{CSignal}
use Rattle.c_types.specs.declared.types.COfferPacket.{COfferPacket}
use Rattle.c_types.specs.declared.types.COfferReply.{COfferReply}
use Rattle.c_types.specs.declared.types.CContent.{CContent}
use Rattle.c_types.specs.declared.types.CContentReply.{CContentReply}
use Rattle.c_types.specs.declared.types.CVersionReply.{CVersionReply}
use Rattle.c_types.specs.Version.{parts_of}
use Rattle.c_types.specs.Numbers.{served_number, wrong_output, kind_none, kind_offer, kind_information, kind_extended, packet_number, sized}

-- what reading tells
abbrev pub flag_of : Bool → ℕ
flag_of true = 1
flag_of false = 0

abbrev pub offer_of : OfferFields → COffer
offer_of o = record {
  segment = o.segment;
  force_immediate_reset = flag_of o.force_immediate_reset;
  force_ignore_version = flag_of o.force_ignore_version;
  id = o.id;
  token = o.token;
  version = parts_of o.version;
  need = o.need;
  least = o.least;
  protocol = o.protocol;
  platform = o.platform;
}

abbrev pub no_signal : CSignal
no_signal = record { code = 0; token = 0 }

abbrev pub signal_of : Signal → CSignal
signal_of s = record { code = s.code; token = s.token }

-- a refused packet has no kind
abbrev pub packet_of : Row → kind.Kind → COfferPacket
packet_of Row.served (kind.offer o) = record { number = served_number; kind = kind_offer; offer = offer_of o; signal = no_signal }
packet_of Row.served (kind.information s) = record { number = served_number; kind = kind_information; offer = offer_of offer.blank_offer; signal = signal_of s }
packet_of Row.served (kind.extended s) = record { number = served_number; kind = kind_extended; offer = offer_of offer.blank_offer; signal = signal_of s }
packet_of (row_p k) any = record { number = packet_number (row_p k); kind = kind_none; offer = offer_of offer.blank_offer; signal = no_signal }

unfoldable pub read_offer_call : (packet : List ℕ) → COfferPacket
read_offer_call packet = packet_of (kind.read_of packet).row (kind.read_of packet).value

abbrev pub offer_reply_of : Told OfferReply → COfferReply
offer_reply_of t = record { number = packet_number t.row; token = t.value.token; reason = t.value.reason; status = t.value.status }

unfoldable pub read_offer_reply_call : (packet : List ℕ) → COfferReply
read_offer_reply_call packet = offer_reply_of (offer_reply.read_reply_of packet)

abbrev pub content_reply_of : Told ContentReply → CContentReply
content_reply_of t = record { number = packet_number t.row; sequence = t.value.sequence; status = t.value.status }

unfoldable pub read_content_reply_call : (packet : List ℕ) → CContentReply
read_content_reply_call packet = content_reply_of (content_reply.read_reply_of packet)

-- a content packet's fields, and its data in a lent buffer
pub record ContentLeft : Type 0 where
  pub content : CContent
  pub left : List ℕ

abbrev pub told_content : CContent → List ℕ → ContentLeft
told_content content left = record { content = content; left = left }

abbrev pub content_by : Told ContentFields → ContentLeft
content_by t = record {
  content = record {
    number = packet_number t.row;
    flags = t.value.flags;
    length = t.value.length;
    sequence = t.value.sequence;
    address = t.value.address.0;
  };
  left = t.value.«data»;
}

unfoldable pub read_content_call : (packet bytes : List ℕ) → ContentLeft
read_content_call packet bytes =
    sized bytes packet_data_size
    (record { content = record { number = wrong_output; flags = 0; length = 0; sequence = 0; address = 0 }; left = bytes })
    (content_by (content.read_of packet))

-- a version reply's fields, and its components in a lent buffer
pub record VersionsLeft : Type 0 where
  pub reply : CVersionReply
  pub left : List ℕ

abbrev pub told_versions : CVersionReply → List ℕ → VersionsLeft
told_versions reply left = record { reply = reply; left = left }

abbrev pub versions_by : Told VersionReply → VersionsLeft
versions_by t = record {
  reply = record { number = packet_number t.row; count = t.value.count; protocol = t.value.protocol };
  left = components_bytes t.value.components;
}

unfoldable pub read_version_reply_call : (packet components : List ℕ) → VersionsLeft
read_version_reply_call packet components =
    sized components components_size
    (record { reply = record { number = wrong_output; count = 0; protocol = 0 }; left = components })
    (versions_by (versions.read_of packet))
