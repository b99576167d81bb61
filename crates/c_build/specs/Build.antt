-- Building each packet from C (document 01, "Packets", row P2).
use Rattle.std.specs.Prelude.{ℕ, Bool, cond, ◌&&◌, List, eqb, leb, replicate}
use Rattle.wire.specs.Rows.{row_p, Told}
use Rattle.wire.specs.Codes.{short_size, long_size, packet_data_size, component_limit}
use Rattle.wire_offer.specs.Offer as offer
use Rattle.wire_offer.specs.Signal.{information_bytes, extended_bytes}
use Rattle.wire_offer.specs.Reply as offer_reply
use Rattle.wire_offer.specs.declared.offer.OfferFields.{OfferFields}
use Rattle.wire_content.specs.Content as content
use Rattle.wire_content.specs.Reply as content_reply
use Rattle.wire_version.specs.Reply as versions
use Rattle.c_version.specs.Layout.{components_size, components_in}
use Rattle.c_types.specs.declared.types.COffer.{COffer}
use Rattle.c_types.specs.Version.{version_in}
use Rattle.c_types.specs.Numbers.{served_number, wrong_list, wrong_output, packet_number, sized}
use Rattle.c_types.specs.Lent.{Left, leaves}

-- a build's number and the packet that it leaves
abbrev pub built : (size : ℕ) → (packet : List ℕ) → Told (List ℕ) → Left
built size packet t = sized packet size (leaves wrong_output packet) (leaves (packet_number t.row) t.value)

-- an offer's fields; a flag over 1 does not fit its bit
abbrev pub is_set : ℕ → Bool
is_set flag = eqb flag 1

abbrev pub fields_of : COffer → OfferFields
fields_of o = record {
  segment = o.segment;
  force_immediate_reset = is_set o.force_immediate_reset;
  force_ignore_version = is_set o.force_ignore_version;
  id = o.id;
  token = o.token;
  version = version_in o.version;
  need = o.need;
  least = o.least;
  protocol = o.protocol;
  platform = o.platform;
}

abbrev pub flags_fit : COffer → Bool
flags_fit o = leb o.force_immediate_reset 1 && leb o.force_ignore_version 1

unfoldable pub build_offer_call : COffer → (packet : List ℕ) → Left
build_offer_call o packet =
    built short_size packet (cond (flags_fit o) (offer.build_of (fields_of o)) (record { row = row_p 2; value = replicate short_size 0 }))

unfoldable pub build_information_call : (code token : ℕ) → (packet : List ℕ) → Left
build_information_call code token packet =
    sized packet short_size (leaves wrong_output packet) (leaves served_number (information_bytes (record { code = code; token = token })))

unfoldable pub build_extended_call : (code token : ℕ) → (packet : List ℕ) → Left
build_extended_call code token packet =
    sized packet short_size (leaves wrong_output packet) (leaves served_number (extended_bytes (record { code = code; token = token })))

unfoldable pub build_offer_reply_call : (token reason status : ℕ) → (packet : List ℕ) → Left
build_offer_reply_call token reason status packet =
    sized packet short_size (leaves wrong_output packet)
    (leaves served_number (offer_reply.reply_bytes (record { token = token; reason = reason; status = status })))

unfoldable pub build_content_call : (flags length sequence address : ℕ) → (bytes packet : List ℕ) → Left
build_content_call flags length sequence address bytes packet =
    sized bytes packet_data_size (leaves wrong_list packet)
    (built long_size packet (content.build_of (record {
      flags = flags;
      length = length;
      sequence = sequence;
      address = record { 0 = address };
      «data» = bytes;
    })))

unfoldable pub build_content_reply_call : (sequence status : ℕ) → (packet : List ℕ) → Left
build_content_reply_call sequence status packet =
    sized packet short_size (leaves wrong_output packet)
    (leaves served_number (content_reply.reply_bytes (record { sequence = sequence; status = status })))

-- a version reply, with its components as bytes
unfoldable pub build_version_reply_call : (count protocol : ℕ) → (components packet : List ℕ) → Left
build_version_reply_call count protocol components packet =
    sized components components_size (leaves wrong_list packet)
    (built long_size packet (versions.build_of (record { count = count; protocol = protocol; components = components_in component_limit components })))
