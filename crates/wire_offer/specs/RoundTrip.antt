-- The round trips of the offer channel's four packets, for all values of the types: R1 what is built reads back; R2 what is read and built
-- again is the packet with its reserved bits zero; R3 those bits change nothing that is read.
use Rattle.std.specs.Prelude.{ℕ, ◌≡◌, List}
use Rattle.wire.specs.Bytes.{Packet}
use Rattle.wire.specs.Rows.{served}
use Rattle.wire.specs.Codes.{short_size}
use Rattle.wire_offer.specs.declared.offer.OfferFields.{OfferFields}
use Rattle.wire_offer.specs.declared.signal.Signal.{Signal}
use Rattle.wire_offer.specs.declared.reply.OfferReply.{OfferReply}
use Rattle.wire_offer.specs.Offer.{FitsOffer, build_of, clean_offer}
use Rattle.wire_offer.specs.Signal.{FitsSignal, information_bytes, extended_bytes, clean_signal}
use Rattle.wire_offer.specs.Kind.{offer, information, extended, read_of}
use Rattle.wire_offer.specs.Reply.{FitsReply, reply_bytes, read_reply_of, clean_reply}

-- offer: an offer that P2 refuses is not built; one that was read is never refused
abbrev pub OfferR1 : Type 0
OfferR1 = (o : OfferFields) → FitsOffer o → (build_of o).row ≡ served → read_of (build_of o).value ≡ record { row = served; value = offer o }

abbrev pub OfferR2 : Type 0
OfferR2 = (p : List ℕ) (o : OfferFields) → Packet short_size p → (read_of p).value ≡ offer o → build_of o ≡ record { row = served; value = clean_offer p }

abbrev pub OfferR3 : Type 0
OfferR3 = (p : List ℕ) (o : OfferFields) → Packet short_size p → (read_of p).value ≡ offer o → read_of (clean_offer p) ≡ read_of p

-- information
abbrev pub InformationR1 : Type 0
InformationR1 = (s : Signal) → FitsSignal s → read_of (information_bytes s) ≡ record { row = served; value = information s }

abbrev pub InformationR2 : Type 0
InformationR2 = (p : List ℕ) (s : Signal) → Packet short_size p → (read_of p).value ≡ information s → information_bytes s ≡ clean_signal p

abbrev pub InformationR3 : Type 0
InformationR3 = (p : List ℕ) (s : Signal) → Packet short_size p → (read_of p).value ≡ information s → read_of (clean_signal p) ≡ read_of p

-- extended
abbrev pub ExtendedR1 : Type 0
ExtendedR1 = (s : Signal) → FitsSignal s → read_of (extended_bytes s) ≡ record { row = served; value = extended s }

abbrev pub ExtendedR2 : Type 0
ExtendedR2 = (p : List ℕ) (s : Signal) → Packet short_size p → (read_of p).value ≡ extended s → extended_bytes s ≡ clean_signal p

abbrev pub ExtendedR3 : Type 0
ExtendedR3 = (p : List ℕ) (s : Signal) → Packet short_size p → (read_of p).value ≡ extended s → read_of (clean_signal p) ≡ read_of p

-- offer reply
abbrev pub OfferReplyR1 : Type 0
OfferReplyR1 = (r : OfferReply) → FitsReply r → read_reply_of (reply_bytes r) ≡ record { row = served; value = r }

abbrev pub OfferReplyR2 : Type 0
OfferReplyR2 = (p : List ℕ) → Packet short_size p → reply_bytes (read_reply_of p).value ≡ clean_reply p

abbrev pub OfferReplyR3 : Type 0
OfferReplyR3 = (p : List ℕ) → Packet short_size p → read_reply_of (clean_reply p) ≡ read_reply_of p
