-- The kinds of 16-byte packets on the offer channel, by byte 2 (document 01, "Packets"), and what reading one answers.
use Rattle.std.specs.Prelude.{ℕ, cond, List, eqb, length, get_or, Result, Ok, Err}
use Rattle.wire.specs.Codes.{kind_information, kind_extended, short_size}
use Rattle.wire.specs.Rows.{served, row_p, row_of, Told}
use Rattle.wire.specs.declared.verdict.PacketRefusal.{PacketRefusal}
use Rattle.wire_offer.specs.Offer.{fields_in, blank_offer}
use Rattle.wire_offer.specs.Signal.{signal_in}
use Rattle.wire_offer.specs.declared.offer.OfferFields.{OfferFields}
use Rattle.wire_offer.specs.declared.signal.Signal.{Signal}
use Rattle.wire_offer.specs.declared.kind.OfferPacket.{OfferPacket}
use Rattle.wire_offer.specs.declared.kind.OfferPacket.TheVariants.{Offer, Information, Extended}

-- a packet by its kind
pub data Kind : Type 0 where
  offer : OfferFields → Kind
  information : Signal → Kind
  extended : Signal → Kind

-- the kind of 16 bytes
unfoldable pub kind_in : List ℕ → Kind
kind_in p =
    cond (eqb (get_or p 2 0) kind_information) (information (signal_in p))
    (cond (eqb (get_or p 2 0) kind_extended) (extended (signal_in p))
    (offer (fields_in p)))

-- what reading answers: P1 with all fields zero, or the packet
unfoldable pub read_of : List ℕ → Told Kind
read_of p = cond (eqb (length p) short_size) (record { row = served; value = kind_in p }) (record { row = row_p 1; value = offer blank_offer })

-- the kind of a packet that was read
abbrev pub kind_of : OfferPacket → Kind
kind_of (Offer o) = offer o
kind_of (Information s) = information s
kind_of (Extended s) = extended s

-- the row and the packet of a reader's answer
abbrev pub told_read : Result OfferPacket PacketRefusal → Told Kind
told_read (Ok p) = record { row = served; value = kind_of p }
told_read (Err e) = record { row = row_of e; value = offer blank_offer }
