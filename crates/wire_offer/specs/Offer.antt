-- An offer (document 01, "Packets"; CFU 5.2): its fields, its 16 bytes, and when building it is refused.
use Rattle.std.specs.Prelude.{ℕ, ◌*◌, ◌/◌, ◌%◌, ◌^◌, ◌<◌, Bool, true, false, cond, ◌&&◌, List, ◌∷◌, ◌++◌, eqb, leb, ltb, get_or, replicate, Result}
use Rattle.wire.specs.Bytes.{number, bytes_of, bytes_at}
use Rattle.wire.specs.Version.{FitsVersion, version_at, version_bytes}
use Rattle.wire.specs.Rows.{served, row_p, Told, told}
use Rattle.wire.specs.Codes.{short_size}
use Rattle.wire_offer.specs.declared.offer.OfferFields.{OfferFields}
use Rattle.wire.specs.declared.verdict.PacketRefusal.{PacketRefusal}

-- the values of the type
pub record FitsOffer (o : OfferFields) : Type 0 where
  pub segment : o.segment < 256
  pub id : o.id < 256
  pub token : o.token < 256
  pub version : FitsVersion o.version
  pub need : o.need < 256
  pub least : o.least < 256 ^ 4
  pub protocol : o.protocol < 256
  pub platform : o.platform < 256 ^ 2

-- not P2: an id up to 0xFD, a least version of 24 bits, a protocol of four
abbrev pub allowed : OfferFields → Bool
allowed o = (leb o.id 0xFD && ltb o.least 0x1000000) && ltb o.protocol 16

-- byte 1: I in bit 6, V in bit 7
abbrev pub flags_of : (i v : Bool) → ℕ
flags_of true true = 0xC0
flags_of true false = 0x40
flags_of false true = 0x80
flags_of false false = 0

-- the 16 bytes in wire order; byte 13 is reserved
unfoldable pub offer_bytes : OfferFields → List ℕ
offer_bytes o =
    o.segment ∷ flags_of o.force_immediate_reset o.force_ignore_version ∷ o.id ∷ o.token
    ∷ version_bytes o.version
    ++ o.need ∷ bytes_of 3 o.least
    ++ o.protocol ∷ 0 ∷ bytes_of 2 o.platform

-- what building answers
unfoldable pub build_of : OfferFields → Told (List ℕ)
build_of o = cond (allowed o) (record { row = served; value = offer_bytes o }) (record { row = row_p 2; value = replicate short_size 0 })

-- the row and the bytes of a built offer
abbrev pub told_built : Result (List ℕ) PacketRefusal → Told (List ℕ)
told_built = told (replicate short_size 0)

-- the fields of 16 bytes, reserved bits left out: protocol is the four bits, unjudged
unfoldable pub fields_in : List ℕ → OfferFields
fields_in p = record {
  segment = get_or p 0 0;
  force_immediate_reset = eqb (get_or p 1 0 / 64 % 2) 1;
  force_ignore_version = eqb (get_or p 1 0 / 128 % 2) 1;
  id = get_or p 2 0;
  token = get_or p 3 0;
  version = version_at 4 p;
  need = get_or p 8 0;
  least = number (bytes_at 3 9 p);
  protocol = get_or p 12 0 % 16;
  platform = number (bytes_at 2 14 p);
}

-- all fields zero
abbrev pub blank_offer : OfferFields
blank_offer = record {
  segment = 0;
  force_immediate_reset = false;
  force_ignore_version = false;
  id = 0;
  token = 0;
  version = record { 0 = 0 };
  need = 0;
  least = 0;
  protocol = 0;
  platform = 0;
}

-- the packet with its reserved bits zero: byte 1 bits 0-5, byte 12 bits 4-7, byte 13
unfoldable pub clean_offer : List ℕ → List ℕ
clean_offer p = get_or p 0 0 ∷ get_or p 1 0 / 64 * 64 ∷ bytes_at 10 2 p ++ get_or p 12 0 % 16 ∷ 0 ∷ bytes_at 2 14 p
