-- The offer reply (document 01, "Packets"; CFU 5.2.2): its fields and its 16 bytes, for all three kinds. Building it is never refused.
use Rattle.std.specs.Prelude.{ℕ, ◌<◌, cond, List, [], ◌∷◌, eqb, length, get_or, Result}
use Rattle.wire.specs.Rows.{served, row_p, Told, told}
use Rattle.wire.specs.Codes.{short_size}
use Rattle.wire_offer.specs.declared.reply.OfferReply.{OfferReply}
use Rattle.wire.specs.declared.verdict.PacketRefusal.{PacketRefusal}

-- the values of the type
pub record FitsReply (r : OfferReply) : Type 0 where
  pub token : r.token < 256
  pub reason : r.reason < 256
  pub status : r.status < 256

-- token at 3, reason at 8, status at 12, all else zero
abbrev pub reply_bytes : OfferReply → List ℕ
reply_bytes r = 0 ∷ 0 ∷ 0 ∷ r.token ∷ 0 ∷ 0 ∷ 0 ∷ 0 ∷ r.reason ∷ 0 ∷ 0 ∷ 0 ∷ r.status ∷ 0 ∷ 0 ∷ 0 ∷ []

-- the fields of 16 bytes
abbrev pub reply_in : List ℕ → OfferReply
reply_in p = record { token = get_or p 3 0; reason = get_or p 8 0; status = get_or p 12 0 }

-- all fields zero
abbrev pub blank_reply : OfferReply
blank_reply = record { token = 0; reason = 0; status = 0 }

-- what reading answers: P1 with all fields zero, or the fields
unfoldable pub read_reply_of : List ℕ → Told OfferReply
read_reply_of p = cond (eqb (length p) short_size) (record { row = served; value = reply_in p }) (record { row = row_p 1; value = blank_reply })

-- the row and the fields of a reader's answer
abbrev pub told_reply : Result OfferReply PacketRefusal → Told OfferReply
told_reply = told blank_reply

-- the packet with its reserved bytes zero: 0-2, 4-7, 9-11, 13-15
abbrev pub clean_reply : List ℕ → List ℕ
clean_reply p =
    0 ∷ 0 ∷ 0 ∷ get_or p 3 0 ∷ 0 ∷ 0 ∷ 0 ∷ 0 ∷ get_or p 8 0 ∷ 0 ∷ 0 ∷ 0 ∷ get_or p 12 0 ∷ 0 ∷ 0 ∷ 0 ∷ []
