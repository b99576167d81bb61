-- The content reply (document 01, "Packets"; CFU 5.5.2): its fields and its 16 bytes. Building it is never refused.
use Rattle.std.specs.Prelude.{ℕ, ◌^◌, ◌<◌, cond, List, ◌∷◌, ◌++◌, eqb, length, get_or, replicate, Result}
use Rattle.wire.specs.Bytes.{number, bytes_of, bytes_at}
use Rattle.wire.specs.Rows.{served, row_p, Told, told}
use Rattle.wire.specs.Codes.{short_size}
use Rattle.wire_content.specs.declared.reply.ContentReply.{ContentReply}
use Rattle.wire.specs.declared.verdict.PacketRefusal.{PacketRefusal}

-- the values of the type
pub record FitsReply (r : ContentReply) : Type 0 where
  pub sequence : r.sequence < 256 ^ 2
  pub status : r.status < 256

-- sequence at 0-1, status at 4, all else zero
abbrev pub reply_bytes : ContentReply → List ℕ
reply_bytes r = bytes_of 2 r.sequence ++ 0 ∷ 0 ∷ r.status ∷ replicate 11 0

-- the fields of 16 bytes
abbrev pub reply_in : List ℕ → ContentReply
reply_in p = record { sequence = number (bytes_at 2 0 p); status = get_or p 4 0 }

-- all fields zero
abbrev pub blank_reply : ContentReply
blank_reply = record { sequence = 0; status = 0 }

-- what reading answers: P1 with all fields zero, or the fields
unfoldable pub read_reply_of : List ℕ → Told ContentReply
read_reply_of p = cond (eqb (length p) short_size) (record { row = served; value = reply_in p }) (record { row = row_p 1; value = blank_reply })

-- the row and the fields of a reader's answer
abbrev pub told_reply : Result ContentReply PacketRefusal → Told ContentReply
told_reply = told blank_reply

-- the packet with its reserved bytes zero: 2-3 and 5-15
abbrev pub clean_reply : List ℕ → List ℕ
clean_reply p = get_or p 0 0 ∷ get_or p 1 0 ∷ 0 ∷ 0 ∷ get_or p 4 0 ∷ replicate 11 0
