-- The round trips of the content channel's two packets, for all values of the types: R1 what is built reads back; R2 what is read and, unless
-- P2 applies, built again is the packet with unused data and reserved bytes zero; R3 those bytes change nothing that is read.
use Rattle.std.specs.Prelude.{ℕ, ◌≡◌, List}
use Rattle.wire.specs.Bytes.{Packet}
use Rattle.wire.specs.Rows.{served}
use Rattle.wire.specs.Codes.{short_size, long_size}
use Rattle.wire_content.specs.declared.content.ContentFields.{ContentFields}
use Rattle.wire_content.specs.declared.reply.ContentReply.{ContentReply}
use Rattle.wire_content.specs.Content.{FitsContent, build_of, read_of, norm, clean_content}
use Rattle.wire_content.specs.Reply.{FitsReply, reply_bytes, read_reply_of, clean_reply}

-- content: what P2 refuses is not built; flags and length are read as they stand, so P2 can apply when they are built again
abbrev pub ContentR1 : Type 0
ContentR1 = (c : ContentFields) → FitsContent c → (build_of c).row ≡ served → read_of (build_of c).value ≡ record { row = served; value = norm c }

abbrev pub ContentR2 : Type 0
ContentR2 = (p : List ℕ) → Packet long_size p → (build_of (read_of p).value).row ≡ served → (build_of (read_of p).value).value ≡ clean_content p

abbrev pub ContentR3 : Type 0
ContentR3 = (p : List ℕ) → Packet long_size p → read_of (clean_content p) ≡ read_of p

-- content reply
abbrev pub ContentReplyR1 : Type 0
ContentReplyR1 = (r : ContentReply) → FitsReply r → read_reply_of (reply_bytes r) ≡ record { row = served; value = r }

abbrev pub ContentReplyR2 : Type 0
ContentReplyR2 = (p : List ℕ) → Packet short_size p → reply_bytes (read_reply_of p).value ≡ clean_reply p

abbrev pub ContentReplyR3 : Type 0
ContentReplyR3 = (p : List ℕ) → Packet short_size p → read_reply_of (clean_reply p) ≡ read_reply_of p
