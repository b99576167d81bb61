-- The round trips of the version reply, for all values of the types: R1 what is built reads back, components at and past the count empty; R2
-- what is read, unless it is refused, and built again is the packet with its reserved bits zero; R3 those bits change nothing that is read.
use Rattle.std.specs.Prelude.{ℕ, ◌≡◌, List}
use Rattle.wire.specs.Bytes.{Packet}
use Rattle.wire.specs.Rows.{served}
use Rattle.wire_version.specs.declared.VersionReply.{VersionReply}
use Rattle.wire_version.specs.Reply.{reply_size, FitsReply, build_of, read_of, norm, clean_reply}

abbrev pub VersionReplyR1 : Type 0
VersionReplyR1 = (r : VersionReply) → FitsReply r → (build_of r).row ≡ served → read_of (build_of r).value ≡ record { row = served; value = norm r }

abbrev pub VersionReplyR2 : Type 0
VersionReplyR2 = (p : List ℕ) → Packet reply_size p → (read_of p).row ≡ served → build_of (read_of p).value ≡ record { row = served; value = clean_reply p }

abbrev pub VersionReplyR3 : Type 0
VersionReplyR3 = (p : List ℕ) → Packet reply_size p → (read_of p).row ≡ served → read_of (clean_reply p) ≡ read_of p
