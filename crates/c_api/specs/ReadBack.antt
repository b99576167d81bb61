-- What C builds, C reads back (document 01, "Packets"), for all values of the types: where a build is served, the call that reads such packets tells the same
-- fields of the packet that it left. Unused data and components past the count are read as zero. And what C writes as a bundle, C's check accepts (document 02, A3).
use Rattle.std.specs.Prelude.{ℕ, ◌*◌, ◌^◌, ◌<◌, ◌≡◌, List, length, take}
use Rattle.wire.specs.Bytes.{Bytes}
use Rattle.wire.specs.Codes.{packet_data_size}
use Rattle.wire_offer.specs.Signal.{FitsSignal}
use Rattle.wire_offer.specs.Reply as offer_reply
use Rattle.wire_offer.specs.declared.signal.Signal.{Signal}
use Rattle.wire_offer.specs.declared.reply.OfferReply.{OfferReply}
use Rattle.wire_content.specs.Content.{FitsContent, cleared}
use Rattle.wire_content.specs.Reply as content_reply
use Rattle.wire_content.specs.declared.content.ContentFields.{ContentFields}
use Rattle.wire_content.specs.declared.reply.ContentReply.{ContentReply}
use Rattle.c_version.specs.Layout.{running_size, components_size}
use Rattle.c_types.specs.declared.types.CVersion.{CVersion}
use Rattle.c_types.specs.declared.types.COffer.{COffer}
use Rattle.c_types.specs.Numbers.{served_number, kind_offer, kind_information, kind_extended}
use Rattle.c_types.specs.Lent.{Left}
use Rattle.c_build.specs.Build.{build_version_reply_call, build_offer_call, build_information_call, build_extended_call, build_offer_reply_call, build_content_call, build_content_reply_call}
use Rattle.c_read.specs.Read.{read_version_reply_call, read_offer_call, read_offer_reply_call, read_content_call, read_content_reply_call}
use Rattle.host_bytes.specs.Layout.{contents_size}
use Rattle.bundle_given.specs.Given.{count_of}
use Rattle.c_host.specs.Check.{check_call}
use Rattle.c_writer.specs.Write.{write_call}
use Rattle.c_api.specs.Packets.{no_offer}

-- the values of the types
pub record FitsCVersion (v : CVersion) : Type 0 where
  pub major : v.major < 256
  pub minor : v.minor < 256 ^ 2
  pub variant : v.variant < 256

pub record FitsCOffer (o : COffer) : Type 0 where
  pub segment : o.segment < 256
  pub immediate_reset : o.force_immediate_reset < 256
  pub ignore_version : o.force_ignore_version < 256
  pub id : o.id < 256
  pub token : o.token < 256
  pub version : FitsCVersion o.version
  pub need : o.need < 256
  pub least : o.least < 256 ^ 4
  pub protocol : o.protocol < 256
  pub platform : o.platform < 256 ^ 2

-- where a build was served, reading the packet that it left tells this
abbrev pub ReadsBack : {A : Type 0} → (built : Left) → (read : List ℕ → A) → (told : A) → Type 0
ReadsBack built read told = built.number ≡ served_number → read built.left ≡ told

-- cfu_build_offer and cfu_read_offer
abbrev pub OfferCallsReadBack : Type 0
OfferCallsReadBack =
    (o : COffer) (packet : List ℕ) → FitsCOffer o
    → ReadsBack (build_offer_call o packet) read_offer_call (record { number = served_number; kind = kind_offer; offer = o; signal = record { code = 0; token = 0 } })

-- cfu_build_content and cfu_read_content, which leaves the data in the lent bytes
abbrev pub ContentCallsReadBack : Type 0
ContentCallsReadBack =
    (c : ContentFields) (packet bytes : List ℕ) → FitsContent c → length bytes ≡ packet_data_size
    → ReadsBack (build_content_call c.flags c.length c.sequence c.address.0 c.«data» packet) (λ p. read_content_call p bytes)
    (record {
      content = record { number = served_number; flags = c.flags; length = c.length; sequence = c.sequence; address = c.address.0 };
      left = cleared c.length c.«data»;
    })

-- cfu_build_version_reply and cfu_read_version_reply, which leaves the components in the lent bytes
abbrev pub VersionReplyCallsReadBack : Type 0
VersionReplyCallsReadBack =
    (count protocol : ℕ) (components packet bytes : List ℕ) → Bytes components → length bytes ≡ components_size
    → ReadsBack (build_version_reply_call count protocol components packet) (λ p. read_version_reply_call p bytes)
    (record { reply = record { number = served_number; count = count; protocol = protocol }; left = cleared (count * running_size) components })

-- cfu_build_offer_reply and cfu_read_offer_reply
abbrev pub OfferReplyCallsReadBack : Type 0
OfferReplyCallsReadBack =
    (r : OfferReply) (packet : List ℕ) → offer_reply.FitsReply r
    → ReadsBack (build_offer_reply_call r.token r.reason r.status packet) read_offer_reply_call
    (record { number = served_number; token = r.token; reason = r.reason; status = r.status })

-- cfu_build_content_reply and cfu_read_content_reply
abbrev pub ContentReplyCallsReadBack : Type 0
ContentReplyCallsReadBack =
    (r : ContentReply) (packet : List ℕ) → content_reply.FitsReply r
    → ReadsBack (build_content_reply_call r.sequence r.status packet) read_content_reply_call
    (record { number = served_number; sequence = r.sequence; status = r.status })

-- cfu_build_information and cfu_read_offer
abbrev pub InformationCallsReadBack : Type 0
InformationCallsReadBack =
    (s : Signal) (packet : List ℕ) → FitsSignal s
    → ReadsBack (build_information_call s.code s.token packet) read_offer_call
    (record { number = served_number; kind = kind_information; offer = no_offer; signal = record { code = s.code; token = s.token } })

-- cfu_build_extended and cfu_read_offer
abbrev pub ExtendedCallsReadBack : Type 0
ExtendedCallsReadBack =
    (s : Signal) (packet : List ℕ) → FitsSignal s
    → ReadsBack (build_extended_call s.code s.token packet) read_offer_call
    (record { number = served_number; kind = kind_extended; offer = no_offer; signal = record { code = s.code; token = s.token } })

-- cfu_bundle_write and cfu_bundle_check (document 02, A3): where the write was served, the check of as many bytes of the output as it answered, into contents of
-- their size, is served, with as many offers as the list has entries
abbrev pub WrittenChecks : Type 0
WrittenChecks =
    (list images out contents : List ℕ) → Bytes list → Bytes images → length contents ≡ contents_size
    → (write_call list images out).written.number ≡ served_number
    → (check_call (take (write_call list images out).written.length (write_call list images out).out) contents).check
    ≡ record { number = served_number; entry = 0; count = count_of list }
