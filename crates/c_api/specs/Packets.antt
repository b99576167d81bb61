-- The packets that C builds and reads, in literal bytes (document 01, "Packets"; include/cfu.h), every field another value, so that no other layout that
-- reads back can take their place. The offer stands in Bench.
use Rattle.std.specs.Prelude.{ℕ, ◌*◌, ◌-◌, ◌≡◌, List, [], ◌∷◌, ◌++◌, replicate}
use Rattle.wire.specs.Codes.{component_limit, short_size, long_size, packet_data_size}
use Rattle.c_version.specs.Layout.{running_size, components_size}
use Rattle.c_types.specs.declared.types.COffer.{COffer}
use Rattle.c_types.specs.Numbers.{served_number}
use Rattle.c_types.specs.Lent.{leaves}
use Rattle.c_build.specs.Build.{build_version_reply_call, build_information_call, build_extended_call, build_offer_reply_call, build_content_call, build_content_reply_call}
use Rattle.c_read.specs.Read.{read_version_reply_call, read_offer_call, read_offer_reply_call, read_content_call, read_content_reply_call}

-- three components, so that the count is not the protocol's 2; in lent bytes each is version (variant, minor, major), id, platform
abbrev pub components : List ℕ
components =
    0x04 ∷ 0x03 ∷ 0x02 ∷ 0x01 ∷ 0x05 ∷ 0x07 ∷ 0x06
    ∷ 0x0B ∷ 0x0A ∷ 0x09 ∷ 0x08 ∷ 0x0C ∷ 0x0E ∷ 0x0D
    ∷ 0x12 ∷ 0x11 ∷ 0x10 ∷ 0x0F ∷ 0x13 ∷ 0x15 ∷ 0x14
    ∷ []

-- the version reply that lists them: count, two zeros, protocol, and for each version, a zero, id, platform
abbrev pub version_reply : List ℕ
version_reply =
    3 ∷ 0 ∷ 0 ∷ 2
    ∷ 0x04 ∷ 0x03 ∷ 0x02 ∷ 0x01 ∷ 0 ∷ 0x05 ∷ 0x07 ∷ 0x06
    ∷ 0x0B ∷ 0x0A ∷ 0x09 ∷ 0x08 ∷ 0 ∷ 0x0C ∷ 0x0E ∷ 0x0D
    ∷ 0x12 ∷ 0x11 ∷ 0x10 ∷ 0x0F ∷ 0 ∷ 0x13 ∷ 0x15 ∷ 0x14
    ∷ replicate 32 0

-- three bytes of data, and the first block that has them: flags, length, sequence 0x0405, address 0x06070809, data
abbrev pub bytes : List ℕ
bytes = 0x0A ∷ 0x0B ∷ 0x0C ∷ []

abbrev pub content : List ℕ
content = 0x80 ∷ 3 ∷ 0x05 ∷ 0x04 ∷ 0x09 ∷ 0x08 ∷ 0x07 ∷ 0x06 ∷ 0x0A ∷ 0x0B ∷ 0x0C ∷ replicate (packet_data_size - 3) 0

-- a content reply: sequence 0x0405, status 6
abbrev pub content_reply : List ℕ
content_reply = 0x05 ∷ 0x04 ∷ 0 ∷ 0 ∷ 6 ∷ replicate 11 0

-- an offer reply: token 0xA5 at 3, reason 1 at 8, status 2 at 12
abbrev pub offer_reply : List ℕ
offer_reply = 0 ∷ 0 ∷ 0 ∷ 0xA5 ∷ 0 ∷ 0 ∷ 0 ∷ 0 ∷ 1 ∷ 0 ∷ 0 ∷ 0 ∷ 2 ∷ 0 ∷ 0 ∷ 0 ∷ []

-- information and extended: code 1, the kind at 2, token 0xA5 at 3
abbrev pub information : List ℕ
information = 1 ∷ 0 ∷ 0xFF ∷ 0xA5 ∷ replicate 12 0

abbrev pub extended : List ℕ
extended = 1 ∷ 0 ∷ 0xFE ∷ 0xA5 ∷ replicate 12 0

-- what is not of a packet's kind is zero
abbrev pub no_offer : COffer
no_offer = record {
  segment = 0;
  force_immediate_reset = 0;
  force_ignore_version = 0;
  id = 0;
  token = 0;
  version = record { major = 0; minor = 0; variant = 0 };
  need = 0;
  least = 0;
  protocol = 0;
  platform = 0;
}

-- what the calls leave, byte for byte; components past the count and data past the length are not sent, and are read as zero
pub record PacketsHold : Type 0 where
  pub builds_versions : build_version_reply_call 3 2 (components ++ replicate ((component_limit - 3) * running_size) 0xEE) (replicate long_size 9) ≡ leaves served_number version_reply
  pub reads_versions : read_version_reply_call version_reply (replicate components_size 9)
      ≡ record { reply = record { number = served_number; count = 3; protocol = 2 }; left = components ++ replicate ((component_limit - 3) * running_size) 0 }
  pub builds_content : build_content_call 0x80 3 0x0405 0x06070809 (bytes ++ replicate (packet_data_size - 3) 0xEE) (replicate long_size 9) ≡ leaves served_number content
  pub reads_content : read_content_call content (replicate packet_data_size 9)
      ≡ record { content = record { number = served_number; flags = 0x80; length = 3; sequence = 0x0405; address = 0x06070809 }; left = bytes ++ replicate (packet_data_size - 3) 0 }
  pub builds_content_reply : build_content_reply_call 0x0405 6 (replicate short_size 9) ≡ leaves served_number content_reply
  pub reads_content_reply : read_content_reply_call content_reply ≡ record { number = served_number; sequence = 0x0405; status = 6 }
  pub builds_offer_reply : build_offer_reply_call 0xA5 1 2 (replicate short_size 9) ≡ leaves served_number offer_reply
  pub reads_offer_reply : read_offer_reply_call offer_reply ≡ record { number = served_number; token = 0xA5; reason = 1; status = 2 }
  pub builds_information : build_information_call 1 0xA5 (replicate short_size 9) ≡ leaves served_number information
  pub reads_information : read_offer_call information ≡ record { number = served_number; kind = 2; offer = no_offer; signal = record { code = 1; token = 0xA5 } }
  pub builds_extended : build_extended_call 1 0xA5 (replicate short_size 9) ≡ leaves served_number extended
  pub reads_extended : read_offer_call extended ≡ record { number = served_number; kind = 3; offer = no_offer; signal = record { code = 1; token = 0xA5 } }
