-- The packets that C builds and reads, computed. Assumes nothing.
use mathlib.Core.Path.{refl}
use Rattle.wire_offer.specs.Kind as offers
use Rattle.wire_offer.specs.Reply as offer_reply
use Rattle.wire_content.specs.Content as content
use Rattle.wire_content.specs.Reply as content_reply
use Rattle.wire_version.specs.Reply as versions
use Rattle.c_version.specs.Layout.{components_bytes, components_in}
use Rattle.c_build.specs.Build.{build_version_reply_call, build_information_call, build_extended_call, build_offer_reply_call, build_content_call, build_content_reply_call}
use Rattle.c_read.specs.Read.{read_version_reply_call, read_offer_call, read_offer_reply_call, read_content_call, read_content_reply_call}
use Rattle.c_api.specs.Packets.{PacketsHold}

pub packets_hold : PacketsHold
unfolding offers.kind_in offers.read_of offer_reply.read_reply_of content.cleared content.content_bytes content.build_of content.fields_in content.read_of content_reply.read_reply_of versions.flat versions.entries versions.reply_bytes versions.build_of versions.table_in versions.fields_in versions.read_of components_bytes components_in build_version_reply_call build_information_call build_extended_call build_offer_reply_call build_content_call build_content_reply_call read_version_reply_call read_offer_call read_offer_reply_call read_content_call read_content_reply_call
packets_hold = record {
  builds_versions = refl;
  reads_versions = refl;
  builds_content = refl;
  reads_content = refl;
  builds_content_reply = refl;
  reads_content_reply = refl;
  builds_offer_reply = refl;
  reads_offer_reply = refl;
  builds_information = refl;
  reads_information = refl;
  builds_extended = refl;
  reads_extended = refl;
}
