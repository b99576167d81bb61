-- E1 to E10, by computation. Assumes nothing.
use mathlib.Core.Path.{refl}
use Rattle.wire.specs.Bytes.{same}
use Rattle.wire.specs.Checks.{first_of, any, pairs}
use Rattle.wire_offer.specs.Offer.{fields_in}
use Rattle.wire_offer.specs.Kind.{kind_in}
use Rattle.wire_version.specs.Reply.{flat, reply_bytes}
use Rattle.image.specs.Region.{within, blank, put, erase_of, write_of}
use Rattle.device_component.specs.Lists.{first_from, find}
use Rattle.device_component.specs.Setup.{bad_ids, bad_regions, setup_verdict}
use Rattle.device_session.specs.Sound.{breaks_d1}
use Rattle.device_offering.specs.Offer.{rejections, need_unmet, offer_verdict, on_offer}
use Rattle.device_receiving.specs.Content.{content_verdict, take_block}
use Rattle.device_receiving.specs.Receive.{on_block}
use Rattle.device.specs.Refusals.{refusal_of}
use Rattle.device.specs.Offer.{offer_entry}
use Rattle.device.specs.Content.{content_entry, content_staging}
use Rattle.device.specs.Entries.{version_entry, serve_entry, serve_staging}
use Rattle.device.specs.Bench.{BenchHolds}

pub bench_holds : BenchHolds
unfolding same first_of any pairs fields_in kind_in flat reply_bytes within blank put erase_of write_of first_from find bad_ids bad_regions setup_verdict breaks_d1 refusal_of rejections need_unmet offer_verdict on_offer offer_entry content_verdict take_block on_block content_entry content_staging version_entry serve_entry serve_staging
bench_holds =
    (refl, refl, refl, (refl, refl, refl, (refl, refl, refl, (refl, refl, refl, (refl, refl, refl, (refl, refl, refl, (refl, refl, refl, (refl, refl, refl, (refl, refl, refl, (refl, refl, refl, (refl, refl, refl, (refl, refl, refl, tt))))))))))))
