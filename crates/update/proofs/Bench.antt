-- E13 in both orders, by computation. Assumes nothing.
use mathlib.Core.Path.{refl}
use mathlib.Core.List.{flatten}
use native.Mathlib.Omega.{arith}
use lib.ListN.{replicate}
use Rattle.wire.specs.Bytes.{same}
use Rattle.wire.specs.Checks.{first_of, any, pairs}
use Rattle.wire.proofs.Tests.{all_bytes}
use Rattle.crc16.specs.Crc.{bit_step, bit_steps, byte_step, crc_from, crc_of}
use Rattle.wire_offer.specs.Offer as offer
use Rattle.wire_offer.specs.Kind.{kind_in}
use Rattle.wire_content.specs.Content as content
use Rattle.bundle_records.specs.Record.{head_in}
use Rattle.bundle_records.specs.Parse.{parse, written}
use Rattle.image.specs.Region.{within, region_bytes, blank, put, erase_of, write_of}
use Rattle.image.specs.Judge.{image_in}
use Rattle.std.specs.Prelude.{None}
use Rattle.device_component.specs.Lists.{first_from, find}
use Rattle.device_component.specs.Setup.{bad_ids, bad_regions, setup_verdict}
use Rattle.bundle_layout.specs.Layout.{entries_from, entries_in, body_in}
use Rattle.bundle_layout.specs.Rows.{first_entry, row_b5, repeated, row_b6, gap, row_b7, row_b8, bundle_row}
use Rattle.bundle.specs.Contents.{table_bytes, bundle_bytes}
use Rattle.device.specs.Record.{FitsDevice}
use Rattle.device_session.specs.Sound.{breaks_d1}
use Rattle.device_session.proofs.effect.Laws.{idle_fits}
use Rattle.device_offering.specs.Offer.{rejections, need_unmet, offer_verdict, on_offer}
use Rattle.device_offering.specs.Signal.{on_information}
use Rattle.device_receiving.specs.Content.{content_verdict, take_block}
use Rattle.device_receiving.specs.Finish.{finish}
use Rattle.device_receiving.specs.Receive.{on_block}
use Rattle.device.specs.Refusals.{refusal_of}
use Rattle.device.specs.Offer.{offer_entry}
use Rattle.device.specs.Content.{content_entry, content_staging}
use Rattle.device.specs.Entries.{serve_entry, serve_staging}
use Rattle.device.specs.Bench.{bench}
use Rattle.device_session.specs.declared.stage.Stage.TheVariants.{Idle}
use Rattle.host_table.specs.Table.{table}
use Rattle.host_decide.specs.Decide.{act, hears, hears_block, decide_in}
use Rattle.host.specs.Step.{breaks_n1, packet_of, step_on, step_of}
use Rattle.update.specs.Trace.{passes_in}
use Rattle.update.specs.Run.{turned, exchange, run, records_from}
use Rattle.update.specs.Claim.{writes, image_of}
use Rattle.update.proofs.Goodness.{bodies_good}
use Rattle.update.proofs.Fitting.{blank_fits, all_fit, component_fits}
use Rattle.update.specs.Bench.{placed, image, one_first, two_first, OneFirst, TwoFirst}

-- what the examples compute with: to unfold it is to unfold all that its line names
unfoldable pub computing : Unit {0}
unfolding same first_of any pairs bit_step bit_steps byte_step crc_from crc_of flatten table_bytes bundle_bytes written placed head_in parse entries_from entries_in body_in first_entry row_b5 repeated row_b6 gap row_b7 row_b8 bundle_row offer.fields_in kind_in content.fields_in content.cleared content.content_bytes within region_bytes blank put erase_of write_of image_in first_from find bad_ids bad_regions setup_verdict breaks_d1 refusal_of rejections need_unmet offer_verdict on_offer on_information offer_entry content_verdict take_block finish on_block content_entry content_staging serve_entry serve_staging table act hears hears_block decide_in breaks_n1 packet_of step_on step_of turned exchange run records_from passes_in writes image_of
computing = tt

bench_fits : FitsDevice (bench Idle)
bench_fits = record {
  platform = omega arith;
  staging = omega arith;
  count = omega arith;
  slots = refl;
  each =
      all_fit (bench Idle).components (
        component_fits 0 1 0x01000200 0 64 None (omega arith) (omega arith) (omega arith) (omega arith) (omega arith) tt,
        (
          component_fits 0 2 0x01000100 64 64 None (omega arith) (omega arith) (omega arith) (omega arith) (omega arith) tt,
          (blank_fits, (blank_fits, (blank_fits, (blank_fits, (blank_fits, tt))))),
        ),
      );
  session = idle_fits;
}

-- each run, by computation
pub one_first_lem : OneFirst
unfolding computing image
one_first_lem = record {
  size = refl;
  accepted = refl;
  premise = record {
    small = omega arith;
    fits = bench_fits;
    bytes = all_bytes (replicate 128 0) refl;
    bundle = all_bytes one_first refl;
    d1 = refl;
    d2 = refl;
    accepted = refl;
    good = bodies_good one_first (bench Idle) refl;
  };
  done = refl;
  says = refl;
  packets = (refl, refl);
  passes = (refl, refl);
  device = refl;
  staging = refl;
}

pub two_first_lem : TwoFirst
unfolding computing image
two_first_lem = record {
  size = refl;
  accepted = refl;
  premise = record {
    small = omega arith;
    fits = bench_fits;
    bytes = all_bytes (replicate 128 0) refl;
    bundle = all_bytes two_first refl;
    d1 = refl;
    d2 = refl;
    accepted = refl;
    good = bodies_good two_first (bench Idle) refl;
  };
  done = refl;
  says = refl;
  packets = (refl, refl);
  passes = (refl, refl);
  device = refl;
  staging = refl;
}
