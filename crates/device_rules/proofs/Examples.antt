-- The customer's cases compute, by both sets of rules. Assumes nothing.
use mathlib.Core.Path.{◌≡◌, refl}
use lib.ListN.{replicate}
use Rattle.wire.specs.Bytes.{same}
use Rattle.wire.specs.Checks.{first_of, any, pairs}
use Rattle.wire_offer.specs.Offer.{fields_in}
use Rattle.wire_offer.specs.Kind.{kind_in}
use Rattle.crc16.specs.Crc.{bit_step, bit_steps, byte_step, crc_from, crc_of}
use Rattle.image.specs.Region.{within, blank, put, erase_of, write_of, region_bytes}
use Rattle.image.specs.Judge.{image_in}
use Rattle.device_component.specs.Lists.{first_from, find}
use Rattle.device_component.specs.Setup.{bad_ids, bad_regions, setup_verdict}
use Rattle.device_session.specs.Sound.{breaks_d1}
use Rattle.device_offering.specs.Offer.{rejections, need_unmet, offer_verdict, on_offer}
use Rattle.device_receiving.specs.Content.{content_verdict, take_block}
use Rattle.device_receiving.specs.Finish.{finish}
use Rattle.device_receiving.specs.Receive.{on_block}
use Rattle.device.specs.Refusals.{refusal_of}
use Rattle.device.specs.Offer.{offer_entry}
use Rattle.device.specs.Content.{content_entry, content_staging}
use Rattle.device.specs.Entries.{set_up_of, reset_entry, serve_entry, serve_staging}
use Rattle.device.specs.Calls.{after_events}
use Rattle.device_rules.specs.Examples.{A1Differs, A4Differs, A5Differs, leaves_raised, updating, runs, ModuleStory}

pub a1_differs : A1Differs
unfolding first_of any pairs fields_in kind_in bit_step bit_steps byte_step crc_from crc_of within blank put erase_of write_of region_bytes image_in first_from find bad_ids bad_regions setup_verdict need_unmet take_block
a1_differs = record { offered01 = (refl, refl); offered = (refl, refl); image01 = (refl, refl); image = (refl, refl); staged01 = refl; staged = refl }

pub a5_differs : A5Differs
unfolding first_of any pairs fields_in kind_in bit_step bit_steps byte_step crc_from crc_of within blank put erase_of write_of region_bytes image_in first_from find bad_ids bad_regions setup_verdict need_unmet take_block
a5_differs = record {
  offered_before = (refl, refl);
  offered = (refl, refl);
  variant = (refl, refl);
  offered_floor = (refl, refl);
  offered_above = (refl, refl);
  image_before = (refl, refl);
  image = (refl, refl);
  image_floor = (refl, refl);
  image_above = (refl, refl);
  staged_before = refl;
  staged = refl;
  staged_floor = refl;
  staged_above = refl;
  set_up_before = refl;
  set_up = refl;
  set_up_first = refl;
  set_up_order = refl;
  set_up_unused = refl;
  set_up_floor = refl;
  judged = refl;
}

-- what the lists of calls compute with: to unfold it is to unfold all that its line names
unfoldable computing : Unit {0}
unfolding same first_of any pairs fields_in kind_in bit_step bit_steps byte_step crc_from crc_of within blank put erase_of write_of region_bytes image_in first_from find bad_ids bad_regions setup_verdict breaks_d1 refusal_of rejections need_unmet offer_verdict on_offer offer_entry content_verdict take_block finish on_block content_entry content_staging serve_entry serve_staging reset_entry set_up_of
computing = tt

-- what each list of calls leaves
below_runs : leaves_raised (updating 4 0x8D 0x07 8) ≡ runs 2
unfolding computing
below_runs = refl

fix_runs : leaves_raised (updating 5 0x27 0x56 8) ≡ runs 5
unfolding computing
fix_runs = refl

later_runs : leaves_raised (updating 6 0xC9 0x84 8) ≡ runs 6
unfolding computing
later_runs = refl

back_runs : (after_events (record { device = runs 6; staging = replicate 8 0 }) (updating 5 0x27 0x56 8)).device ≡ runs 6
unfolding computing
back_runs = refl

lent_runs : leaves_raised (updating 5 0x27 0x56 7) ≡ runs 2
unfolding computing
lent_runs = refl

pub module_story : ModuleStory
unfolding computing
module_story = record { before = refl; below = below_runs; fix = fix_runs; later = later_runs; back = back_runs; lent = lent_runs }

pub a4_differs : A4Differs
unfolding same first_of any pairs bad_ids bad_regions setup_verdict
a4_differs = record {
  copy01 = (refl, refl, refl);
  copy = (refl, refl, refl);
  wrap01 = (refl, refl, refl);
  wrap = (refl, refl, refl);
  byte01 = (refl, refl, refl);
  byte = (refl, refl, refl);
  unused01 = (refl, refl, refl);
  unused = (refl, refl, refl);
  first01 = (refl, refl, refl);
  first = (refl, refl, refl);
  last01 = (refl, refl, refl);
  last = (refl, refl, refl);
  previous01 = (refl, refl, refl);
  previous = (refl, refl);
}
