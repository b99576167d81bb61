-- The bench device as C sees it, computed. Assumes nothing.
use mathlib.Core.Path.{refl, ap}
use mathlib.Core.List.{flatten}
use lib.Count.{ones}
use Rattle.wire.specs.Bytes.{same}
use Rattle.wire.specs.Checks.{first_of, any, pairs}
use Rattle.wire_offer.specs.Offer.{offer_bytes, fields_in, build_of}
use Rattle.wire_offer.specs.Kind.{kind_in, read_of}
use Rattle.wire_version.specs.Reply.{flat, reply_bytes}
use Rattle.image.specs.Region.{within, blank, put, erase_of, write_of}
use Rattle.device_component.specs.Lists.{first_from, find}
use Rattle.device_component.specs.Setup.{bad_ids, bad_regions, setup_verdict}
use Rattle.device_session.specs.Sound.{breaks_d1}
use Rattle.device_offering.specs.Offer.{rejections, need_unmet, offer_verdict, on_offer}
use Rattle.device_receiving.specs.Content.{content_verdict, take_block}
use Rattle.device_receiving.specs.Receive.{on_block}
use Rattle.device.specs.Refusals.{refusal_of}
use Rattle.device.specs.Offer.{offer_entry}
use Rattle.device.specs.Content.{content_entry, content_staging}
use Rattle.device.specs.Entries.{set_up_of, version_entry, reset_entry}
use Rattle.device_bytes.specs.Layout.{components_bytes, device_bytes, components_in, device_in, staged_fit, is_record, read_device, with_session_bytes, with_component_bytes, list_in, with_listed_bytes}
use Rattle.bundle_records.specs.Record.{head_in}
use Rattle.bundle_records.specs.Parse.{parse}
use Rattle.bundle_records.specs.Walk.{next_of, tally_of}
use Rattle.bundle_layout.specs.Layout.{entries_from, entries_in, body_in}
use Rattle.bundle_layout.specs.Rows.{first_entry, row_b5, repeated, row_b6, gap, row_b7, row_b8, bundle_row}
use Rattle.bundle.specs.Contents.{check_of}
use Rattle.host_table.specs.Table.{table}
use Rattle.host_record.specs.Record.{report_of}
use Rattle.host_decide.specs.Decide.{act, hears, hears_block, decide_in, decision_of}
use Rattle.host_packet.specs.Made.{laid_of, written_of}
use Rattle.host.specs.Step.{breaks_n1, packet_of, step_on, step_of}
use Rattle.host.specs.Inner.{inner_of, place_after}
use Rattle.host_bytes.specs.Layout.{host_bytes, host_in, flags_fit, read_host, bodies_bytes, contents_bytes, bodies_in, contents_in, body_read}
use Rattle.c_device.specs.Device.{set_up_call, versions_call, reset_call}
use Rattle.c_device_packet.specs.Packet.{offer_call, content_call, content_call_staging}
use Rattle.c_host.specs.Check.{check_call}
use Rattle.c_host.specs.Host.{fresh_call, report_call}
use Rattle.c_host_step.specs.Step.{step_call, step_checked_call, step_checked_contents}
use Rattle.c_access.specs.Access.{list_call, component_call, entry_call}
use Rattle.c_build.specs.Build.{build_offer_call}
use Rattle.c_read.specs.Read.{read_offer_call}
use Rattle.bundle_writer.proofs.Bench.{writer_bench}
use Rattle.c_writer.specs.Write.{write_by, write_call}
use Rattle.c_api.specs.Bench.{CallsHold}
use Rattle.c_api.proofs.Layouts.{layouts_hold}
use Rattle.c_api.proofs.Packets.{packets_hold}

pub calls_hold : CallsHold
unfolding flatten same first_of any pairs offer_bytes fields_in build_of kind_in read_of flat reply_bytes within blank put erase_of write_of first_from find bad_ids bad_regions setup_verdict breaks_d1 refusal_of rejections need_unmet offer_verdict on_offer offer_entry content_verdict take_block on_block content_entry set_up_of version_entry components_bytes device_bytes components_in device_in staged_fit is_record read_device with_session_bytes with_component_bytes list_in bundle_row check_of inner_of host_bytes host_in read_host bodies_bytes contents_bytes contents_in set_up_call versions_call offer_call content_call check_call head_in parse next_of tally_of entries_from entries_in body_in first_entry row_b5 repeated row_b6 gap row_b7 row_b8 table ones report_of act hears hears_block decide_in decision_of laid_of written_of breaks_n1 packet_of step_on step_of content_staging reset_entry reset_call content_call_staging fresh_call report_call step_call step_checked_call step_checked_contents build_offer_call read_offer_call write_call flags_fit with_listed_bytes bodies_in body_read list_call component_call entry_call place_after
calls_hold = record {
  records = λ session. refl;
  idle_session = refl;
  offered_session = refl;
  receiving_session = refl;
  sets_up = refl;
  versions = refl;
  accepts = refl;
  passes_over = refl;
  takes = refl;
  writes = refl;
  again = refl;
  again_writes = refl;
  judges = refl;
  resets = refl;
  refuses = refl;
  sending = refl;
  failed = refl;
  kept = refl;
  named = refl;
  rejects = refl;
  checks = refl;
  makes = ap write_by writer_bench.one;
  makes_none = ap write_by writer_bench.w6_id;
  starts = refl;
  begins = refl;
  begins_checked = refl;
  passes_reply = refl;
  passes_checked = refl;
  passes_keeps = refl;
  passes_once = refl;
  still_runs = refl;
  reports_done = refl;
  reports = refl;
  reports_failed = refl;
  steps = refl;
  leaves_contents = refl;
  unchecked = refl;
  builds = refl;
  reads = refl;
  builds_other = refl;
  reads_other = refl;
  lists_one = refl;
  lists_two = refl;
  lists_raised = refl;
  sets_up_raised = refl;
  sets_up_none = refl;
  rejects_raised = refl;
  tells_raised = refl;
  lists_no_more = refl;
  tells_two = refl;
  tells_staged = refl;
  tells_no_more = refl;
  tells_of_none = refl;
  enters = refl;
  enters_no_more = refl;
  enters_refused = refl;
  layouts = layouts_hold;
  packets = packets_hold;
}
