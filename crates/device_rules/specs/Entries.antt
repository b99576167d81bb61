-- The device's entries over any rules on versions, sequences and set-up: each definition that asks such a rule, with the rules for a parameter; what asks none is taken
-- as it stands. With the rules in force the answers are the entries' own (`RulesInForceAnswer`); with other rules some answers differ (`A1Differs`, `A4Differs`, `A5Differs`).
use Rattle.std.specs.Prelude.{ℕ, Bool, true, not, cond, ◌||◌, List, [], ◌∷◌, ◌++◌, map, eqb, length, take, replicate, Option, Some, None}
use Rattle.wire.specs.Checks.{first_of, any}
use Rattle.wire.specs.Codes.{protocol_number, short_size, long_size, reject_old_fw, reject_inv_component, reject_swap_pending, reject_wrong_protocol, reject_wrong_segment, reject_wrong_variant, success_status, error_version, error_invalid_addr, error_no_offer, error_invalid}
use Rattle.wire_version.specs.Reply.{reply_size, reply_bytes}
use Rattle.wire_offer.specs.Kind.{Kind, offer, information, extended, kind_in}
use Rattle.wire_offer.specs.declared.offer.OfferFields.{OfferFields}
use Rattle.wire_content.specs.Head.{head_in}
use Rattle.wire_content.specs.declared.head.ContentHead.{ContentHead}
use Rattle.wire.specs.declared.version.Version.{Version}
use Rattle.image.specs.Region.{region_bytes}
use Rattle.image.specs.Judge.{Image, image_in}
use Rattle.image.specs.declared.region.Region.{Region}
use Rattle.image.specs.declared.judge.ImageFault.TheVariants.{Damaged, Foreign}
use Rattle.std.specs.Prelude.{Ok, Err}
use Rattle.device_component.specs.Record.{is_pending, listed, with_staged}
use Rattle.device_component.specs.Setup.{is_refused, row_of}
use Rattle.device_component.specs.declared.record.Component.{Component}
use Rattle.device_component.specs.declared.record.Listed.{Listed}
use Rattle.device_slots.specs.Slots.{slot_of, is_absent, reset_components, running_of}
use Rattle.device_slots.specs.Standing.{standing_of}
use Rattle.device_slots.specs.declared.standing.Standing.{Standing}
use Rattle.device_session.specs.Stage.{is_open, at_slot, is_again, is_wrong}
use Rattle.device_session.specs.Effect.{idle}
use Rattle.device_session.specs.Sound.{opens_wrong, owes_idle}
use Rattle.device_session.specs.declared.stage.Stage.{Stage}
use Rattle.device_session.specs.declared.effect.Session.{Session}
use Rattle.device_offering.specs.Offer as offering
use Rattle.device_offering.specs.declared.verdict.OfferVerdict.{OfferVerdict}
use Rattle.device_offering.specs.declared.verdict.OfferVerdict.TheVariants.{Busy, Reject, Skip, Accept}
use Rattle.device_receiving.specs.Content.{is_last, is_copy, no_offer, bad_shape, bad_first, bad_address}
use Rattle.device_receiving.specs.Finish as finishing
use Rattle.device_receiving.specs.Receive as receiving
use Rattle.device_receiving.specs.Receive.{block_reply, goes_on, written, staging_by}
use Rattle.device_receiving.specs.declared.checks.ContentVerdict.{ContentVerdict}
use Rattle.device_receiving.specs.declared.checks.ContentVerdict.TheVariants.{Answer, Take}
use Rattle.device_receiving.specs.declared.finish.Finished.{Finished}
use Rattle.device_receiving.specs.declared.content.Taken.{Taken}
use Rattle.device.specs.declared.record.Device.{Device}
use Rattle.device.specs.declared.answer.Channel.{Channel}
use Rattle.device.specs.declared.answer.Channel.TheVariants.{Offer, Content}
use Rattle.device.specs.Record.{find, idle_with}
use Rattle.device.specs.Refusals.{Row, served, row_d, Outcome, kept_by, unless_refused, served_with}
use Rattle.device.specs.Offer as offers
use Rattle.device.specs.Offer.{need_unmet}
use Rattle.device.specs.Content.{session_component, received}
use Rattle.device.specs.Entries.{SetUp, new_device, set_up_by as set_up_on, Versions, Reset}
use Rattle.device.specs.Calls.{Call, packet, versions, reset, Answered, of_packet, of_versions, of_reset}
use Rattle.device_rules.specs.Rules.{Rules}

module _ (rules : Rules) where
  -- set-up, with a staging buffer of n bytes
  abbrev pub set_up_by : (platform : ℕ) → List Listed → (count n : ℕ) → SetUp
  set_up_by platform list count n = set_up_on (row_of (rules.setup n count (map listed list))) (new_device platform list count n)

  -- D1
  abbrev pub keeps_staged_by : Component → Option Version → Bool
  keeps_staged_by c None = true
  keeps_staged_by c (Some v) = rules.versions.staged_fits c v

  abbrev pub breaks_d1_by : Device → Bool
  breaks_d1_by d =
      is_refused (rules.setup d.staging_len d.count d.components)
      || (opens_wrong d.count d.components d.session
      || (rules.sequences.wrong_previous d.session.stage d.session.previous
      || (owes_idle d.session || any (λ c. not (keeps_staged_by c c.staged)) (take d.count d.components))))

  -- D1 to D3
  abbrev pub refusal_by : (size : ℕ) → Device → (n m : ℕ) → Row
  refusal_by size d n m = first_of ((breaks_d1_by d, row_d 1) ∷ (not (eqb n d.staging_len), row_d 2) ∷ (not (eqb m size), row_d 3) ∷ []) served

  -- checks 2 to 7 of an offer, and checks 1 to 9
  abbrev pub rejections_by : (platform : ℕ) → (target : Standing) → OfferFields → List (Bool × OfferVerdict)
  rejections_by platform target o =
      (not (eqb o.protocol protocol_number), Reject reject_wrong_protocol)
      ∷ (is_absent target.at, Reject reject_inv_component)
      ∷ (not (eqb o.platform platform), Reject reject_inv_component)
      ∷ (not (eqb o.segment 0), Reject reject_wrong_segment)
      ∷ (is_pending target.component.staged, Reject reject_swap_pending)
      ∷ (rules.versions.wrong_variant target.component o.version, Reject reject_wrong_variant)
      ∷ (rules.versions.too_low target.component o.version, Reject reject_old_fw)
      ∷ []

  abbrev pub offer_verdict_by : Device → OfferFields → OfferVerdict
  offer_verdict_by d o =
      first_of (
      (is_open d.session.stage, Busy)
      ∷ rejections_by d.platform (standing_of o.id d.count d.components) o
      ++ (need_unmet d o, Skip) ∷ [])
      (Accept (slot_of (find d o.id)))

  -- a packet of the offer channel by its kind
  abbrev pub on_kind_by : Device → Kind → Outcome
  on_kind_by d (offer o) = served_with d d.components (offering.on_verdict d.session o.token (offer_verdict_by d o))
  on_kind_by d (information s) = offers.on_kind d (information s)
  on_kind_by d (extended s) = offers.on_kind d (extended s)

  -- image judgement
  abbrev pub judge_by : Component → Image → Finished
  judge_by c (Err Damaged) = finishing.judge c (Err Damaged)
  judge_by c (Err Foreign) = finishing.judge c (Err Foreign)
  judge_by c (Ok v) =
      cond (rules.versions.image_fits c v) (record { status = success_status; component = with_staged c v }) (record { status = error_version; component = c })

  abbrev pub finish_by : Component → (s : List ℕ) → Finished
  finish_by c s = judge_by c (image_in (region_bytes c.fixed.region s) c.fixed.id)

  -- checks 1 to 6 of a content packet
  abbrev pub content_verdict_by : Region → Stage → (copy : Bool) → ContentHead → ContentVerdict
  content_verdict_by region stage copy c =
      first_of (
      (no_offer stage, Answer error_no_offer)
      ∷ (bad_shape c, Answer error_invalid)
      ∷ (bad_first stage c, Answer error_invalid)
      ∷ (is_again (rules.sequences.judged stage copy c.sequence), Answer success_status)
      ∷ (is_wrong (rules.sequences.judged stage copy c.sequence), Answer error_invalid)
      ∷ (bad_address region c, Answer error_invalid_addr)
      ∷ [])
      (Take (at_slot stage))

  abbrev pub verdict_on_by : Device → (report : List ℕ) → ContentVerdict
  verdict_on_by d report =
      content_verdict_by (session_component d).fixed.region d.session.stage (is_copy d.session.previous report) (head_in report)

  -- a content packet: only a last block is judged
  abbrev pub on_block_by : Component → Session → (slot : ℕ) → (report s : List ℕ) → Taken
  on_block_by c session slot report s =
      cond (is_last (head_in report))
      (record { effect = block_reply (head_in report).sequence (finish_by c s).status session.owed idle; component = (finish_by c s).component })
      (record { effect = block_reply (head_in report).sequence success_status None (goes_on session slot report); component = c })

  abbrev pub on_content_verdict_by : Component → Session → (report s : List ℕ) → ContentVerdict → Taken
  on_content_verdict_by c session report s (Answer status) = receiving.on_verdict c session report s (Answer status)
  on_content_verdict_by c session report s (Take slot) = on_block_by c session slot report (written c.fixed.region report s)

  -- the entries for packets, and every byte of the staging buffer afterwards
  abbrev pub serve_by : Device → Channel → (staging report : List ℕ) → Outcome
  serve_by d Offer staging report = unless_refused (refusal_by short_size d (length staging) (length report)) d (on_kind_by d (kind_in report))
  serve_by d Content staging report =
      unless_refused (refusal_by long_size d (length staging) (length report)) d
      (received d (on_content_verdict_by (session_component d) d.session report staging (verdict_on_by d report)))

  abbrev pub serve_staging_by : Device → Channel → (staging report : List ℕ) → List ℕ
  serve_staging_by d Offer staging report = staging
  serve_staging_by d Content staging report =
      kept_by (refusal_by long_size d (length staging) (length report)) staging
      (staging_by (session_component d).fixed.region report staging (verdict_on_by d report))

  -- the version reply, and the reset
  abbrev pub version_by : Device → Versions
  version_by d =
      cond (breaks_d1_by d) (record { row = row_d 1; packet = replicate reply_size 0 })
      (record { row = served; packet = reply_bytes d.count protocol_number (map (running_of d.platform) d.components) })

  abbrev pub reset_by : Device → Reset
  reset_by d =
      cond (breaks_d1_by d) (record { row = row_d 1; device = d })
      (record { row = served; device = idle_with d (reset_components d.count d.components) })

  abbrev pub answer_by : Device → (staging : List ℕ) → Call → Answered
  answer_by d staging (packet channel report) = of_packet (serve_by d channel staging report) (serve_staging_by d channel staging report)
  answer_by d staging versions = of_versions (version_by d)
  answer_by d staging reset = of_reset (reset_by d)
