-- With the rules in force, a call answers what its entry answers. Assumes nothing.
use mathlib.Core.Path.{◌≡◌, refl, ap}
use mathlib.Core.Bool.{Bool, true, false, not}
use mathlib.Core.List.{List, [], ◌∷◌}
use Prim.Native.Nat.{ℕ}
use lib.Dec.{eqb}
use lib.ListN.{length}
use Rattle.wire.specs.Checks.{first_of}
use Rattle.wire.specs.Codes.{short_size, long_size}
use Rattle.wire_offer.specs.Kind.{Kind, offer, information, extended, kind_in}
use Rattle.wire_content.specs.Head.{head_in}
use Rattle.image.specs.Judge.{Image, image_in}
use Rattle.image.specs.Region.{region_bytes}
use Rattle.image.specs.declared.judge.ImageFault.TheVariants.{Damaged, Foreign}
use Rattle.std.specs.Prelude.{Ok, Err}
use Rattle.device_component.specs.Versions as rule
use Rattle.device_component.specs.declared.record.Component.{Component}
use Rattle.std.specs.Prelude.{Option, Some, None}
use Rattle.wire.specs.declared.version.Version.{Version}
use Rattle.device_session.specs.Sound as sound
use Rattle.device_session.specs.declared.effect.Session.{Session}
use Rattle.device_offering.specs.Offer as offering
use Rattle.device_receiving.specs.Content.{is_last, content_verdict}
use Rattle.device_receiving.specs.Finish as finishing
use Rattle.device_receiving.specs.Receive as receiving
use Rattle.device_receiving.specs.declared.checks.ContentVerdict.{ContentVerdict}
use Rattle.device_receiving.specs.declared.checks.ContentVerdict.TheVariants.{Answer, Take}
use Rattle.device.specs.declared.record.Device.{Device}
use Rattle.device.specs.declared.answer.Channel.TheVariants.{Offer, Content}
use Rattle.device.specs.Record.{component}
use Rattle.device.specs.Refusals as refusals
use Rattle.device.specs.Refusals.{served, row_d}
use Rattle.device.specs.Offer as offers
use Rattle.device.specs.Content as contents
use Rattle.device.specs.Content.{session_component}
use Rattle.device.specs.Entries.{set_up_of, version_entry, reset_entry, serve_entry, serve_staging}
use Rattle.device.specs.Calls.{Call, packet, versions, reset, answer_of}
use Rattle.device_rules.specs.Rules.{in_force}
use Rattle.device_rules.specs.Entries.{keeps_staged_by, breaks_d1_by, refusal_by, on_kind_by, judge_by, on_block_by, on_content_verdict_by, verdict_on_by, answer_by}
use Rattle.device_rules.specs.Promises.{RulesInForceAnswer}
use Rattle.device_rules.proofs.Same.{any_same}

-- each part is the entry's own
staged_as : (c : Component) (s : Option Version) → not (rule.keeps_staged c s) ≡ not (keeps_staged_by in_force c s)
staged_as c None = refl
staged_as c (Some v) = refl

pub d1_as : (d : Device) → refusals.breaks_d1 d ≡ breaks_d1_by in_force d
unfolding sound.breaks_d1
d1_as d =
    rw (any_same (λ (c : Component). not (rule.keeps_staged c c.staged)) (λ (c : Component). not (keeps_staged_by in_force c c.staged)) d.count d.components
    (λ k l. staged_as (component d k) (component d k).staged)) refl

pub refusal_as : (size : ℕ) (d : Device) (n m : ℕ) → refusals.refusal_of size d n m ≡ refusal_by in_force size d n m
unfolding refusals.refusal_of
refusal_as size d n m = ap (λ (b : Bool). first_of ((b, row_d 1) ∷ (not (eqb n d.staging_len), row_d 2) ∷ (not (eqb m size), row_d 3) ∷ []) served) (d1_as d)

kind_as : (d : Device) (x : Kind) → offers.on_kind d x ≡ on_kind_by in_force d x
unfolding offering.on_offer offering.offer_verdict offering.need_unmet
kind_as d (offer o) = refl
kind_as d (information s) = refl
kind_as d (extended s) = refl

judge_as : (c : Component) (m : Image) → finishing.judge c m ≡ judge_by in_force c m
judge_as c (Err Damaged) = refl
judge_as c (Err Foreign) = refl
judge_as c (Ok v) = refl

pub checks_as : (d : Device) (report : List ℕ) → contents.content_verdict d report ≡ verdict_on_by in_force d report
unfolding content_verdict
checks_as d report = refl

module _ (c : Component) (session : Session) (report : List ℕ) where
  block_as : (slot : ℕ) (s : List ℕ) → receiving.on_block c session slot report s ≡ on_block_by in_force c session slot report s
  unfolding receiving.on_block finishing.finish
  block_as slot s = go (is_last (head_in report)) refl
    where
      go : (b : Bool) → is_last (head_in report) ≡ b → receiving.on_block c session slot report s ≡ on_block_by in_force c session slot report s
      go true l = rw l (rw (judge_as c (image_in (region_bytes c.fixed.region s) c.fixed.id)) refl)
      go false l = rw l refl

  verdict_as : (s : List ℕ) (w : ContentVerdict) → receiving.on_verdict c session report s w ≡ on_content_verdict_by in_force c session report s w
  verdict_as s (Answer status) = refl
  verdict_as s (Take slot) = block_as slot (receiving.written c.fixed.region report s)

-- so is each answer
answers_as : (d : Device) (staging : List ℕ) (c : Call) → answer_of d staging c ≡ answer_by in_force d staging c
unfolding serve_entry serve_staging version_entry reset_entry offers.offer_entry contents.content_entry contents.content_staging
answers_as d staging versions = rw (d1_as d) refl
answers_as d staging reset = rw (d1_as d) refl
answers_as d staging (packet Offer report) = rw (refusal_as short_size d (length staging) (length report), kind_as d (kind_in report)) refl
answers_as d staging (packet Content report) =
    rw (
      refusal_as long_size d (length staging) (length report),
      checks_as d report,
      verdict_as (session_component d) d.session report staging (verdict_on_by in_force d report),
    ) refl

pub rules_in_force_answer : RulesInForceAnswer
unfolding set_up_of
rules_in_force_answer = record { calls = answers_as; set_up = λ platform list count n. refl }
