-- A block sent again was answered 0x0B by document 01's rules; without one, A4's rules answer as those. Assumes nothing.
use mathlib.Core.Path.{◌≡◌, refl, sym, ap, ap₂, ◌∙◌}
use mathlib.Core.Bool.{Bool, true, false}
use mathlib.Core.List.{List, [], ◌∷◌}
use Prim.Native.Nat.{ℕ}
use lib.Dec.{eqb}
use Rattle.wire.specs.Checks.{first_of}
use Rattle.wire.specs.Codes.{success_status, error_invalid_addr, error_no_offer, error_invalid}
use Rattle.wire_content.specs.Head.{head_in}
use Rattle.device_component.specs.Setup.{SetupVerdict, setup_verdict}
use Rattle.device_component.specs.declared.record.Component.{Component}
use Rattle.device_session.specs.Stage.{sequence_verdict, is_again, is_wrong, at_slot}
use Rattle.device_session.specs.Sound.{holds_wrong}
use Rattle.device_session.specs.declared.stage.Stage.{Stage}
use Rattle.device_session.specs.declared.stage.Stage.TheVariants.{Idle, Offered, Receiving}
use Rattle.device_session.specs.declared.stage.SequenceVerdict.{SequenceVerdict}
use Rattle.device_session.specs.declared.stage.SequenceVerdict.TheVariants.{Next, Again, Wrong}
use Rattle.device_receiving.specs.Content.{is_copy, no_offer, bad_shape, bad_first, bad_address}
use Rattle.device_receiving.specs.declared.checks.ContentVerdict.{ContentVerdict}
use Rattle.device_receiving.specs.declared.checks.ContentVerdict.TheVariants.{Answer, Take}
use Rattle.device.specs.declared.record.Device.{Device}
use Rattle.device.specs.declared.answer.Channel.TheVariants.{Offer, Content}
use Rattle.device.specs.Refusals.{Outcome}
use Rattle.device.specs.Content.{session_component}
use Rattle.device.specs.Calls.{Call, packet, versions, reset, of_packet}
use Rattle.device_rules.specs.Rules as rules
use Rattle.device_rules.specs.Rules.{VersionRules, Rules, expected}
use Rattle.device_rules.specs.Entries.{breaks_d1_by, verdict_on_by, answer_by}
use Rattle.device_rules.specs.Promises.{BringsNoCopy, NoCopyAsBefore, CopyWasInvalid}
use Rattle.device_rules.proofs.Same.{d1_same, offer_same, content_same, staging_same}
use Rattle.device_rules.proofs.InForce.{rules_in_force_answer, checks_as}

-- what A4 takes for a block sent again was wrong before
before : SequenceVerdict → SequenceVerdict
before Next = Next
before Again = Wrong
before Wrong = Wrong

was : (stage : Stage) (copy : Bool) (sequence : ℕ) → expected stage copy sequence ≡ before (sequence_verdict stage copy sequence)
unfolding before
was Idle copy sequence = refl
was (Offered o) copy sequence = refl
was (Receiving r) copy sequence = go (eqb sequence r.next) copy refl
  where
    go : (b copy : Bool) → eqb sequence r.next ≡ b → expected (Receiving r) copy sequence ≡ before (sequence_verdict (Receiving r) copy sequence)
    go true copy e = rw e
    go false true e = rw e
    go false false e = rw e

-- any other verdict is as it was
as_it_was : (v : SequenceVerdict) → is_again v ≡ false → before v ≡ v
unfolding before
as_it_was Next e = refl
as_it_was Again e = cc
as_it_was Wrong e = refl

-- checks 1 to 6 by a verdict on the sequence
abbrev checked : (idle shape first : Bool) → SequenceVerdict → (address : Bool) → (slot : ℕ) → ContentVerdict
checked idle shape first v address slot =
    first_of (
    (idle, Answer error_no_offer)
    ∷ (shape, Answer error_invalid)
    ∷ (first, Answer error_invalid)
    ∷ (is_again v, Answer success_status)
    ∷ (is_wrong v, Answer error_invalid)
    ∷ (address, Answer error_invalid_addr)
    ∷ [])
    (Take slot)

-- status 0 is the answer to a block sent again alone, and before A4 it was 0x0B
success_was : (idle shape first : Bool) (v : SequenceVerdict) (address : Bool) (slot : ℕ) → checked idle shape first v address slot ≡ Answer success_status
    → checked idle shape first (before v) address slot ≡ Answer error_invalid
unfolding first_of before
success_was true shape first v address slot e = cc
success_was false true first v address slot e = refl
success_was false false true v address slot e = refl
success_was false false false Next true slot e = cc
success_was false false false Next false slot e = cc
success_was false false false Again address slot e = refl
success_was false false false Wrong address slot e = refl

module _ (d : Device) (report : List ℕ) where
  -- the verdict on a packet, by the one on its sequence
  abbrev by : SequenceVerdict → ContentVerdict
  by v =
      checked (no_offer d.session.stage) (bad_shape (head_in report)) (bad_first d.session.stage (head_in report)) v
      (bad_address (session_component d).fixed.region (head_in report)) (at_slot d.session.stage)

  abbrev judged : SequenceVerdict
  judged = sequence_verdict d.session.stage (is_copy d.session.previous report) (head_in report).sequence

  -- by document 01's rules on sequences
  by_before : by (expected d.session.stage (is_copy d.session.previous report) (head_in report).sequence) ≡ by (before judged)
  by_before = ap by (was d.session.stage (is_copy d.session.previous report) (head_in report).sequence)

pub copy_was_invalid : CopyWasInvalid
copy_was_invalid d report e = by_before d report ∙ success_was _ _ _ (judged d report) _ _ (sym (checks_as d report) ∙ e)

-- where no packet is held wrongly and none is a copy, each answer is that of document 01's rules on sequences, whatever the rules on versions and the rows of set-up
module _ (x : VersionRules) (rows : (n count : ℕ) → List Component → SetupVerdict) (d : Device) (staging : List ℕ) (h : holds_wrong d.session ≡ false) where
  abbrev with_a4 : Rules
  with_a4 = record { versions = x; sequences = rules.sequences; setup = rows }

  abbrev without_a4 : Rules
  without_a4 = record { versions = x; sequences = rules.sequences01; setup = rows }

  d1 : breaks_d1_by with_a4 d ≡ breaks_d1_by without_a4 d
  d1 = d1_same with_a4 without_a4 d (λ k v l e. refl) h refl

  pub no_copy_as : (call : Call) → BringsNoCopy d call → answer_by with_a4 d staging call ≡ answer_by without_a4 d staging call
  no_copy_as versions g = rw d1 refl
  no_copy_as reset g = rw d1 refl
  no_copy_as (packet Offer report) g = ap (λ (o : Outcome). of_packet o staging) (offer_same with_a4 without_a4 d d1 staging report (λ o e k f. (refl, refl)))
  no_copy_as (packet Content report) g =
      ap₂ of_packet (content_same with_a4 without_a4 d staging report d1 verdicts (λ slot z e l v m. refl)) (staging_same with_a4 without_a4 d staging report d1 verdicts (λ slot z e l v m. refl))
    where
      verdicts : verdict_on_by with_a4 d report ≡ verdict_on_by without_a4 d report
      verdicts = sym (by_before d report ∙ ap (by d report) (as_it_was (judged d report) g))

pub no_copy_as_before : NoCopyAsBefore
no_copy_as_before d staging call h g = rules_in_force_answer.calls d staging call ∙ no_copy_as rules.versions setup_verdict d staging h call g
