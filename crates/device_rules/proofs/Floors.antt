-- Where nothing is below its floor, A5's rules are those without floors, as they are where floors are 0; and with the other premises they are document 01's. Assumes nothing.
use mathlib.Core.Path.{◌≡◌, refl, ◌∙◌}
use mathlib.Core.Bool.{Bool, true, false, ◌||◌, ◌&&◌}
use mathlib.Core.List.{List, map}
use Prim.Native.Nat.{ℕ, ◌<◌}
use native.Mathlib.Omega.{arith}
use lib.ListN.{length, take}
use borrow.Author.Tests.{le-ltb, eq-eqb}
use Rattle.wire.specs.Checks.{first_of}
use Rattle.wire.specs.Codes.{long_size}
use Rattle.wire.specs.Version.{release_of}
use Rattle.wire.specs.declared.version.Version.{Version}
use Rattle.wire_content.specs.Head.{head_in}
use Rattle.device_component.specs.Record.{listed}
use Rattle.device_component.specs.Lists.{component_at}
use Rattle.device_component.specs.Setup as setup
use Rattle.device_component.specs.Setup.{bad_floor, bad_floors, setup_verdict}
use Rattle.device_component.specs.Versions as rule
use Rattle.device_component.specs.declared.record.Component.{Component}
use Rattle.device_component.specs.declared.record.Listed.{Listed}
use Rattle.device_component.proofs.list.Laws.{find_at}
use Rattle.device_session.proofs.sound.Laws.{open_slot_lem}
use Rattle.device_receiving.specs.Content.{is_copy}
use Rattle.device_receiving.specs.declared.checks.ContentVerdict.TheVariants.{Take}
use Rattle.device_receiving.proofs.checks.Laws.{ContentSays, content_says}
use Rattle.device.specs.declared.record.Device.{Device}
use Rattle.device.specs.declared.answer.Channel.TheVariants.{Offer, Content}
use Rattle.device.specs.Refusals.{breaks_d1}
use Rattle.device.specs.Content.{session_component}
use Rattle.device.specs.Entries.{new_device, set_up_by as set_up_on, set_up_of}
use Rattle.device.specs.Floors.{Allowed}
use Rattle.device.specs.Calls.{Call, packet, versions, reset, answer_of}
use Rattle.device.proofs.Lists.{any_never}
use Rattle.device.proofs.Passes.{serves}
use Rattle.device.proofs.Answers.{content_served}
use Rattle.device_rules.specs.Rules as rules
use Rattle.device_rules.specs.Rules.{without_a5, setup01}
use Rattle.device_rules.specs.Entries.{breaks_d1_by, answer_by}
use Rattle.device_rules.specs.Promises.{OneVariant, AllStaged, Brings, FloorsPlain, NotBelowAsBefore, NoFloor, NoFloorAsBefore, AsDocument01}
use Rattle.device_rules.proofs.Same.{any_same}
use Rattle.device_rules.proofs.InForce.{d1_as, rules_in_force_answer}
use Rattle.device_rules.proofs.Alike.{Agree, d1_alike, alike}
use Rattle.device_rules.proofs.Variants.{agree01}
use Rattle.device_rules.proofs.Sequences.{no_copy_as}

or_false : (a : Bool) → (a || false) ≡ a
or_false true = refl
or_false false = refl

and_true : (a : Bool) → (a && true) ≡ a
and_true true = refl
and_true false = refl

-- a version that is not below the floor
not_below : (c : Component) (v : Version) → Allowed c v → rule.below_floor c v ≡ false
not_below c v h = le-ltb (release_of v) (release_of c.fixed.floor) h

agree_below : Agree Allowed rules.versions rules.versions_a1
agree_below c v h =
    let fits : rule.may_follow c v ≡ (rules.versions_a1).image_fits c v = rw (not_below c v h) (and_true ((rules.versions_a1).image_fits c v)) in
    (refl, rw (not_below c v h) (or_false (rule.is_old c v)), fits, fits)

-- the rows of set-up
setup_as : (n count : ℕ) (components : List Component) → FloorsPlain count components → setup_verdict n count components ≡ setup01 n count components
unfolding setup_verdict first_of
setup_as n count components h = rw floors refl
  where
    floors : bad_floors (take count components) ≡ false
    floors =
        any_same (λ (c : Component). bad_floor c.fixed.floor) (λ (c : Component). false) count components (λ k l. rw (eq-eqb _ 0 (h k l)))
        ∙ any_never (take count components)

set_up_as : (platform : ℕ) (list : List Listed) (count n : ℕ) → FloorsPlain count (map listed list)
    → set_up_of platform list count n ≡ set_up_on (setup.row_of (setup01 n count (map listed list))) (new_device platform list count n)
unfolding set_up_of
set_up_as platform list count n h = rw (setup_as n count (map listed list) h)

module _ (d : Device) (staging : List ℕ) (plain : FloorsPlain d.count d.components) (staged : AllStaged Allowed d) where
  rows_as : setup_verdict d.staging_len d.count d.components ≡ setup01 d.staging_len d.count d.components
  rows_as = setup_as d.staging_len d.count d.components plain

  -- D1 without floors is the entry's
  pub d1_below : breaks_d1 d ≡ breaks_d1_by without_a5 d
  d1_below = d1_as d ∙ d1_alike Allowed rules.versions rules.versions_a1 setup_verdict setup01 agree_below d staging rows_as staged

  pub below_as : (call : Call) → Brings Allowed d staging call → answer_of d staging call ≡ answer_by without_a5 d staging call
  below_as call g =
      rules_in_force_answer.calls d staging call
      ∙ alike Allowed rules.versions rules.versions_a1 setup_verdict setup01 agree_below d staging rows_as call (d1_as d) staged g

pub not_below_as_before : NotBelowAsBefore
not_below_as_before = record { calls = λ d staging call p s g. below_as d staging p s call g; set_up = set_up_as }

-- nothing is below floor 0
module _ (count : ℕ) (components : List Component) (h : NoFloor count components) where
  zero_plain : FloorsPlain count components
  zero_plain k l = rw (h k l)

  zero_below : (k : ℕ) (v : Version) → k < count → Allowed (component_at components k) v
  zero_below k v l = rw (h k l) (omega arith)

module _ (d : Device) (staging : List ℕ) (h : NoFloor d.count d.components) where
  zero_staged : AllStaged Allowed d
  zero_staged k v l e = zero_below d.count d.components h k v l

  -- an offer is for a component in use, and so is a block that is taken
  zero_brings : (call : Call) → Brings Allowed d staging call
  zero_brings versions = tt
  zero_brings reset = tt
  zero_brings (packet Offer report) = λ o k e f. zero_below d.count d.components h k o.version (find_at o.id d.count d.components k f).0
  zero_brings (packet Content report) = λ k v r t l m.
      let p = (serves long_size d (length staging) (length report) (content_served d staging report r)).record_passes in
      let says : ContentSays (session_component d).fixed.region d.session.stage (head_in report) (Take k)
      = rw t at (content_says (session_component d).fixed.region d.session.stage (is_copy d.session.previous report) (head_in report)) in
      zero_below d.count d.components h k v (open_slot_lem k p says.0).0

pub no_floor_as_before : NoFloorAsBefore
no_floor_as_before = record {
  calls = λ d staging call h. below_as d staging (zero_plain d.count d.components h) (zero_staged d staging h) call (zero_brings d staging h call);
  set_up = λ platform list count n h. set_up_as platform list count n (zero_plain count (map listed list) h);
}

pub as_document01 : AsDocument01
as_document01 = record {
  calls = λ d staging call s b p g h.
      no_floor_as_before.calls d staging call h
      ∙ alike OneVariant rules.versions_a1 rules.versions01 setup01 setup01 agree01 d staging refl call
      (d1_below d staging (zero_plain d.count d.components h) (zero_staged d staging h)) s b
      ∙ no_copy_as rules.versions01 setup01 d staging p call g;
  set_up = λ platform list count n h. set_up_as platform list count n (zero_plain count (map listed list) h);
}
