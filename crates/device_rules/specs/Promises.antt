-- What document 02 leaves as it is: where versions have the variant that their component runs, every call answers as by document 01's rules on versions, with the
-- floors beside them (A1); every call on a record that D1's new clause lets pass, but a block sent again, answers as by document 01's rules on sequences (A4); and
-- where every floor is 0, set-up and every call answer as without floors (A5).
use Rattle.std.specs.Prelude.{ℕ, ◌<◌, ◌≡◌, true, false, List, map, Some}
use Rattle.wire.specs.Codes.{success_status, error_invalid}
use Rattle.wire.specs.Version.{variant_of}
use Rattle.wire.specs.declared.version.Version.{Version}
use Rattle.wire_offer.specs.Kind.{offer, kind_in}
use Rattle.wire_offer.specs.declared.offer.OfferFields.{OfferFields}
use Rattle.wire_content.specs.Head.{head_in}
use Rattle.image.specs.Region.{region_bytes}
use Rattle.image.specs.Judge.{image_in}
use Rattle.std.specs.Prelude.{Ok}
use Rattle.device_component.specs.Lists.{component_at}
use Rattle.device_component.specs.Record.{listed}
use Rattle.device_component.specs.declared.record.Component.{Component}
use Rattle.device_component.specs.declared.record.Listed.{Listed}
use Rattle.device_session.specs.Sound.{holds_wrong}
use Rattle.device_receiving.specs.Content.{is_last, is_copy, sent_again}
use Rattle.device_receiving.specs.declared.checks.ContentVerdict.TheVariants.{Answer, Take}
use Rattle.device.specs.declared.record.Device.{Device}
use Rattle.device.specs.declared.answer.Channel.TheVariants.{Offer, Content}
use Rattle.device.specs.Record.{find, component}
use Rattle.device.specs.Refusals.{served, breaks_d1}
use Rattle.device.specs.Content.{content_verdict, content_entry, content_staging}
use Rattle.device.specs.Entries.{set_up_of}
use Rattle.device.specs.Floors.{Allowed}
use Rattle.device.specs.Calls.{Call, packet, versions, reset, answer_of}
use Rattle.device_rules.specs.Rules.{in_force, without_a5, without_a4, without_a1, document01}
use Rattle.device_rules.specs.Entries.{set_up_by, verdict_on_by, answer_by}

-- with the rules in force, a call answers what its entry answers, set-up too
pub record RulesInForceAnswer : Type 0 where
  pub calls : (d : Device) (staging : List ℕ) (call : Call) → answer_of d staging call ≡ answer_by in_force d staging call
  pub set_up : (platform : ℕ) (list : List Listed) (count n : ℕ) → set_up_of platform list count n ≡ set_up_by in_force platform list count n

-- a version has the variant of the component's running one
abbrev pub OneVariant : Component → Version → Type 0
OneVariant c v = variant_of v ≡ variant_of c.running

-- P holds of what is staged of each listed component
abbrev pub AllStaged : (P : Component → Version → Type 0) → Device → Type 0
AllStaged P d = (k : ℕ) (v : Version) → k < d.count → (component d k).staged ≡ Some v → P (component d k) v

-- P holds of what a call brings to a component: the version of an offer for a listed component; and that of an image, with a right CRC and the component's id,
-- which a last block, where it is taken, leaves in the region of the session's component
abbrev pub Brings : (P : Component → Version → Type 0) → Device → (staging : List ℕ) → Call → Type 0
Brings P d staging (packet Offer report) = (o : OfferFields) (k : ℕ) → kind_in report ≡ offer o → find d o.id ≡ Some k → P (component d k) o.version
Brings P d staging (packet Content report) = (k : ℕ) (v : Version) → (content_entry d staging report).row ≡ served → content_verdict d report ≡ Take k
    → is_last (head_in report) ≡ true
    → image_in (region_bytes (component d k).fixed.region (content_staging d staging report)) (component d k).fixed.id ≡ Ok v → P (component d k) v
Brings P d staging versions = Unit {0}
Brings P d staging reset = Unit {0}

-- what is staged, and what a call brings, has the variant of its component's running version
abbrev pub StagedOne : Device → Type 0
StagedOne d = AllStaged OneVariant d

abbrev pub BroughtOne : Device → (staging : List ℕ) → Call → Type 0
BroughtOne d staging call = Brings OneVariant d staging call

-- A1 changes nothing where what is staged and what a call brings have the running variant, each of its own component: the same row, the same replies, the same
-- record and the same bytes, of served and of refused calls
abbrev pub OneVariantAsBefore : Type 0
OneVariantAsBefore = (d : Device) (staging : List ℕ) (call : Call) → StagedOne d → BroughtOne d staging call
    → answer_of d staging call ≡ answer_by without_a1 d staging call

-- what a device that passes D1 has staged is so
abbrev pub SoundStagedOne : Type 0
SoundStagedOne = (d : Device) → breaks_d1 d ≡ false → StagedOne d

-- the call is no block sent again: what it brings is no copy of the previous packet of a receiving session
abbrev pub BringsNoCopy : Device → Call → Type 0
BringsNoCopy d (packet Offer report) = Unit {0}
BringsNoCopy d (packet Content report) = sent_again d.session.stage (is_copy d.session.previous report) (head_in report) ≡ false
BringsNoCopy d versions = Unit {0}
BringsNoCopy d reset = Unit {0}

-- A4 changes nothing where D1's clause on the previous packet does not apply and the call is no block sent again: the same row, the same replies, the same
-- record and the same bytes
abbrev pub NoCopyAsBefore : Type 0
NoCopyAsBefore = (d : Device) (staging : List ℕ) (call : Call) → holds_wrong d.session ≡ false → BringsNoCopy d call
    → answer_of d staging call ≡ answer_by without_a4 d staging call

-- what is answered 0 without being taken was answered 0x0B before A4; it changes nothing (`AnswerChangesNothing`)
abbrev pub CopyWasInvalid : Type 0
CopyWasInvalid = (d : Device) (report : List ℕ) → content_verdict d report ≡ Answer success_status → verdict_on_by without_a4 d report ≡ Answer error_invalid

-- the floors of the first `count` components have variant 0, as S5 asks
abbrev pub FloorsPlain : (count : ℕ) → List Component → Type 0
FloorsPlain count components = (k : ℕ) → k < count → variant_of (component_at components k).fixed.floor ≡ 0

-- A5 changes nothing where the floors have variant 0 and their components allow what is staged and what a call brings: the same row, the same replies,
-- the same record and the same bytes; and set-up, for a list with such floors, the same row and the same record
pub record NotBelowAsBefore : Type 0 where
  pub calls : (d : Device) (staging : List ℕ) (call : Call) → FloorsPlain d.count d.components → AllStaged Allowed d → Brings Allowed d staging call
      → answer_of d staging call ≡ answer_by without_a5 d staging call
  pub set_up : (platform : ℕ) (list : List Listed) (count n : ℕ) → FloorsPlain count (map listed list)
      → set_up_of platform list count n ≡ set_up_by without_a5 platform list count n

-- the floor of each of the first `count` components is 0
abbrev pub NoFloor : (count : ℕ) → List Component → Type 0
NoFloor count components = (k : ℕ) → k < count → (component_at components k).fixed.floor ≡ record { 0 = 0 }

-- so it changes nothing where the floors of the listed components are 0, whatever a call brings; and set-up for such a list
pub record NoFloorAsBefore : Type 0 where
  pub calls : (d : Device) (staging : List ℕ) (call : Call) → NoFloor d.count d.components → answer_of d staging call ≡ answer_by without_a5 d staging call
  pub set_up : (platform : ℕ) (list : List Listed) (count n : ℕ) → NoFloor count (map listed list)
      → set_up_of platform list count n ≡ set_up_by without_a5 platform list count n

-- under the premises of the three, every call answers as by document 01's rules; set-up does for a list whose floors are 0
pub record AsDocument01 : Type 0 where
  pub calls : (d : Device) (staging : List ℕ) (call : Call) → StagedOne d → BroughtOne d staging call → holds_wrong d.session ≡ false → BringsNoCopy d call
      → NoFloor d.count d.components → answer_of d staging call ≡ answer_by document01 d staging call
  pub set_up : (platform : ℕ) (list : List Listed) (count n : ℕ) → NoFloor count (map listed list)
      → set_up_of platform list count n ≡ set_up_by document01 platform list count n
