-- The lowest allowed version (document 02, A5): what an offer, an image and a record below a component's floor are answered with; and that no version below the
-- floor becomes pending or starts to run by a reset, and no call changes the floor.
use Rattle.std.specs.Prelude.{ℕ, ◌≤◌, ◌<◌, ◌≡◌, true, false, List, [], ◌∷◌, map, ◌⊎◌, length, take, replicate, Some, None}
use Rattle.wire.specs.Codes.{protocol_number, offer_reject, reject_old_fw, error_version}
use Rattle.wire.specs.Version.{variant_of, release_of}
use Rattle.wire.specs.declared.version.Version.{Version}
use Rattle.wire_version.specs.Reply.{reply_size}
use Rattle.wire_offer.specs.Kind.{offer, kind_in}
use Rattle.wire_offer.specs.Reply as offer_reply
use Rattle.wire_offer.specs.declared.offer.OfferFields.{OfferFields}
use Rattle.wire_content.specs.Head.{head_in}
use Rattle.wire_content.specs.Reply as content_reply
use Rattle.image.specs.Region.{region_bytes}
use Rattle.image.specs.Judge.{image_in}
use Rattle.std.specs.Prelude.{Ok}
use Rattle.device_component.specs.Record.{listed}
use Rattle.device_component.specs.Lists.{component_at}
use Rattle.device_component.specs.Setup as setup
use Rattle.device_component.specs.Setup.{staging_too_long, bad_count, bad_ids, bad_regions}
use Rattle.device_component.specs.Versions.{wrong_variant, below_floor}
use Rattle.device_component.specs.declared.record.Component.{Component}
use Rattle.device_component.specs.declared.record.Listed.{Listed}
use Rattle.device_session.specs.Stage.{is_open}
use Rattle.device_session.specs.Effect.{one_reply}
use Rattle.device_receiving.specs.Content.{is_last}
use Rattle.device_receiving.specs.declared.checks.ContentVerdict.TheVariants.{Take}
use Rattle.device.specs.declared.record.Device.{Device}
use Rattle.device.specs.declared.answer.Channel.{Channel}
use Rattle.device.specs.Record.{find, component, to_idle, blank_device}
use Rattle.device.specs.Refusals.{row_d, Outcome, served, refused_by, ready_sent}
use Rattle.device.specs.Offer.{offer_entry}
use Rattle.device.specs.Content.{content_verdict, content_entry, content_staging}
use Rattle.device.specs.Entries.{set_up_of, version_entry, reset_entry, serve_entry}
use Rattle.device.specs.Calls.{Call, Kept, after_call, Event, after_events, from_set_up}

-- the reply to an offer with this token that is rejected with reason 0, and the record as it was
abbrev pub only_rejects : Device → (token : ℕ) → Outcome
only_rejects d token = record {
  row = served;
  replies = one_reply (offer_reply.reply_bytes (record { token = token; reason = reject_old_fw; status = offer_reject })) None;
  sent = offer_reply.reply_bytes (record { token = token; reason = reject_old_fw; status = offer_reject }) ∷ [];
  device = d;
}

-- an offer for a component in a slot that checks 1 to 6 and that of the variant let pass
pub record ComesToSeven (d : Device) (o : OfferFields) (k : ℕ) : Type 0 where
  pub closed : is_open d.session.stage ≡ false
  pub protocol : o.protocol ≡ protocol_number
  pub listed : find d o.id ≡ Some k
  pub here : o.platform ≡ d.platform
  pub segment : o.segment ≡ 0
  pub free : (component d k).staged ≡ None
  pub variant : wrong_variant (component d k) o.version ≡ false

-- one of the first `count` components has a floor with a variant other than 0
pub record HasVariant (count : ℕ) (components : List Component) : Type 0 where
  pub slot : ℕ
  pub listed : slot < count
  pub variant : variant_of (component_at components slot).fixed.floor ≡ 0 → ⊥

-- a record with a listed component whose floor has such a variant, or that is pending with a version below its floor
pub record FloorBroken (d : Device) : Type 0 where
  pub slot : ℕ
  pub listed : slot < d.count
  pub broken : (variant_of (component d slot).fixed.floor ≡ 0 → ⊥)
      ⊎ ((v : Version) × ((component d slot).staged ≡ Some v) × (below_floor (component d slot) v ≡ true))

-- a list that S1 to S4 let pass and that has a floor with a variant is refused by S5. Below the floor: an offer that comes as far as check 7 is rejected with 0,
-- whatever its need is; an image that a last block completes, with a right CRC and its component's id, is answered with 0x07, then with the READY that was owed, and the
-- device is idle with the components that it had; and every entry refuses by D1 a record whose floor is broken
pub record FloorJudged : Type 0 where
  pub set_up : (platform : ℕ) (list : List Listed) (count n : ℕ) → staging_too_long n ≡ false → bad_count count ≡ false → bad_ids (take count (map listed list)) ≡ false
      → bad_regions n (take count (map listed list)) ≡ false → HasVariant count (map listed list)
      → set_up_of platform list count n ≡ record { row = setup.row_s 5; device = blank_device }
  pub offers : (d : Device) (n : ℕ) (report : List ℕ) (o : OfferFields) (k : ℕ) → (offer_entry d n report).row ≡ served → kind_in report ≡ offer o
      → ComesToSeven d o k → below_floor (component d k) o.version ≡ true → offer_entry d n report ≡ only_rejects d o.token
  pub images : (d : Device) (staging report : List ℕ) (k : ℕ) (v : Version) → (content_entry d staging report).row ≡ served → content_verdict d report ≡ Take k
      → is_last (head_in report) ≡ true → image_in (region_bytes (component d k).fixed.region (content_staging d staging report)) (component d k).fixed.id ≡ Ok v
      → below_floor (component d k) v ≡ true
      → ((content_entry d staging report).sent ≡ content_reply.reply_bytes (record { sequence = (head_in report).sequence; status = error_version }) ∷ ready_sent d.session.owed)
      × ((content_entry d staging report).device ≡ to_idle d)
  pub packets : (d : Device) (channel : Channel) (staging report : List ℕ) → FloorBroken d → serve_entry d channel staging report ≡ refused_by (row_d 1) d
  pub versions : (d : Device) → FloorBroken d → version_entry d ≡ record { row = row_d 1; packet = replicate reply_size 0 }
  pub reset : (d : Device) → FloorBroken d → reset_entry d ≡ record { row = row_d 1; device = d }

-- the version's release, its major and minor, is not below that of the component's floor
abbrev pub Allowed : Component → Version → Type 0
Allowed c v = release_of c.fixed.floor ≤ release_of v

-- the component in a slot, of what is kept between calls
abbrev pub component_of : Kept → ℕ → Component
component_of s k = component s.device k

-- one call, served or refused, whatever the record and the lent bytes are: what set-up fixed of a component stays, its floor too; a version with which a component
-- is pending afterwards was staged before, or is allowed; and the version that runs afterwards ran before, or is allowed
pub record CallKeepsFloor : Type 0 where
  pub fixed : (s : Kept) (call : Call) (k : ℕ) → (component_of (after_call s call) k).fixed ≡ (component_of s k).fixed
  pub pending : (s : Kept) (call : Call) (k : ℕ) (v : Version) → (component_of (after_call s call) k).staged ≡ Some v
      → ((component_of s k).staged ≡ Some v) ⊎ Allowed (component_of s k) v
  pub running : (s : Kept) (call : Call) (k : ℕ)
      → ((component_of (after_call s call) k).running ≡ (component_of s k).running) ⊎ Allowed (component_of s k) (component_of (after_call s call) k).running

-- what set-up gives, where it is served: the components of the list, each with its running version and its floor, and nothing staged
abbrev pub SetUpGives : Type 0
SetUpGives = (platform : ℕ) (list : List Listed) (count : ℕ) (staging : List ℕ) (k : ℕ) → (set_up_of platform list count (length staging)).row ≡ setup.served
    → component_of (from_set_up platform list count staging) k ≡ component_at (map listed list) k

-- after any list of calls from set-up on, whatever bytes are lent to each: the floor is the one that set-up gave; no component is pending with a version below it;
-- and a component's running version is the one that set-up gave, or its release is not below the floor's
pub record FloorHolds : Type 0 where
  pub fixed : (platform : ℕ) (list : List Listed) (count : ℕ) (staging : List ℕ) (events : List Event) (k : ℕ)
      → (component_of (after_events (from_set_up platform list count staging) events) k).fixed ≡ (component_of (from_set_up platform list count staging) k).fixed
  pub pending : (platform : ℕ) (list : List Listed) (count : ℕ) (staging : List ℕ) (events : List Event) (k : ℕ) (v : Version)
      → (component_of (after_events (from_set_up platform list count staging) events) k).staged ≡ Some v
      → Allowed (component_of (from_set_up platform list count staging) k) v
  pub running : (platform : ℕ) (list : List Listed) (count : ℕ) (staging : List ℕ) (events : List Event) (k : ℕ)
      → ((component_of (after_events (from_set_up platform list count staging) events) k).running ≡ (component_of (from_set_up platform list count staging) k).running)
      ⊎ Allowed (component_of (from_set_up platform list count staging) k) (component_of (after_events (from_set_up platform list count staging) events) k).running

-- so a component that runs an allowed version, from any record on, runs an allowed one after any list of calls: what has the fix does not lose it
abbrev pub FixStays : Type 0
FixStays = (s : Kept) (events : List Event) (k : ℕ) → Allowed (component_of s k) (component_of s k).running
    → Allowed (component_of (after_events s events) k) (component_of (after_events s events) k).running
