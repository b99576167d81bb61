-- What is promised of the device's entries, for every record and every input (document 00, questions 1 and 2).
use Rattle.std.specs.Prelude.{ℕ, ◌+◌, ◌-◌, ◌^◌, ◌≤◌, ◌<◌, ◌≡◌, ◌⊎◌, Bool, false, not, cond, ◌&&◌, List, [], ◌∷◌, map, eqb, length, get_or, replicate, Some, None}
use Rattle.wire.specs.Codes.{notify_on_ready, component_limit, data_at}
use Rattle.wire_version.specs.Reply.{reply_size}
use Rattle.wire_offer.specs.Kind.{Kind, offer, information, extended, kind_in}
use Rattle.wire_content.specs.Content.{fields_in}
use Rattle.wire_content.specs.Head.{head_in}
use Rattle.wire_content.specs.declared.content.ContentFields.{ContentFields}
use Rattle.device_component.specs.Record.{FitsComponent, listed}
use Rattle.device_component.specs.Lists.{component_at}
use Rattle.device_component.specs.Setup as setup
use Rattle.device_component.specs.declared.record.Listed.{Listed}
use Rattle.device.specs.declared.record.Device.{Device}
use Rattle.device.specs.declared.answer.Channel.{Channel}
use Rattle.device_receiving.specs.declared.checks.ContentVerdict.TheVariants.{Take}
use Rattle.device_session.specs.Stage.{is_open, open_slot}
use Rattle.device_session.specs.Owed.{owes}
use Rattle.device_receiving.specs.Content.{is_first}
use Rattle.device.specs.Record.{FitsDevice, blank_device}
use Rattle.device.specs.Refusals.{served, row_d, breaks_d1, refused_by, ready_sent}
use Rattle.device.specs.Offer.{offer_entry}
use Rattle.device.specs.Content.{window, content_verdict, content_entry, content_staging}
use Rattle.device.specs.Entries.{set_up_of, version_entry, reset_entry, serve_entry, serve_staging}

-- D1 is kept: what set-up makes passes D1, and so does what every entry leaves of a record that passes
abbrev pub SetUpPasses : Type 0
SetUpPasses = (platform : ℕ) (list : List Listed) (count n : ℕ) → length list ≡ component_limit → (set_up_of platform list count n).row ≡ setup.served
    → breaks_d1 (set_up_of platform list count n).device ≡ false

abbrev pub ServeKeepsD1 : Type 0
ServeKeepsD1 = (d : Device) (channel : Channel) (staging report : List ℕ) → FitsDevice d → breaks_d1 d ≡ false
    → breaks_d1 (serve_entry d channel staging report).device ≡ false

abbrev pub ResetKeepsD1 : Type 0
ResetKeepsD1 = (d : Device) → FitsDevice d → breaks_d1 d ≡ false → breaks_d1 (reset_entry d).device ≡ false

-- the values are those of the types, and stay so
abbrev pub SetUpFits : Type 0
SetUpFits = (platform : ℕ) (list : List Listed) (count n : ℕ) → platform < 256 ^ 2 → count < 256 → length list ≡ component_limit
    → ((k : ℕ) → FitsComponent (component_at (map listed list) k)) → FitsDevice (set_up_of platform list count n).device

abbrev pub ResetKeepsFits : Type 0
ResetKeepsFits = (d : Device) → FitsDevice d → FitsDevice (reset_entry d).device

abbrev pub ServeKeepsFits : Type 0
ServeKeepsFits = (d : Device) (channel : Channel) (staging report : List ℕ) → FitsDevice d → ((i : ℕ) → get_or report i 0 < 256)
    → ((i : ℕ) → get_or staging i 0 < 256) → FitsDevice (serve_entry d channel staging report).device

-- the blank record of a refused set-up is served by no entry
pub record BlankRefused : Type 0 where
  pub packets : (channel : Channel) (staging report : List ℕ) → serve_entry blank_device channel staging report ≡ refused_by (row_d 1) blank_device
  pub staging : (channel : Channel) (staging report : List ℕ) → serve_staging blank_device channel staging report ≡ staging
  pub versions : version_entry blank_device ≡ record { row = row_d 1; packet = replicate reply_size 0 }
  pub resets : reset_entry blank_device ≡ record { row = row_d 1; device = blank_device }

-- a refused call changes no byte and no part of the record, and sends nothing
abbrev pub RefusedChangesNothing : Type 0
RefusedChangesNothing = (d : Device) (channel : Channel) (staging report : List ℕ) (k : ℕ) → (serve_entry d channel staging report).row ≡ row_d k
    → (serve_entry d channel staging report ≡ refused_by (row_d k) d) × (serve_staging d channel staging report ≡ staging)

-- place j is outside the region that the session may write
abbrev pub Beside : Device → (slot j : ℕ) → Type 0
Beside d slot j = (j < (window d slot).base.0) ⊎ ((window d slot).base.0 + (window d slot).len ≤ j)

-- address j of a region is outside the data of a block
abbrev pub Around : ContentFields → (j : ℕ) → Type 0
Around c j = (j < c.address.0) ⊎ (c.address.0 + c.length ≤ j)

-- a valid block of the accepted offer: its data stand at their addresses in the component's region; the rest of the region is erased by a first block and
-- stays otherwise; nothing else changes
pub record TakesBlock (d : Device) (staging report : List ℕ) : Type 0 where
  pub slot : ℕ
  pub opened : open_slot d.session.stage ≡ Some slot
  pub row : (content_entry d staging report).row ≡ served
  pub verdict : content_verdict d report ≡ Take slot
  pub written : (j : ℕ) → (fields_in report).address.0 ≤ j → j < (fields_in report).address.0 + (fields_in report).length
      → get_or (content_staging d staging report) ((window d slot).base.0 + j) 0 ≡ get_or report (data_at + (j - (fields_in report).address.0)) 0
  pub rest : (j : ℕ) → j < (window d slot).len → Around (fields_in report) j
      → get_or (content_staging d staging report) ((window d slot).base.0 + j) 0
      ≡ cond (is_first (head_in report)) 0xFF (get_or staging ((window d slot).base.0 + j) 0)
  pub beside : (j : ℕ) → Beside d slot j → get_or (content_staging d staging report) j 0 ≡ get_or staging j 0

-- the staging buffer keeps its length, and changes only by a valid block of the accepted offer
abbrev pub StagingChanges : Type 0
StagingChanges = (d : Device) (staging report : List ℕ) → FitsDevice d → ((i : ℕ) → get_or report i 0 < 256)
    → (length (content_staging d staging report) ≡ length staging)
    × ((content_staging d staging report ≡ staging) ⊎ TakesBlock d staging report)

-- the replies of a served offer packet: none to a notify on ready whose READY is now owed, else one
abbrev pub awaits : Device → Kind → Bool
awaits d (offer o) = false
awaits d (information s) = false
awaits d (extended s) = eqb s.code notify_on_ready && (is_open d.session.stage && not (owes d.session.owed))

abbrev pub OfferReplies : Type 0
OfferReplies = (d : Device) (n : ℕ) (report : List ℕ) → (offer_entry d n report).row ≡ served
    → (offer_entry d n report).sent ≡ cond (awaits d (kind_in report)) [] ((offer_entry d n report).replies.reply ∷ [])

-- the replies of a served content packet: its own, and then the owed READY exactly where the session becomes idle
abbrev pub becomes_idle : Device → Device → Bool
becomes_idle d d' = is_open d.session.stage && not (is_open d'.session.stage)

abbrev pub ContentReplies : Type 0
ContentReplies = (d : Device) (staging report : List ℕ) → (content_entry d staging report).row ≡ served
    → (content_entry d staging report).sent
    ≡ (content_entry d staging report).replies.reply ∷ ready_sent (cond (becomes_idle d (content_entry d staging report).device) d.session.owed None)
