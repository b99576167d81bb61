-- The six things that an entry can do to a record, and that each entry does one of them. Assumes nothing.
use mathlib.Core.Path.{◌≡◌, refl}
use mathlib.Core.Bool.{Bool, true, false}
use mathlib.Core.List.{List}
use Prim.Native.Nat.{ℕ}
use lib.Dec.{eqb, leb}
use lib.ListN.{length, get_or, set}
use Rattle.wire.specs.Codes.{long_size, kind_information, kind_extended, notify_on_ready, info_start_entire_transaction, info_end_offer_list}
use Rattle.wire.specs.declared.version.Version.{Version}
use Rattle.wire_offer.specs.Kind.{offer, kind_in}
use Rattle.wire_offer.specs.Offer as offers
use Rattle.wire_offer.specs.Signal.{signal_in}
use Rattle.wire_offer.specs.declared.signal.Signal.{Signal}
use Rattle.wire_content.specs.Head.{head_in}
use Rattle.image.specs.Region.{region_bytes}
use Rattle.image.specs.Judge.{Image, image_in}
use Rattle.image.specs.declared.judge.ImageFault.TheVariants.{Damaged, Foreign}
use Rattle.std.specs.Prelude.{Ok, Err}
use Rattle.device_component.specs.Record.{is_pending, with_staged}
use Rattle.device_component.specs.Versions.{image_version_fits}
use Rattle.std.specs.Prelude.{Option, Some, None}
use Rattle.device_session.specs.Stage.{is_open, open_slot, at_slot}
use Rattle.device_session.specs.Effect.{blank_packet, in_stage, owing}
use Rattle.device_session.specs.declared.stage.Stage.TheVariants.{Offered}
use Rattle.device_session.specs.declared.effect.Effect.{Effect}
use Rattle.device_offering.specs.Offer.{offer_verdict, after_offer, on_offer}
use Rattle.device_offering.specs.Signal.{on_information, on_notify, on_extended}
use Rattle.device_offering.specs.declared.verdict.OfferVerdict.{OfferVerdict}
use Rattle.device_offering.specs.declared.verdict.OfferVerdict.TheVariants.{Busy, Reject, Skip, Accept}
use Rattle.device_offering.proofs.checks.Laws.{OfferSays, offer_says}
use Rattle.device_receiving.specs.Content.{is_last, is_copy}
use Rattle.device_receiving.specs.Finish.{judge, finish}
use Rattle.device_receiving.specs.Receive.{goes_on, on_block, written, on_verdict, on_content}
use Rattle.device_receiving.specs.declared.checks.ContentVerdict.{ContentVerdict}
use Rattle.device_receiving.specs.declared.checks.ContentVerdict.TheVariants.{Answer, Take}
use Rattle.device_receiving.specs.declared.content.Taken.{Taken}
use Rattle.device_receiving.proofs.checks.Laws.{ContentSays, content_says}
use Rattle.device_receiving.proofs.content.Laws.{kept}
use Rattle.device.specs.declared.record.Device.{Device}
use Rattle.device.specs.declared.answer.Channel.{Channel}
use Rattle.device.specs.declared.answer.Channel.TheVariants.{Offer, Content}
use Rattle.device.specs.Record.{find, component, with_session, idle_with, to_idle}
use Rattle.device.specs.Refusals.{Row, served, row_d, refusal_of, unless_refused, Outcome}
use Rattle.device.specs.Offer.{on_kind, offer_entry}
use Rattle.device.specs.Content.{session_component, content_verdict, received, content_entry}
use Rattle.device.specs.Entries.{serve_entry}
use Rattle.device.specs.Sessions.{Accepts}
use Rattle.device.proofs.Passes.{serves}

-- what the entry of a channel can do to the record d, where the report is an offer or a signal, or content for this staging buffer
pub data Move (d : Device) (channel : Channel) (staging report : List ℕ) : Device → Type 0 where
  stays : Move d channel staging report d
  idles : Move d channel staging report (to_idle d)
  opens : (k : ℕ) → Accepts d channel staging report k → is_pending (component d k).staged ≡ false
      → Move d channel staging report (with_session d d.components (in_stage d.session (Offered (record { slot = k; token = (offers.fields_in report).token })) blank_packet))
  owes : is_open d.session.stage ≡ true → Move d channel staging report (with_session d d.components (owing d.session (Some (get_or report 3 0))))
  goes : (k : ℕ) → open_slot d.session.stage ≡ Some k → length report ≡ long_size
      → Move d channel staging report (with_session d d.components (goes_on d.session k report))
  stages : (k : ℕ) → open_slot d.session.stage ≡ Some k → (v : Version)
      → image_in (region_bytes (component d k).fixed.region (written (component d k).fixed.region report staging)) (component d k).fixed.id ≡ Ok v
      → image_version_fits (component d k) v ≡ true → Move d channel staging report (idle_with d (set d.components k (with_staged (component d k) v)))

-- where nothing refuses the call, the entry's own answer counts
unless : (P : Device → Type 0) (row : Row) (d : Device) (answer : Outcome) → P d → (row ≡ served → P answer.device) → P (unless_refused row d answer).device
unless P served d answer h k = k refl
unless P (row_d n) d answer h k = h

module _ (d : Device) (staging report : List ℕ) where
  -- the record after what a packet did
  abbrev after : Effect → Device
  after effect = with_session d d.components effect.session

  -- checks 1 to 9 over the offer that the report is
  abbrev verdict_on : OfferVerdict
  verdict_on = offer_verdict d.platform d.count d.components d.session.stage (offers.fields_in report)

  -- no row refuses the packet, and it is an offer
  module _ (r : refusal_of 16 d (length staging) (length report) ≡ served) (x : kind_in report ≡ offer (offers.fields_in report)) where
    accepts : (k : ℕ) → verdict_on ≡ Accept k → find d (offers.fields_in report).id ≡ Some k → Accepts d Offer staging report k
    unfolding serve_entry offer_entry on_offer
    accepts k e f = record { fields = offers.fields_in report; entry = refl; kind = x; component = f; verdict = e; reply = rw (r, x, e) }

    after_offer_lem : (v : OfferVerdict) → verdict_on ≡ v → OfferSays d.count d.components (offers.fields_in report) v
        → Move d Offer staging report (with_session d d.components (after_offer d.session (offers.fields_in report).token v))
    after_offer_lem Busy e h = stays
    after_offer_lem (Reject w) e h = stays
    after_offer_lem Skip e h = stays
    after_offer_lem (Accept k) e h = opens k (accepts k e h.0) h.1

  after_information : (s : Signal) → Move d Offer staging report (after (on_information d.session s))
  unfolding on_information
  after_information s = go (eqb s.code info_start_entire_transaction) (leb s.code info_end_offer_list) refl refl where
    go : (a b : Bool) → eqb s.code info_start_entire_transaction ≡ a → leb s.code info_end_offer_list ≡ b → Move d Offer staging report (after (on_information d.session s))
    go true b e f = rw e idles
    go false true e f = rw (e, f) stays
    go false false e f = rw (e, f) stays

  after_notify : (b : Bool) (o : Option ℕ) → is_open d.session.stage ≡ b → Move d Offer staging report (after (on_notify d.session (get_or report 3 0) b o))
  after_notify false o e = stays
  after_notify true None e = owes e
  after_notify true (Some t) e = stays

  after_extended : Move d Offer staging report (after (on_extended d.session (signal_in report)))
  unfolding on_extended
  after_extended = go (eqb (get_or report 0 0) notify_on_ready) refl where
    go : (b : Bool) → eqb (get_or report 0 0) notify_on_ready ≡ b → Move d Offer staging report (after (on_extended d.session (signal_in report)))
    go true e = rw e (after_notify (is_open d.session.stage) d.session.owed refl)
    go false e = rw e stays

  after_kind : refusal_of 16 d (length staging) (length report) ≡ served → Move d Offer staging report (on_kind d (kind_in report)).device
  unfolding kind_in on_offer
  after_kind r = go (eqb (get_or report 2 0) kind_information) (eqb (get_or report 2 0) kind_extended) refl refl where
    go : (a b : Bool) → eqb (get_or report 2 0) kind_information ≡ a → eqb (get_or report 2 0) kind_extended ≡ b → Move d Offer staging report (on_kind d (kind_in report)).device
    go true b e f = rw e (after_information (signal_in report))
    go false true e f = rw (e, f) after_extended
    go false false e f = rw (e, f) (after_offer_lem r (rw (e, f)) verdict_on refl (offer_says d.platform d.count d.components d.session.stage (offers.fields_in report)))

  -- the record after a content packet for the component in slot k
  abbrev taken : (k : ℕ) → Taken → Device
  taken k t = with_session d (set d.components k t.component) t.effect.session

  module _ (k : ℕ) (h : open_slot d.session.stage ≡ Some k) where
    -- the staging buffer after a block
    abbrev buffer : List ℕ
    buffer = written (component d k).fixed.region report staging

    after_judge : (m : Image) → image_in (region_bytes (component d k).fixed.region buffer) (component d k).fixed.id ≡ m
        → Move d Content staging report (idle_with d (set d.components k (judge (component d k) m).component))
    after_judge (Err Damaged) e = rw (kept d.components k) idles
    after_judge (Err Foreign) e = rw (kept d.components k) idles
    after_judge (Ok v) e = go (image_version_fits (component d k) v) refl where
      go : (b : Bool) → image_version_fits (component d k) v ≡ b → Move d Content staging report (idle_with d (set d.components k (judge (component d k) (Ok v)).component))
      go true f = rw f (stages k h v e f)
      go false f = rw (f, kept d.components k) idles

    after_block : length report ≡ long_size → Move d Content staging report (taken k (on_block (component d k) d.session k report buffer))
    unfolding on_block finish
    after_block l = go (is_last (head_in report)) refl where
      go : (b : Bool) → is_last (head_in report) ≡ b → Move d Content staging report (taken k (on_block (component d k) d.session k report buffer))
      go true e = rw e (after_judge _ refl)
      go false e = rw (e, kept d.components k) (goes k h l)

  after_content : length report ≡ long_size → (v : ContentVerdict) → ContentSays (session_component d).fixed.region d.session.stage (head_in report) v
      → Move d Content staging report (received d (on_verdict (session_component d) d.session report staging v)).device
  after_content l (Answer s) h = rw (kept d.components (at_slot d.session.stage)) stays
  after_content l (Take k) h = rw h.0 (after_block k h.0 l)

  -- each entry for packets does one of the six
  pub serve_moves : (channel : Channel) → Move d channel staging report (serve_entry d channel staging report).device
  unfolding serve_entry offer_entry content_entry
  serve_moves Offer = unless (Move d Offer staging report) (refusal_of 16 d (length staging) (length report)) d (on_kind d (kind_in report)) stays after_kind
  serve_moves Content =
      unless (Move d Content staging report) (refusal_of 60 d (length staging) (length report)) d
      (received d (on_content (session_component d) d.session report staging)) stays
      (λ r. after_content (serves 60 d (length staging) (length report) r).report (content_verdict d report)
      (content_says (session_component d).fixed.region d.session.stage (is_copy d.session.previous report) (head_in report)))
