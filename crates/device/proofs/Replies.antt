-- The replies of a served packet: none to a notify on ready whose READY is now owed; else one, and the owed READY where content makes the session idle.
-- Assumes nothing.
use mathlib.Core.Path.{◌≡◌, refl}
use mathlib.Core.Bool.{Bool, true, false, not, cond, ◌&&◌}
use mathlib.Core.List.{List, [], ◌∷◌}
use Prim.Native.Nat.{ℕ}
use lib.Dec.{eqb, leb}
use lib.ListN.{length}
use Rattle.wire.specs.Codes.{notify_on_ready, info_start_entire_transaction, info_end_offer_list}
use Rattle.wire.proofs.Chain.{either}
use Rattle.wire_offer.specs.Kind.{Kind, offer, information, extended, kind_in}
use Rattle.wire_content.specs.Head.{head_in}
use Rattle.std.specs.Prelude.{Option, Some, None}
use Rattle.device_session.specs.Stage.{is_open, open_slot}
use Rattle.device_session.specs.Owed.{owes}
use Rattle.device_session.specs.declared.stage.Stage.{Stage}
use Rattle.device_session.specs.declared.stage.Stage.TheVariants.{Idle, Offered, Receiving}
use Rattle.device_session.specs.declared.effect.Effect.{Effect}
use Rattle.device_offering.specs.Offer.{on_offer}
use Rattle.device_offering.specs.Signal.{on_information, on_notify, on_extended}
use Rattle.device_receiving.specs.Content.{is_last, is_copy}
use Rattle.device_receiving.specs.Receive.{on_block, written, on_verdict}
use Rattle.device_receiving.specs.declared.checks.ContentVerdict.{ContentVerdict}
use Rattle.device_receiving.specs.declared.checks.ContentVerdict.TheVariants.{Answer, Take}
use Rattle.device_receiving.proofs.checks.Laws.{ContentSays, content_says}
use Rattle.device.specs.declared.record.Device.{Device}
use Rattle.device.specs.Refusals.{Outcome, served_with, refusal_of, ready_sent}
use Rattle.device.specs.Offer.{on_kind, offer_entry}
use Rattle.device.specs.Content.{session_component, content_verdict, received, content_entry}
use Rattle.device.specs.Promises.{awaits, becomes_idle, OfferReplies, ContentReplies}
use Rattle.device.proofs.Answers.{served_row, content_served}

-- just its reply is sent
abbrev One : Device → Effect → Type 0
One d e = (served_with d d.components e).sent ≡ e.replies.reply ∷ []

module _ (d : Device) where
  -- what a notify on ready comes to
  abbrev notified : (token : ℕ) → Bool → Option ℕ → Outcome
  notified token b o = served_with d d.components (on_notify d.session token b o)

  notify_sends : (token : ℕ) (b : Bool) (o : Option ℕ) → (notified token b o).sent ≡ cond (b && not (owes o)) [] ((notified token b o).replies.reply ∷ [])
  notify_sends token false o = refl
  notify_sends token true None = refl
  notify_sends token true (Some t) = refl

  kind_sends : (x : Kind) → (on_kind d x).sent ≡ cond (awaits d x) [] ((on_kind d x).replies.reply ∷ [])
  unfolding on_offer on_information on_extended
  kind_sends (offer o) = refl
  kind_sends (information s) = either (One d) (eqb s.code info_start_entire_transaction) _ _ refl (either (One d) (leb s.code info_end_offer_list) _ _ refl refl)
  kind_sends (extended s) = go (eqb s.code notify_on_ready) refl where
    go : (b : Bool) → eqb s.code notify_on_ready ≡ b → (on_kind d (extended s)).sent ≡ cond (awaits d (extended s)) [] ((on_kind d (extended s)).replies.reply ∷ [])
    go true e = rw e (notify_sends s.token (is_open d.session.stage) d.session.owed)
    go false e = rw e

pub offer_replies : OfferReplies
unfolding offer_entry
offer_replies d n report e =
    let r = served_row (refusal_of 16 d n (length report)) d (on_kind d (kind_in report)) e in rw r (kind_sends d (kind_in report))

-- a session that stays does not become idle
stays_open : (b : Bool) → (b && not b) ≡ false
stays_open true = refl
stays_open false = refl

is_open_lem : (s : Stage) (k : ℕ) → open_slot s ≡ Some k → is_open s ≡ true
is_open_lem Idle k e = cc
is_open_lem (Offered o) k e = refl
is_open_lem (Receiving r) k e = refl

-- what is sent after a record became another
abbrev Sends : Device → Outcome → Type 0
Sends d a = a.sent ≡ a.replies.reply ∷ ready_sent (cond (becomes_idle d a.device) d.session.owed None)

module _ (d : Device) (report s : List ℕ) where
  verdict_sends : (v : ContentVerdict) → ContentSays (session_component d).fixed.region d.session.stage (head_in report) v
      → Sends d (received d (on_verdict (session_component d) d.session report s v))
  unfolding on_block
  verdict_sends (Answer status) h = rw (stays_open (is_open d.session.stage))
  verdict_sends (Take k) h = go (is_last (head_in report)) refl where
    go : (b : Bool) → is_last (head_in report) ≡ b
        → Sends d (received d (on_block (session_component d) d.session k report (written (session_component d).fixed.region report s)))
    go true e = rw (e, is_open_lem d.session.stage k h.0)
    go false e = rw (e, is_open_lem d.session.stage k h.0)

pub content_replies : ContentReplies
unfolding content_entry
content_replies d staging report e =
    rw (content_served d staging report e)
    (verdict_sends d report staging (content_verdict d report)
    (content_says (session_component d).fixed.region d.session.stage (is_copy d.session.previous report) (head_in report)))
