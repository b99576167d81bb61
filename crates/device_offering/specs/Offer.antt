-- An offer: checks 1 to 9, its reply and the session afterwards (document 01, "The device"; document 02, A1 and A5), for a device of this platform whose components in use are
-- the first `count`.
use Rattle.std.specs.Prelude.{ℕ, Bool, not, ◌||◌, ◌&&◌, List, [], ◌∷◌, ◌++◌, ltb, eqb, None}
use Rattle.wire.specs.Checks.{first_of}
use Rattle.wire.specs.Codes.{protocol_number, offer_skip, offer_accept, offer_reject, offer_busy, reject_old_fw, reject_inv_component, reject_swap_pending, reject_wrong_protocol, reject_wrong_segment, reject_wrong_variant}
use Rattle.wire.specs.Version.{release_of}
use Rattle.wire_offer.specs.Reply.{reply_bytes}
use Rattle.wire_offer.specs.declared.offer.OfferFields.{OfferFields}
use Rattle.device_component.specs.Record.{is_pending, effective}
use Rattle.device_component.specs.Versions.{wrong_variant, too_low}
use Rattle.device_component.specs.declared.record.Component.{Component}
use Rattle.device_slots.specs.Slots.{slot_of, is_absent}
use Rattle.device_slots.specs.Standing.{standing_of}
use Rattle.device_slots.specs.declared.standing.Standing.{Standing}
use Rattle.device_session.specs.Stage.{is_open}
use Rattle.device_session.specs.Effect.{blank_packet, in_stage, answered}
use Rattle.device_session.specs.declared.stage.Stage.{Stage}
use Rattle.device_session.specs.declared.stage.Stage.TheVariants.{Offered}
use Rattle.device_session.specs.declared.effect.Session.{Session}
use Rattle.device_session.specs.declared.effect.Effect.{Effect}
use Rattle.device_offering.specs.declared.verdict.OfferVerdict.{OfferVerdict}
use Rattle.device_offering.specs.declared.verdict.OfferVerdict.TheVariants.{Busy, Reject, Skip, Accept}

-- the effective version of a component, divided by 256, is below the 24-bit number
abbrev pub below : Component → ℕ → Bool
below c least = ltb (release_of (effective c.running c.staged)) least

-- checks 2 to 7, each with its answer, for the component that the offer is for; that of the variant, between 6 and 7, is one of them (document 02, A1)
abbrev pub rejections_at : (platform : ℕ) → (target : Standing) → OfferFields → List (Bool × OfferVerdict)
rejections_at platform target o =
    (not (eqb o.protocol protocol_number), Reject reject_wrong_protocol)
    ∷ (is_absent target.at, Reject reject_inv_component)
    ∷ (not (eqb o.platform platform), Reject reject_inv_component)
    ∷ (not (eqb o.segment 0), Reject reject_wrong_segment)
    ∷ (is_pending target.component.staged, Reject reject_swap_pending)
    ∷ (wrong_variant target.component o.version, Reject reject_wrong_variant)
    ∷ (too_low target.component o.version, Reject reject_old_fw)
    ∷ []

-- check 8: byte 8 is not 0, and the needed component is absent or its effective version is below
abbrev pub need_unmet_at : (needed : Standing) → OfferFields → Bool
need_unmet_at needed o = not (eqb o.need 0) && (is_absent needed.at || below needed.component o.least)

-- checks 1 to 9: the first that applies
abbrev pub verdict_at : (platform : ℕ) → Stage → (target needed : Standing) → OfferFields → OfferVerdict
verdict_at platform stage target needed o =
    first_of ((is_open stage, Busy) ∷ rejections_at platform target o ++ (need_unmet_at needed o, Skip) ∷ []) (Accept (slot_of target.at))

-- .. for a device's components
unfoldable pub rejections : (platform count : ℕ) → List Component → OfferFields → List (Bool × OfferVerdict)
rejections platform count components o = rejections_at platform (standing_of o.id count components) o

unfoldable pub need_unmet : (count : ℕ) → List Component → OfferFields → Bool
need_unmet count components o = need_unmet_at (standing_of o.need count components) o

unfoldable pub offer_verdict : (platform count : ℕ) → List Component → Stage → OfferFields → OfferVerdict
offer_verdict platform count components stage o = verdict_at platform stage (standing_of o.id count components) (standing_of o.need count components) o

-- the status of a verdict, and its reason: zero unless REJECT
abbrev pub status_of : OfferVerdict → ℕ
status_of Busy = offer_busy
status_of (Reject r) = offer_reject
status_of Skip = offer_skip
status_of (Accept k) = offer_accept

abbrev pub reason_of : OfferVerdict → ℕ
reason_of Busy = 0
reason_of (Reject r) = r
reason_of Skip = 0
reason_of (Accept k) = 0

-- the session after a verdict: ACCEPT makes it offered, any other changes nothing
abbrev pub after_offer : Session → (token : ℕ) → OfferVerdict → Session
after_offer session token Busy = session
after_offer session token (Reject r) = session
after_offer session token Skip = session
after_offer session token (Accept k) = in_stage session (Offered (record { slot = k; token = token })) blank_packet

-- what a verdict comes to: its reply, and the session afterwards
abbrev pub on_verdict : Session → (token : ℕ) → OfferVerdict → Effect
on_verdict session token verdict =
    answered (reply_bytes (record { token = token; reason = reason_of verdict; status = status_of verdict })) None
    (after_offer session token verdict)

-- an offer, with the component that it is for and the one that it needs
abbrev pub on_offer_at : (platform : ℕ) → Session → (target needed : Standing) → OfferFields → Effect
on_offer_at platform session target needed o = on_verdict session o.token (verdict_at platform session.stage target needed o)

-- .. for a device's components
unfoldable pub on_offer : (platform count : ℕ) → List Component → Session → OfferFields → Effect
on_offer platform count components session o = on_verdict session o.token (offer_verdict platform count components session.stage o)
