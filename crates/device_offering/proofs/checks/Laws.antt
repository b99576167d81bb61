-- What follows from a verdict on an offer, and that an offer while idle is answered by eligibility and need alone. Assumes nothing.
use Prim.Native.Nat.{ℕ}
use mathlib.Core.Path.{◌≡◌, refl, sym, ap, subst, ◌∙◌}
use mathlib.Core.Bool.{Bool, true, false}
use mathlib.Core.List.{List, [], ◌∷◌}
use Rattle.wire.specs.Checks.{first_of, applies}
use Rattle.wire.proofs.Chain.{first_applies, first_passes}
use Rattle.wire_offer.specs.declared.offer.OfferFields.{OfferFields}
use Rattle.device_component.specs.Record.{is_pending}
use Rattle.device_component.specs.Lists.{find, component_at}
use Rattle.device_component.specs.declared.record.Component.{Component}
use Rattle.std.specs.Prelude.{Option, Some}
use Rattle.device_slots.specs.Slots.{slot_of}
use Rattle.device_slots.specs.Standing.{standing_of}
use Rattle.device_slots.specs.declared.standing.Standing.{Standing}
use Rattle.device_session.specs.Stage.{is_open}
use Rattle.device_session.specs.declared.stage.Stage.{Stage}
use Rattle.device_session.specs.declared.stage.Stage.TheVariants.{Idle}
use Rattle.device_offering.specs.declared.verdict.OfferVerdict.{OfferVerdict}
use Rattle.device_offering.specs.declared.verdict.OfferVerdict.TheVariants.{Busy, Reject, Skip, Accept}
use Rattle.device_offering.specs.Offer.{rejections_at, need_unmet_at, rejections, need_unmet, verdict_at, offer_verdict}
use Rattle.device_offering.specs.Eligible.{Eligible}
use Rattle.device_offering.proofs.Eligible.{eligible_is}

-- what an answer says of checks 2 to 7, of check 8, and of the slot
abbrev pub Ruling : (rejected unmet : Bool) → Option ℕ → OfferVerdict → Type 0
Ruling rejected unmet f Busy = ⊥
Ruling rejected unmet f (Reject r) = rejected ≡ true
Ruling rejected unmet f Skip = (rejected ≡ false) × (unmet ≡ true)
Ruling rejected unmet f (Accept k) = (rejected ≡ false) × (unmet ≡ false) × (f ≡ Some k)

module _ (platform : ℕ) (target needed : Standing) (o : OfferFields) where
  -- the answer while idle: REJECT where checks 2 to 7 apply, SKIP where only the need is not met, else ACCEPT for the slot of the component
  rules_at : Ruling (applies (rejections_at platform target o)) (need_unmet_at needed o) target.at (verdict_at platform Idle target needed o)
  unfolding first_of
  rules_at = go (applies (rejections_at platform target o)) refl
    where
      rest : (u : Bool) → (e : Eligible platform target o) → Ruling false u target.at (first_of ((u, Skip) ∷ []) (Accept (slot_of target.at)))
      rest true e = (refl, refl)
      rest false e = (refl, refl, e.listed ∙ ap (λ (f : Option ℕ). Some (slot_of f)) (sym e.listed))

      go : (b : Bool) → applies (rejections_at platform target o) ≡ b → Ruling b (need_unmet_at needed o) target.at (verdict_at platform Idle target needed o)
      go true h =
          first_applies (Ruling true (need_unmet_at needed o) target.at) (rejections_at platform target o) ((need_unmet_at needed o, Skip) ∷ []) _
          (refl, (refl, (refl, (refl, (refl, (refl, (refl, tt))))))) h
      go false h =
          subst (Ruling false (need_unmet_at needed o) target.at) (sym (first_passes (rejections_at platform target o) ((need_unmet_at needed o, Skip) ∷ []) _ h))
          (rest (need_unmet_at needed o) ((eligible_is platform target o).0 h))

-- .. of a device's components
pub rules : (platform count : ℕ) (components : List Component) (o : OfferFields)
    → Ruling (applies (rejections platform count components o)) (need_unmet count components o) (find o.id count components)
    (offer_verdict platform count components Idle o)
unfolding rejections need_unmet offer_verdict
rules platform count components o = rules_at platform (standing_of o.id count components) (standing_of o.need count components) o

-- ACCEPT is for a component that was found and is not pending
abbrev pub OfferSays : (count : ℕ) → List Component → OfferFields → OfferVerdict → Type 0
OfferSays count components o Busy = Unit {0}
OfferSays count components o (Reject r) = Unit {0}
OfferSays count components o Skip = Unit {0}
OfferSays count components o (Accept k) = (find o.id count components ≡ Some k) × (is_pending (component_at components k).staged ≡ false)

pub offer_says : (platform count : ℕ) (components : List Component) (stage : Stage) (o : OfferFields)
    → OfferSays count components o (offer_verdict platform count components stage o)
unfolding offer_verdict first_of
offer_says platform count components stage o = go (is_open stage) refl
  where
    target : Standing
    target = standing_of o.id count components

    says : (v : OfferVerdict) → Ruling (applies (rejections_at platform target o)) (need_unmet_at (standing_of o.need count components) o) target.at v → OfferSays count components o v
    says Busy h = tt
    says (Reject r) h = tt
    says Skip h = tt
    says (Accept k) h =
        let e = (eligible_is platform target o).0 h.0 in (
          h.2,
          ap (λ (f : Option ℕ). is_pending (component_at components (slot_of f)).staged) (sym h.2) ∙ ap is_pending e.free,
        )

    go : (b : Bool) → is_open stage ≡ b → OfferSays count components o (offer_verdict platform count components stage o)
    go true h = rw h tt
    go false h = rw h (says (verdict_at platform Idle target (standing_of o.need count components) o) (rules_at platform target (standing_of o.need count components) o))
