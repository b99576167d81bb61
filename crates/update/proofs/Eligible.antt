-- What eligibility says of an offer and the slot of its component. Assumes nothing.
use Prim.Native.Nat.{ℕ, ◌<◌}
use mathlib.Core.Path.{◌≡◌, refl, sym, ap, subst, ◌∙◌}
use mathlib.Core.Bool.{Bool, true, false, not, true≢false}
use mathlib.Core.List.{List}
use native.Mathlib.Omega.{arith}
use lib.Dec.{T}
use lib.Seq.{get_or-take}
use Rattle.wire.specs.Checks.{applies}
use Rattle.wire_offer.specs.Offer.{fields_in}
use Rattle.wire_offer.specs.declared.offer.OfferFields.{OfferFields}
use Rattle.device_component.specs.Lists.{component_at}
use Rattle.device_component.specs.Record.{is_pending}
use Rattle.device_component.specs.Versions.{offer_version_fits}
use Rattle.device_component.specs.declared.record.Component.{Component}
use Rattle.std.specs.Prelude.{Option, Some, None}
use Rattle.update_passes.proofs.Tests.{is_false}
use Rattle.bundle_layout.specs.Layout.{count_in, id_in}
use Rattle.bundle.proofs.Accepted.{Accepted}
use Rattle.device_slots.specs.Slots.{slot_of, is_absent}
use Rattle.device_slots.specs.Standing.{standing_of}
use Rattle.device_offering.specs.Offer as offering
use Rattle.device_offering.specs.Offer.{rejections_at}
use Rattle.device_offering.specs.Eligible.{Eligible}
use Rattle.device_offering.proofs.Eligible.{eligible_is}
use Rattle.device.specs.Offer.{rejections, need_unmet}
use Rattle.device.specs.Record.{find, component, to_idle, idle_with}
use Rattle.device.specs.declared.record.Device.{Device}
use Rattle.host.specs.Step.{entry_at}
use Rattle.update.specs.Claim.{offer_at, is_eligible}
use Rattle.update.proofs.Sent.{with_token}

-- the id of an offer is that of its entry
pub offer_id : (b : List ℕ) (i : ℕ) → (offer_at b i).id ≡ id_in (entry_at b i)
unfolding fields_in
offer_id b i = get_or-take 16 (entry_at b i) 2 0 (omega arith)

-- no two offers of an accepted bundle have one id
pub ids_apart : (b : List ℕ) → Accepted b → (i j : ℕ) → i < count_in b → j < count_in b → (offer_at b i).id ≡ (offer_at b j).id → i ≡ j
ids_apart b α i j l m e = α.ids i j l m (sym (offer_id b i) ∙ e ∙ offer_id b j)

-- a check of 2 to 7 applies, of a slot and the component there
abbrev pub rejected : (platform : ℕ) → OfferFields → Option ℕ → Component → Bool
rejected platform o f c = applies (rejections_at platform (record { at = f; component = c }) o)

-- eligible is not rejected
pub rejected_is : (d : Device) (components : List Component) (o : OfferFields)
    → is_eligible (idle_with d components) o ≡ not (rejected d.platform o (find (idle_with d components) o.id) (component_at components (slot_of (find (idle_with d components) o.id))))
unfolding offering.rejections
rejected_is d components o = refl

-- an offer that cannot be eligible is rejected
rejects : (platform : ℕ) (o : OfferFields) (f : Option ℕ) (c : Component) → (Eligible platform (record { at = f; component = c }) o → ⊥) → rejected platform o f c ≡ true
rejects platform o f c h = go (rejected platform o f c) refl
  where
    go : (x : Bool) → rejected platform o f c ≡ x → rejected platform o f c ≡ true
    go true e = e
    go false e = absurd (h ((eligible_is platform (record { at = f; component = c }) o).0 e))

-- nothing is no slot
pub no_slot : (k : ℕ) → None ≡ Some k → ⊥
no_slot k e = true≢false (ap is_absent e)

-- an absent component is rejected
pub absent_rejected : (platform : ℕ) (o : OfferFields) (c : Component) → rejected platform o None c ≡ true
absent_rejected platform o c = rejects platform o None c (λ e. no_slot e.slot e.listed)

-- so is a pending one
pub pending_rejected : (platform : ℕ) (o : OfferFields) (k : ℕ) (c : Component) → is_pending c.staged ≡ true → rejected platform o (Some k) c ≡ true
pending_rejected platform o k c h = rejects platform o (Some k) c (λ e. true≢false (sym h ∙ ap is_pending e.free))

-- an eligible offer: its component is there, has nothing staged, and runs an older version
pub record Fresher (d : Device) (o : OfferFields) : Type 0 where
  pub slot : ℕ
  pub here : find d o.id ≡ Some slot
  pub free : (component d slot).staged ≡ None
  pub newer : offer_version_fits (component d slot) o.version ≡ true

-- the component in the slot that was found
in_slot : (d : Device) (o : OfferFields) → Eligible d.platform (standing_of o.id d.count d.components) o → Fresher d o
in_slot d o e = record {
  slot = e.slot;
  here = e.listed;
  free = subst (λ (f : Option ℕ). (component d (slot_of f)).staged ≡ None) e.listed e.free;
  newer = subst (λ (f : Option ℕ). offer_version_fits (component d (slot_of f)) o.version ≡ true) e.listed e.version;
}

-- what eligibility says
pub eligible_says : (d : Device) (o : OfferFields) → T (is_eligible (to_idle d) o) → Fresher d o
unfolding offering.rejections
eligible_says d o t = in_slot d o ((eligible_is d.platform (standing_of o.id d.count d.components) o).0 (is_false _ t))

-- checks 2 to 7 do not read the token
pub token_rejections : (d : Device) (o : OfferFields) (token : ℕ) → applies (rejections d (with_token o token)) ≡ applies (rejections d o)
unfolding offering.rejections
token_rejections d o token = refl

-- nor does the check of the need
pub token_need : (d : Device) (o : OfferFields) (token : ℕ) → need_unmet d (with_token o token) ≡ need_unmet d o
unfolding offering.need_unmet
token_need d o token = refl
