-- A component becomes pending only by an image of its own. Assumes nothing.
use mathlib.Core.Path.{◌≡◌, refl, sym, ◌∙◌, ap}
use mathlib.Core.Bool.{Bool, true, false}
use mathlib.Core.List.{List, [], ◌∷◌}
use mathlib.Core.Logic.{◌⊎◌, inl, inr}
use Prim.Native.Nat.{ℕ, zero, suc}
use lib.ListN.{length, get_or, set}
use Rattle.wire.specs.declared.version.Version.{Version}
use Rattle.wire_offer.specs.Kind.{Kind, kind_in}
use Rattle.wire_content.specs.Head.{head_in}
use Rattle.image.specs.Region.{region_bytes}
use Rattle.image.specs.Judge.{Image, image_in}
use Rattle.image.specs.declared.judge.ImageFault.TheVariants.{Damaged, Foreign}
use Rattle.std.specs.Prelude.{Ok, Err}
use Rattle.device_component.specs.Lists.{component_at}
use Rattle.device_component.specs.Record.{with_staged, blank_component}
use Rattle.device_component.specs.Versions.{image_version_fits}
use Rattle.device_component.specs.declared.record.Component.{Component}
use Rattle.std.specs.Prelude.{Option, Some, None}
use Rattle.device_session.specs.Stage.{at_slot}
use Rattle.device_receiving.specs.declared.checks.ContentVerdict.{ContentVerdict}
use Rattle.device_receiving.specs.declared.checks.ContentVerdict.TheVariants.{Answer, Take}
use Rattle.device_receiving.specs.Content.{is_last}
use Rattle.device_receiving.specs.Finish.{judge, finish}
use Rattle.device_receiving.specs.Receive.{on_block, written, on_verdict, staging_by}
use Rattle.device_receiving.proofs.content.Laws.{kept}
use Rattle.device.specs.declared.record.Device.{Device}
use Rattle.device.specs.declared.answer.Channel.TheVariants.{Offer, Content}
use Rattle.device.specs.Record.{component}
use Rattle.device.specs.Refusals.{Row, served, row_d, kept_by, refusal_of, unless_refused}
use Rattle.device.specs.Offer.{on_kind, offer_entry}
use Rattle.device.specs.Content.{session_component, content_verdict, received, content_entry, content_staging}
use Rattle.device.specs.Entries.{serve_entry, serve_staging}
use Rattle.device.specs.Images.{StagesOwnImage}

-- an element after a store is the one before it, or the one stored
pub at_set : (l : List Component) (i k : ℕ) (a z : Component) → (get_or (set l i a) k z ≡ get_or l k z) ⊎ ((k ≡ i) × (get_or (set l i a) k z ≡ a))
at_set [] i k a z = inl refl
at_set (x ∷ xs) zero zero a z = inr (refl, refl)
at_set (x ∷ xs) zero (suc k) a z = inl refl
at_set (x ∷ xs) (suc i) zero a z = inl refl
at_set (x ∷ xs) (suc i) (suc k) a z = go (at_set xs i k a z) where
  go : (get_or (set xs i a) k z ≡ get_or xs k z) ⊎ ((k ≡ i) × (get_or (set xs i a) k z ≡ a))
      → (get_or (set xs i a) k z ≡ get_or xs k z) ⊎ ((suc k ≡ suc i) × (get_or (set xs i a) k z ≡ a))
  go (inl e) = inl e
  go (inr h) = inr (ap suc h.0, h.1)

-- two pending components have one version
pub one_version : (v w : Version) → Some v ≡ Some w → v ≡ w
one_version v w e = ap version e where
  version : Option Version → Version
  version None = v
  version (Some x) = x

module _ (d : Device) (staging report : List ℕ) (k : ℕ) (v : Version) where
  -- what is claimed, of the components and the staging buffer that a call leaves
  abbrev Own : List Component → List ℕ → Type 0
  Own components s = (component_at components k).staged ≡ Some v
      → ((component d k).staged ≡ Some v)
      ⊎ ((image_in (region_bytes (component d k).fixed.region s) (component d k).fixed.id ≡ Ok v) × (image_version_fits (component d k) v ≡ true))

  -- a component that stays
  unchanged : (slot : ℕ) (s : List ℕ) → Own (set d.components slot (component d slot)) s
  unchanged slot s = rw (kept d.components slot) inl

  module _ (slot : ℕ) where
    after_judge : (s : List ℕ) (m : Image) → image_in (region_bytes (component d slot).fixed.region s) (component d slot).fixed.id ≡ m
        → Own (set d.components slot (judge (component d slot) m).component) s
    after_judge s (Err Damaged) e = unchanged slot s
    after_judge s (Err Foreign) e = unchanged slot s
    after_judge s (Ok w) e = go (image_version_fits (component d slot) w) refl where
      go : (b : Bool) → image_version_fits (component d slot) w ≡ b → Own (set d.components slot (judge (component d slot) (Ok w)).component) s
      go false f = rw f (unchanged slot s)
      go true f = rw f (λ h. stored h (at_set d.components slot k (with_staged (component d slot) w) blank_component)) where
        stored : (get_or (set d.components slot (with_staged (component d slot) w)) k blank_component).staged ≡ Some v
            → (get_or (set d.components slot (with_staged (component d slot) w)) k blank_component ≡ component d k)
            ⊎ ((k ≡ slot) × (get_or (set d.components slot (with_staged (component d slot) w)) k blank_component ≡ with_staged (component d slot) w))
            → ((component d k).staged ≡ Some v)
            ⊎ ((image_in (region_bytes (component d k).fixed.region s) (component d k).fixed.id ≡ Ok v) × (image_version_fits (component d k) v ≡ true))
        stored h (inl q) = inl (sym (ap (λ (c : Component). c.staged) q) ∙ h)
        stored h (inr q) =
            let same : w ≡ v = one_version w v (sym (ap (λ (c : Component). c.staged) q.1) ∙ h) in
            inr (rw (q.0, ← same) e, rw (q.0, ← same) f)

    after_block : (n : ℕ) (s : List ℕ) → Own (set d.components slot (on_block (component d slot) d.session n report s).component) s
    unfolding on_block finish
    after_block n s = go (is_last (head_in report)) refl where
      go : (b : Bool) → is_last (head_in report) ≡ b → Own (set d.components slot (on_block (component d slot) d.session n report s).component) s
      go true e = rw e (after_judge s _ refl)
      go false e = rw e (unchanged slot s)

    after_verdict : (w : ContentVerdict)
        → Own (set d.components slot (on_verdict (component d slot) d.session report staging w).component)
        (staging_by (component d slot).fixed.region report staging w)
    after_verdict (Answer s) = unchanged slot staging
    after_verdict (Take n) = after_block n (written (component d slot).fixed.region report staging)

  after_row : (row : Row) (w : ContentVerdict)
      → Own (unless_refused row d (received d (on_verdict (session_component d) d.session report staging w))).device.components
      (kept_by row staging (staging_by (session_component d).fixed.region report staging w))
  after_row served w = after_verdict (at_slot d.session.stage) w
  after_row (row_d n) w = inl

-- a packet of the offer channel changes no component
offer_components : (d : Device) (row : Row) (p : Kind) → (unless_refused row d (on_kind d p)).device.components ≡ d.components
offer_components d served p = refl
offer_components d (row_d n) p = refl

pub stages_own_image : StagesOwnImage
unfolding serve_entry serve_staging offer_entry content_entry content_staging
stages_own_image d Content staging report k v =
    after_row d staging report k v (refusal_of 60 d (length staging) (length report)) (content_verdict d report)
stages_own_image d Offer staging report k v =
    λ h. inl (ap (λ (components : List Component). (get_or components k blank_component).staged) (sym (offer_components d (refusal_of 16 d (length staging) (length report)) (kind_in report))) ∙ h)
