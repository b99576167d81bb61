-- Rules that agree on versions of which something holds answer alike where it holds of what is staged and of what a call brings. Assumes nothing.
use mathlib.Core.Path.{◌≡◌, refl, sym, ap, ap₂, subst, ◌∙◌}
use mathlib.Core.Bool.{Bool, not}
use mathlib.Core.List.{List, [], ◌∷◌}
use Prim.Native.Nat.{ℕ}
use lib.Dec.{eqb}
use lib.ListN.{length}
use Rattle.wire.specs.Checks.{first_of}
use Rattle.wire.specs.Codes.{long_size}
use Rattle.wire.specs.declared.version.Version.{Version}
use Rattle.wire_content.specs.Head.{head_in}
use Rattle.image.specs.Judge.{image_in}
use Rattle.image.specs.Region.{region_bytes}
use Rattle.std.specs.Prelude.{Ok}
use Rattle.device_component.specs.Setup.{SetupVerdict}
use Rattle.device_component.specs.declared.record.Component.{Component}
use Rattle.device_slots.specs.Slots.{slot_of}
use Rattle.device_session.specs.Stage.{at_slot}
use Rattle.device_receiving.specs.Receive.{written}
use Rattle.device_receiving.specs.declared.checks.ContentVerdict.TheVariants.{Take}
use Rattle.device_receiving.proofs.checks.Laws.{ContentSays, content_says}
use Rattle.device.specs.declared.record.Device.{Device}
use Rattle.device.specs.declared.answer.Channel.TheVariants.{Offer, Content}
use Rattle.device.specs.Record.{component}
use Rattle.device.specs.Refusals as refusals
use Rattle.device.specs.Refusals.{served, row_d, Outcome}
use Rattle.device.specs.Content as contents
use Rattle.device.specs.Content.{session_component}
use Rattle.device.specs.Calls.{Call, packet, versions, reset, of_packet}
use Rattle.device_rules.specs.Rules as rules
use Rattle.device_rules.specs.Rules.{VersionRules, Rules}
use Rattle.device_rules.specs.Entries.{breaks_d1_by, refusal_by, answer_by}
use Rattle.device_rules.specs.Promises.{AllStaged, Brings}
use Rattle.device_rules.proofs.Same.{ImageSame, d1_same, offer_same, content_same, staging_same}
use Rattle.device_rules.proofs.InForce.{checks_as}

-- two sets of rules that judge a version of which P holds alike
abbrev pub Agree : (P : Component → Version → Type 0) → VersionRules → VersionRules → Type 0
Agree P a b = (c : Component) (v : Version) → P c v
    → (a.wrong_variant c v ≡ b.wrong_variant c v)
    × (a.too_low c v ≡ b.too_low c v)
    × (a.image_fits c v ≡ b.image_fits c v)
    × (a.staged_fits c v ≡ b.staged_fits c v)

-- a block is taken for the slot of the session
taken_slot : (d : Device) (report : List ℕ) (slot : ℕ) → contents.content_verdict d report ≡ Take slot → slot ≡ at_slot d.session.stage
taken_slot d report slot e =
    sym (ap slot_of (subst (ContentSays (session_component d).fixed.region d.session.stage (head_in report)) e (content_says _ d.session.stage _ (head_in report))).0)

-- a set of rules with which D1 is the entry's
module _ (r : Rules) (d : Device) (own : refusals.breaks_d1 d ≡ breaks_d1_by r d) (staging report : List ℕ)
    (z : refusal_by r long_size d (length staging) (length report) ≡ served) where
  rows_as : refusals.refusal_of long_size d (length staging) (length report) ≡ served
  unfolding refusals.refusal_of
  rows_as = ap (λ (b : Bool). first_of ((b, row_d 1) ∷ (not (eqb (length staging) d.staging_len), row_d 2) ∷ (not (eqb (length report) long_size), row_d 3) ∷ []) served) own ∙ z

  -- a packet that no row refuses is served
  row_as : (contents.content_entry d staging report).row ≡ served
  unfolding contents.content_entry
  row_as = rw rows_as refl

  -- and a block that is taken leaves the buffer that is judged
  after_as : (slot : ℕ) → contents.content_verdict d report ≡ Take slot
      → contents.content_staging d staging report ≡ written (session_component d).fixed.region report staging
  unfolding contents.content_staging
  after_as slot e = rw (rows_as, e) refl

-- with rows of set-up that agree on the record, the answers are alike
module _ (P : Component → Version → Type 0) (a b : VersionRules) (rows rows' : (n count : ℕ) → List Component → SetupVerdict) (agree : Agree P a b) (d : Device) (staging : List ℕ)
    (same : rows d.staging_len d.count d.components ≡ rows' d.staging_len d.count d.components) where
  abbrev one : Rules
  one = record { versions = a; sequences = rules.sequences; setup = rows }

  abbrev other : Rules
  other = record { versions = b; sequences = rules.sequences; setup = rows' }

  pub d1_alike : AllStaged P d → breaks_d1_by one d ≡ breaks_d1_by other d
  d1_alike h = d1_same one other d (λ k v l e. (agree (component d k) v (h k v l e)).3) refl same

  pub alike : (call : Call) → refusals.breaks_d1 d ≡ breaks_d1_by one d → AllStaged P d → Brings P d staging call → answer_by one d staging call ≡ answer_by other d staging call
  alike call own h g = go call g
    where
      go : (call : Call) → Brings P d staging call → answer_by one d staging call ≡ answer_by other d staging call
      go versions g = rw (d1_alike h) refl
      go reset g = rw (d1_alike h) refl
      go (packet Offer report) g =
          ap (λ (x : Outcome). of_packet x staging)
          (offer_same one other d (d1_alike h) staging report
          (λ o e k f. let x = agree (component d k) o.version (g o k e f) in (x.0, x.1)))
      go (packet Content report) g =
          ap₂ of_packet (content_same one other d staging report (d1_alike h) refl images) (staging_same one other d staging report (d1_alike h) refl images)
        where
          images : ImageSame one other d staging report
          images slot z w l v m =
              let e = checks_as d report ∙ w in
              let says = subst
              (λ (k : ℕ). image_in (region_bytes (component d k).fixed.region (contents.content_staging d staging report)) (component d k).fixed.id ≡ Ok v → P (component d k) v)
              (taken_slot d report slot e)
              (g slot v (row_as one d own staging report z) e l) in
              (agree (session_component d) v (says (rw (after_as one d own staging report z slot e) m))).2
