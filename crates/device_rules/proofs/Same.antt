-- Two sets of rules that agree on the versions that a call compares, on the sequence that it brings and on the rows of set-up answer it alike. Assumes nothing.
use mathlib.Core.Path.{◌≡◌, refl, sym, ap, ap₂, ◌∙◌}
use mathlib.Core.Bool.{Bool, true, false, not, cond, ◌||◌}
use mathlib.Core.List.{List, [], ◌∷◌}
use Prim.Native.Nat.{ℕ, zero, suc, ◌<◌}
use native.Mathlib.Omega.{arith}
use lib.Dec.{eqb}
use lib.ListN.{length, take}
use Rattle.wire.specs.Checks.{first_of, any}
use Rattle.wire.specs.Codes.{short_size, long_size, success_status, error_version}
use Rattle.wire.specs.declared.version.Version.{Version}
use Rattle.wire_offer.specs.Kind.{Kind, offer, information, extended, kind_in}
use Rattle.wire_offer.specs.declared.offer.OfferFields.{OfferFields}
use Rattle.wire_content.specs.Head.{head_in}
use Rattle.image.specs.Region.{region_bytes}
use Rattle.image.specs.Judge.{Image, image_in}
use Rattle.image.specs.declared.judge.ImageFault.TheVariants.{Damaged, Foreign}
use Rattle.std.specs.Prelude.{Ok, Err}
use Rattle.device_component.specs.Lists.{component_at}
use Rattle.device_component.specs.Record.{with_staged}
use Rattle.device_component.specs.declared.record.Component.{Component}
use Rattle.std.specs.Prelude.{Option, Some, None}
use Rattle.device_offering.specs.Offer as on_offer
use Rattle.device_offering.specs.declared.verdict.OfferVerdict.{OfferVerdict}
use Rattle.device_receiving.specs.Content.{is_last}
use Rattle.device_receiving.specs.Receive.{written, staging_by}
use Rattle.device_receiving.specs.declared.checks.ContentVerdict.{ContentVerdict}
use Rattle.device_receiving.specs.declared.checks.ContentVerdict.TheVariants.{Answer, Take}
use Rattle.device_receiving.specs.declared.finish.Finished.{Finished}
use Rattle.device_receiving.specs.declared.content.Taken.{Taken}
use Rattle.device.specs.declared.record.Device.{Device}
use Rattle.device.specs.declared.answer.Channel.TheVariants.{Offer, Content}
use Rattle.device.specs.Record.{find, component}
use Rattle.device.specs.Refusals.{Row, served, row_d, Outcome, kept_by, unless_refused, served_with}
use Rattle.device.specs.Content.{session_component, received}
use Rattle.device_rules.specs.Rules.{Rules}
use Rattle.device_rules.specs.Entries.{keeps_staged_by, breaks_d1_by, refusal_by, offer_verdict_by, on_kind_by, judge_by, on_content_verdict_by, verdict_on_by, serve_by, serve_staging_by}

-- a test that gives one answer for each of the first n
pub any_same : (p q : Component → Bool) (n : ℕ) (cs : List Component) → ((k : ℕ) → k < n → p (component_at cs k) ≡ q (component_at cs k)) → any p (take n cs) ≡ any q (take n cs)
unfolding any
any_same p q zero cs h = refl
any_same p q (suc n) [] h = refl
any_same p q (suc n) (c ∷ cs) h = ap₂ (λ (a b : Bool). a || b) (h zero (omega arith)) (any_same p q n cs (λ k l. h (suc k) (omega (arith, l))))

module _ (r r' : Rules) (d : Device) where
  -- they agree on what is staged
  abbrev pub StagedSame : Type 0
  StagedSame = (k : ℕ) (v : Version) → k < d.count → (component d k).staged ≡ Some v
      → r.versions.staged_fits (component d k) v ≡ r'.versions.staged_fits (component d k) v

  -- and on the previous packet
  abbrev pub HeldSame : Type 0
  HeldSame = r.sequences.wrong_previous d.session.stage d.session.previous ≡ r'.sequences.wrong_previous d.session.stage d.session.previous

  -- and on the rows of set-up
  abbrev pub SetupSame : Type 0
  SetupSame = r.setup d.staging_len d.count d.components ≡ r'.setup d.staging_len d.count d.components

  -- D1 then has one answer
  pub d1_same : StagedSame → HeldSame → SetupSame → breaks_d1_by r d ≡ breaks_d1_by r' d
  d1_same h p s = rw (s, any_same (λ (c : Component). not (keeps_staged_by r c c.staged)) (λ (c : Component). not (keeps_staged_by r' c c.staged)) d.count d.components (λ k l. each k l (component d k).staged refl), p) refl
    where
      each : (k : ℕ) → k < d.count → (s : Option Version) → (component d k).staged ≡ s
          → not (keeps_staged_by r (component d k) (component d k).staged) ≡ not (keeps_staged_by r' (component d k) (component d k).staged)
      each k l None e = rw e
      each k l (Some v) e = rw e (ap not (h k v l e))

  -- so have D1 to D3
  refusal_same : breaks_d1_by r d ≡ breaks_d1_by r' d → (size n m : ℕ) → refusal_by r size d n m ≡ refusal_by r' size d n m
  refusal_same h size n m = ap (λ (b : Bool). first_of ((b, row_d 1) ∷ (not (eqb n d.staging_len), row_d 2) ∷ (not (eqb m size), row_d 3) ∷ []) served) h

  -- they agree on the version of an offer for a listed component
  abbrev pub OfferedSame : OfferFields → Type 0
  OfferedSame o = (k : ℕ) → find d o.id ≡ Some k
      → (r.versions.wrong_variant (component d k) o.version ≡ r'.versions.wrong_variant (component d k) o.version)
      × (r.versions.too_low (component d k) o.version ≡ r'.versions.too_low (component d k) o.version)

  -- its verdict is then one; an absent component is rejected before its version is looked at
  verdict_same : (o : OfferFields) → OfferedSame o → offer_verdict_by r d o ≡ offer_verdict_by r' d o
  unfolding first_of
  verdict_same o h = go (find d o.id) refl
    where
      go : (f : Option ℕ) → find d o.id ≡ f → offer_verdict_by r d o ≡ offer_verdict_by r' d o
      go None e = rw e refl
      go (Some k) e = rw e (rw ((h k e).0, (h k e).1) refl)

  -- an offer packet is answered alike
  kind_same : (x : Kind) → ((o : OfferFields) → x ≡ offer o → OfferedSame o) → on_kind_by r d x ≡ on_kind_by r' d x
  kind_same (offer o) h = ap (λ (v : OfferVerdict). served_with d d.components (on_offer.on_verdict d.session o.token v)) (verdict_same o (h o refl))
  kind_same (information s) h = refl
  kind_same (extended s) h = refl

  pub offer_same : breaks_d1_by r d ≡ breaks_d1_by r' d → (staging report : List ℕ) → ((o : OfferFields) → kind_in report ≡ offer o → OfferedSame o)
      → serve_by r d Offer staging report ≡ serve_by r' d Offer staging report
  offer_same h staging report g =
      ap₂ (λ (row : Row) (answer : Outcome). unless_refused row d answer) (refusal_same h short_size (length staging) (length report)) (kind_same (kind_in report) g)

  -- they agree on the version of a judged image
  abbrev pub JudgedSame : Component → Image → Type 0
  JudgedSame c m = (v : Version) → m ≡ Ok v → r.versions.image_fits c v ≡ r'.versions.image_fits c v

  judge_same : (c : Component) (m : Image) → JudgedSame c m → judge_by r c m ≡ judge_by r' c m
  judge_same c (Err Damaged) h = refl
  judge_same c (Err Foreign) h = refl
  judge_same c (Ok v) h =
      ap (λ (b : Bool). cond {A = Finished} b (record { status = success_status; component = with_staged c v }) (record { status = error_version; component = c })) (h v refl)

  module _ (staging report : List ℕ) where
    abbrev after : List ℕ
    after = written (session_component d).fixed.region report staging

    abbrev row : Rules → Row
    row x = refusal_by x long_size d (length staging) (length report)

    abbrev taken : Rules → ContentVerdict → Taken
    taken x w = on_content_verdict_by x (session_component d) d.session report staging w

    -- .. which a last block leaves in the region of the session's component, where it is taken
    abbrev pub ImageSame : Type 0
    ImageSame = (slot : ℕ) → row r ≡ served → verdict_on_by r d report ≡ Take slot
        → is_last (head_in report) ≡ true → JudgedSame (session_component d) (image_in (region_bytes (session_component d).fixed.region after) (session_component d).fixed.id)

  -- they agree on D1 and on the verdict of a content packet too
  module _ (staging report : List ℕ) (h : breaks_d1_by r d ≡ breaks_d1_by r' d) (w : verdict_on_by r d report ≡ verdict_on_by r' d report) (g : ImageSame staging report) where
    rows : row staging report r ≡ row staging report r'
    rows = refusal_same h long_size (length staging) (length report)

    -- a taken block, where no row refuses the packet
    block_same : (slot : ℕ) → row staging report r ≡ served → verdict_on_by r d report ≡ Take slot
        → taken staging report r (Take slot) ≡ taken staging report r' (Take slot)
    block_same slot z e = go (is_last (head_in report)) refl
      where
        go : (b : Bool) → is_last (head_in report) ≡ b → taken staging report r (Take slot) ≡ taken staging report r' (Take slot)
        go true l = rw l (rw (judge_same (session_component d) _ (g slot z e l)) refl)
        go false l = rw l refl

    taken_same : row staging report r ≡ served → taken staging report r (verdict_on_by r d report) ≡ taken staging report r' (verdict_on_by r' d report)
    taken_same z = go (verdict_on_by r d report) refl ∙ ap (taken staging report r') w
      where
        go : (v : ContentVerdict) → verdict_on_by r d report ≡ v → taken staging report r v ≡ taken staging report r' v
        go (Answer status) e = refl
        go (Take slot) e = block_same slot z e

    -- a content packet is answered alike, and leaves the same bytes
    pub content_same : serve_by r d Content staging report ≡ serve_by r' d Content staging report
    content_same = go (row staging report r) refl
      where
        go : (x : Row) → row staging report r ≡ x → serve_by r d Content staging report ≡ serve_by r' d Content staging report
        go served z = rw (sym rows, z) (ap (received d) (taken_same z))
        go (row_d j) z = rw (sym rows, z) refl

    pub staging_same : serve_staging_by r d Content staging report ≡ serve_staging_by r' d Content staging report
    staging_same = ap₂ (λ (x : Row) (v : ContentVerdict). kept_by x staging (staging_by (session_component d).fixed.region report staging v)) rows w
