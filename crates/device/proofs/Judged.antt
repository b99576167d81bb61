-- What is below a floor: an offer is rejected with 0, an image is answered with 0x07, and a record is refused by D1. Assumes nothing.
use mathlib.Core.Path.{◌≡◌, refl, sym, ap, ◌∙◌}
use mathlib.Core.Bool.{Bool, true, false, not, ◌||◌, ◌&&◌, true≢false}
use mathlib.Core.List.{List, ◌∷◌, map}
use mathlib.Core.Logic.{◌⊎◌, inl, inr}
use Prim.Native.Nat.{ℕ}
use borrow.Author.Tests.{eq-eqb, eqb-true, not-false}
use lib.Dec.{leb}
use lib.ListN.{length, take}
use Rattle.wire.specs.Checks.{first_of}
use Rattle.wire.specs.Codes.{short_size, error_version}
use Rattle.wire.specs.Version.{variant_of, release_of}
use Rattle.wire.specs.declared.version.Version.{Version}
use Rattle.wire.proofs.Tests.{both}
use Rattle.wire_offer.specs.Kind.{offer, kind_in}
use Rattle.wire_offer.specs.declared.offer.OfferFields.{OfferFields}
use Rattle.wire_content.specs.Head.{head_in}
use Rattle.wire_content.specs.Reply as content_reply
use Rattle.image.specs.Region.{region_bytes}
use Rattle.image.specs.Judge.{image_in}
use Rattle.std.specs.Prelude.{Ok}
use Rattle.device_component.specs.Record.{listed}
use Rattle.device_component.specs.Lists.{component_at}
use Rattle.device_component.specs.Setup as setup
use Rattle.device_component.specs.Setup.{staging_too_long, bad_count, bad_ids, bad_regions, bad_floor, bad_floors, setup_verdict}
use Rattle.device_component.specs.Versions.{wrong_variant, is_old, below_floor, too_low, image_version_fits, staged_version_fits, keeps_staged}
use Rattle.device_component.specs.declared.record.Component.{Component}
use Rattle.device_component.specs.declared.record.Listed.{Listed}
use Rattle.std.specs.Prelude.{Some}
use Rattle.device_component.proofs.setup.Laws.{fine_floors}
use Rattle.device_session.specs.Stage.{at_slot}
use Rattle.device_session.proofs.sound.Laws.{passes, setup_fine}
use Rattle.device_offering.specs.Offer.{offer_verdict, on_offer}
use Rattle.device_receiving.specs.Content.{is_last, is_copy}
use Rattle.device_receiving.specs.Finish.{finish}
use Rattle.device_receiving.specs.Receive.{on_block, written}
use Rattle.device_receiving.specs.declared.checks.ContentVerdict.TheVariants.{Take}
use Rattle.device_receiving.proofs.checks.Laws.{ContentSays, content_says}
use Rattle.device_receiving.proofs.content.Laws.{kept}
use Rattle.device.specs.declared.record.Device.{Device}
use Rattle.device.specs.declared.answer.Channel.{Channel}
use Rattle.device.specs.declared.answer.Channel.TheVariants.{Offer, Content}
use Rattle.device.specs.Record.{component, to_idle, blank_device}
use Rattle.device.specs.Refusals.{served, row_d, breaks_d1, refusal_of, refused_by, ready_sent}
use Rattle.device.specs.Offer.{on_kind, offer_entry}
use Rattle.device.specs.Content.{session_component, content_verdict, content_entry, content_staging}
use Rattle.device.specs.Entries.{set_up_of, version_entry, reset_entry, serve_entry}
use Rattle.device.specs.Floors.{only_rejects, ComesToSeven, HasVariant, FloorBroken, FloorJudged}
use Rattle.device.proofs.Answers.{served_row, content_served}
use Rattle.device.proofs.Lists.{none_below}

or_true : (a : Bool) → (a || true) ≡ true
or_true true = refl
or_true false = refl

and_false : (a : Bool) → (a && false) ≡ false
and_false true = refl
and_false false = refl

-- the running variant and no lower release
abbrev follows : Component → Version → Bool
follows c v = not (wrong_variant c v) && leb (release_of c.running) (release_of v)

-- an offer
offers : (d : Device) (n : ℕ) (report : List ℕ) (o : OfferFields) (k : ℕ) → (offer_entry d n report).row ≡ served → kind_in report ≡ offer o
    → ComesToSeven d o k → below_floor (component d k) o.version ≡ true → offer_entry d n report ≡ only_rejects d o.token
unfolding offer_entry on_offer offer_verdict first_of
offers d n report o k e x p b =
    let r : refusal_of short_size d n (length report) ≡ served = served_row (refusal_of short_size d n (length report)) d (on_kind d (kind_in report)) e in
    let low : too_low (component d k) o.version ≡ true = rw b (or_true (is_old (component d k) o.version)) in
    rw (r, x, p.closed, eq-eqb _ _ p.protocol, p.listed, eq-eqb _ _ p.here, eq-eqb _ _ p.segment, p.free, p.variant, low)

-- an image
images : (d : Device) (staging report : List ℕ) (k : ℕ) (v : Version) → (content_entry d staging report).row ≡ served → content_verdict d report ≡ Take k
    → is_last (head_in report) ≡ true → image_in (region_bytes (component d k).fixed.region (content_staging d staging report)) (component d k).fixed.id ≡ Ok v
    → below_floor (component d k) v ≡ true
    → ((content_entry d staging report).sent ≡ content_reply.reply_bytes (record { sequence = (head_in report).sequence; status = error_version }) ∷ ready_sent d.session.owed)
    × ((content_entry d staging report).device ≡ to_idle d)
unfolding content_entry content_staging on_block finish
images d staging report k v e t l m b =
    let r = content_served d staging report e in
    let says : ContentSays (session_component d).fixed.region d.session.stage (head_in report) (Take k)
    = rw t at (content_says (session_component d).fixed.region d.session.stage (is_copy d.session.previous report) (head_in report)) in
    let at : at_slot d.session.stage ≡ k = rw says.0 in
    let unfit : image_version_fits (component d k) v ≡ false = rw b (and_false (follows (component d k) v)) in
    let image : image_in (region_bytes (component d k).fixed.region (written (component d k).fixed.region report staging)) (component d k).fixed.id ≡ Ok v
    = rw (r, t, at) at m in
    (rw (r, t, l, at, image, unfit), rw (r, t, l, at, image, unfit, kept d.components k))

-- a floor that is not bad has variant 0
plain : (floor : Version) → bad_floor floor ≡ false → variant_of floor ≡ 0
plain floor e = eqb-true (variant_of floor) 0 (not-false _ e)

-- set-up
set_up_lem : (platform : ℕ) (list : List Listed) (count n : ℕ) → staging_too_long n ≡ false → bad_count count ≡ false → bad_ids (take count (map listed list)) ≡ false
    → bad_regions n (take count (map listed list)) ≡ false → HasVariant count (map listed list)
    → set_up_of platform list count n ≡ record { row = setup.row_s 5; device = blank_device }
unfolding set_up_of setup_verdict first_of
set_up_lem platform list count n one two three four f = go (bad_floors (take count (map listed list))) refl
  where
    go : (b : Bool) → bad_floors (take count (map listed list)) ≡ b → set_up_of platform list count n ≡ record { row = setup.row_s 5; device = blank_device }
    go true e = rw (one, two, three, four, e)
    go false e =
        absurd (f.variant (plain (component_at (map listed list) f.slot).fixed.floor
        (none_below (λ c. bad_floor c.fixed.floor) count (map listed list) f.slot refl f.listed e)))

-- D1 leaves no floor broken
module _ (d : Device) (f : FloorBroken d) where
  module _ (e : breaks_d1 d ≡ false) where
    floors : variant_of (component d f.slot).fixed.floor ≡ 0
    floors =
        plain (component d f.slot).fixed.floor
        (none_below (λ c. bad_floor c.fixed.floor) d.count d.components f.slot refl f.listed
        (fine_floors d.staging_len d.count d.components (setup_fine (passes e))))

    fits : not (keeps_staged (component d f.slot) (component d f.slot).staged) ≡ false
    fits = none_below (λ c. not (keeps_staged c c.staged)) d.count d.components f.slot refl f.listed (passes e).staged

    whole : (variant_of (component d f.slot).fixed.floor ≡ 0 → ⊥)
        ⊎ ((v : Version) × ((component d f.slot).staged ≡ Some v) × (below_floor (component d f.slot) v ≡ true)) → ⊥
    whole (inl b) = b floors
    whole (inr s) =
        let w : staged_version_fits (component d f.slot) s.0 ≡ true = not-false _ (rw s.1 at fits) in
        let x : not (below_floor (component d f.slot) s.0) ≡ true = (both (follows (component d f.slot) s.0) (not (below_floor (component d f.slot) s.0)) w).1 in
        true≢false (sym x ∙ ap not s.2)

  breaks : breaks_d1 d ≡ true
  breaks = go (breaks_d1 d) refl
    where
      go : (b : Bool) → breaks_d1 d ≡ b → breaks_d1 d ≡ true
      go true e = e
      go false e = absurd (whole e f.broken)

pub floor_judged : FloorJudged
unfolding serve_entry offer_entry content_entry version_entry reset_entry refusal_of first_of
floor_judged = record { set_up = set_up_lem; offers = offers; images = images; packets = packets; versions = λ d f. rw (breaks d f); reset = λ d f. rw (breaks d f) }
  where
    packets : (d : Device) (channel : Channel) (staging report : List ℕ) → FloorBroken d → serve_entry d channel staging report ≡ refused_by (row_d 1) d
    packets d Offer staging report f = rw (breaks d f)
    packets d Content staging report f = rw (breaks d f)
