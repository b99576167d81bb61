-- What the writer makes gives the images back, meets demand 3's premise where the region lengths are the images', and there the updater stages each image byte for
-- byte. Assumes nothing.
use mathlib.Core.Path.{◌≡◌, refl, sym, ap, subst, ◌∙◌}
use mathlib.Core.List.{List, [], ◌∷◌, map}
use Prim.Native.Nat.{ℕ, zero, suc, ◌≤◌, ◌<◌}
use native.Mathlib.Nat.{not-suc-le-zero, le_of_suc-le-suc}
use native.Mathlib.Omega.{arith}
use lib.ListN.{length, get_or, get_or-map}
use lib.Seq.{get_or-take}
use Rattle.wire.specs.Codes.{short_size}
use Rattle.wire.specs.Version.{version_at}
use Rattle.wire_offer.specs.Offer.{fields_in}
use Rattle.image.specs.Judge.{is_right, image_id, image_version}
use Rattle.bundle_records.specs.Record.{Block}
use Rattle.bundle_layout.specs.Layout.{entries_in, offer_in, id_in}
use Rattle.bundle.specs.Contents.{blocks_in}
use Rattle.bundle_cut.specs.Cut.{crc_size, image_records}
use Rattle.bundle_given.specs.Given.{count_of, entries_of, image_at}
use Rattle.bundle_writer.specs.Bundle.{made_bundle}
use Rattle.bundle_writer.specs.Promises.{MadeBack}
use Rattle.bundle_cut.proofs.Order.{image_inside}
use Rattle.bundle_writer.proofs.Promises.{made_reads_back}
use Rattle.bundle_writer.proofs.Taken.{length_entries, Listed, rows_say}
use Rattle.std.specs.Prelude.{Some}
use Rattle.device.specs.Record.{find, component}
use Rattle.device.specs.declared.record.Device.{Device}
use Rattle.host.specs.Step.{entry_at, blocks_at}
use Rattle.update.specs.Claim.{offer_at, image_of, Inside, Good}
use Rattle.update.specs.Run.{Schedule, last_of}
use Rattle.update.specs.Demand.{Premise}
use Rattle.update.proofs.Demand.{demand_three}
use Rattle.update_written.proofs.ReadBack.{image_reads_back}
use Rattle.update_written.specs.Stages.{listed, MadeImages, Fitting, MadePremise, Stages, MadeStages}

-- member i of what the members of a list are turned into
map_at : {A B : Type 0} (f : A → B) (l : List A) (i : ℕ) (none : A) (d : B) → i < length l → get_or (map f l) i d ≡ f (get_or l i none)
map_at f [] i none d h = absurd (not-suc-le-zero h)
map_at f (x ∷ l) zero none d h = refl
map_at f (x ∷ l) (suc i) none d h = map_at f l i none d (le_of_suc-le-suc h)

-- the version of an entry stands in its offer
offer_version : (e : List ℕ) → version_at 4 (offer_in e) ≡ version_at 4 e
offer_version e =
    rw (
      get_or-take short_size e 4 0 (omega arith),
      get_or-take short_size e 5 0 (omega arith),
      get_or-take short_size e 6 0 (omega arith),
      get_or-take short_size e 7 0 (omega arith),
    )

-- the entries of what the writer made, as they were given

module _ (list images b : List ℕ) (r : MadeBack list images b) (i : ℕ) where
  offer_back : offer_in (entry_at b i) ≡ offer_in (listed list i)
  offer_back =
      sym (get_or-map offer_in (entries_in b) i []) ∙ ap (λ (l : List (List ℕ)). get_or l i (offer_in [])) r.offers
      ∙ get_or-map offer_in (entries_of list) i []

  id_back : (offer_at b i).id ≡ id_in (listed list i)
  unfolding fields_in
  id_back = ap id_in offer_back ∙ get_or-take short_size (listed list i) 2 0 (omega arith)

  version_back : (offer_at b i).version ≡ version_at 4 (listed list i)
  unfolding fields_in
  version_back = ap (version_at 4) offer_back ∙ offer_version (listed list i)

  records_back : i < count_of list → blocks_at b i ≡ image_records (image_at images (listed list i))
  records_back h =
      sym (get_or-map (blocks_in b) (entries_in b) i []) ∙ ap (λ (l : List (List Block)). get_or l i (blocks_in b [])) r.records
      ∙ map_at (λ e. image_records (image_at images e)) (entries_of list) i [] (blocks_in b []) (omega (arith, length_entries list))

-- each body gives its image
pub made_images : MadeImages
made_images list images room i lb ib h k =
    let e = listed list i in
    let t = (rows_say list images room h).entry i k in
    let r = made_reads_back list images room lb ib h in
    record {
      lent = t.size;
      image = rw (← t.size)
          (ap (image_of (length (image_at images e))) (records_back list images (made_bundle list images) r i k)
          ∙ image_reads_back (image_at images e) (omega (arith, t.size, t.least)));
    }

module _ (list images : List ℕ) (room token : ℕ) (d : Device) (staging : List ℕ) (f : Fitting list images room token d staging) where
  back : MadeBack list images (made_bundle list images)
  back = made_reads_back list images room f.list_bytes f.images_bytes f.made

  said : Listed list images
  said = rows_say list images room f.made

  module _ (i k : ℕ) (h : i < count_of list) (here : find d (id_in (listed list i)) ≡ Some k) where
    -- the region is as long as the image
    region_length : (component d k).fixed.region.len ≡ length (image_at images (listed list i))
    region_length = f.lengths i k h here ∙ sym (said.entry i h).size

    large : crc_size ≤ length (image_at images (listed list i))
    large = omega (arith, (said.entry i h).size, (said.entry i h).least)

    -- the body gives the image
    image_given : image_of (component d k).fixed.region.len (blocks_at (made_bundle list images) i) ≡ image_at images (listed list i)
    image_given =
        ap (image_of (component d k).fixed.region.len) (records_back list images (made_bundle list images) back i h)
        ∙ ap (λ (n : ℕ). image_of n (image_records (image_at images (listed list i)))) region_length ∙ image_reads_back (image_at images (listed list i)) large

    good_body : Good (component d k) (offer_at (made_bundle list images) i) (blocks_at (made_bundle list images) i)
    good_body =
        let b = made_bundle list images in
        let m = image_at images (listed list i) in
        let t = said.entry i h in
        record {
          inside =
              subst (Inside (component d k).fixed.region.len) (sym (records_back list images b back i h))
              (subst (λ (n : ℕ). Inside n (image_records m)) (sym region_length) (image_inside m large));
          crc = ap is_right image_given ∙ t.crc;
          id = ap image_id image_given ∙ t.id ∙ sym (id_back list images b back i);
          version = ap image_version image_given ∙ ap (λ (x : ℕ). record { 0 = x }) t.version ∙ sym (version_back list images b back i);
        }

  premise : Premise (made_bundle list images) token d staging
  premise =
      let b = made_bundle list images in
      record {
        small = f.small;
        fits = f.fits;
        bytes = f.bytes;
        bundle = back.bytes;
        d1 = f.d1;
        d2 = f.d2;
        accepted = back.accepted;
        good = λ i k h here. good_body i k (omega (arith, back.count)) (ap (find d) (sym (id_back list images b back i)) ∙ here);
      }

  stages : (twice : Schedule) (reply : List ℕ) → Stages list images twice token d staging reply (last_of (made_bundle list images) twice token d staging reply)
  stages twice reply =
      let b = made_bundle list images in
      let r = demand_three b twice token d staging reply premise in
      record {
        demand = r;
        regions = λ i k h staged here. r.bytes.images i k (omega (arith, back.count)) staged (ap (find d) (id_back list images b back i) ∙ here)
            ∙ image_given i k h here;
      }

pub made_premise : MadePremise
made_premise list images room token d staging f = premise list images room token d staging f

pub made_stages : MadeStages
made_stages list images twice room token d staging reply f = stages list images room token d staging f twice reply
