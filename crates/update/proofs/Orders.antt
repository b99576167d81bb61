-- The order of the offers does not matter: a corollary of what a run comes to, with no second look at the run. Assumes nothing.
use Prim.Native.Nat.{ℕ, ◌<◌}
use mathlib.Core.Path.{◌≡◌, sym, ap, subst, ◌∙◌}
use mathlib.Core.Logic.{◌⊎◌, inl, inr}
use mathlib.Core.List.{List}
use lib.Dec.{T}
use lib.Seq.{ext_get_or}
use Rattle.wire_offer.specs.Offer.{fields_in}
use Rattle.wire_offer.specs.declared.offer.OfferFields.{OfferFields}
use Rattle.bundle_records.specs.Parse.{records_of, blocks_of}
use Rattle.device_component.specs.Lists.{component_at}
use Rattle.device_component.specs.Record.{blank_component, with_staged}
use Rattle.std.specs.Prelude.{Some}
use Rattle.update_passes.specs.Sets.{Set}
use Rattle.update_passes.proofs.Tests.{true_ext}
use Rattle.bundle_layout.specs.Layout.{count_in, offer_in, body_in}
use Rattle.bundle.proofs.Accepted.{Accepted}
use Rattle.device.specs.Record.{find, component, to_idle, idle_with}
use Rattle.device.specs.declared.record.Device.{Device}
use Rattle.host.specs.Step.{entry_at, blocks_at}
use Rattle.update.specs.Claim.{offer_at, image_of, is_eligible, is_met, feeds, Fed, Closed, Smallest, NotTargeted, Leaves, Fills}
use Rattle.update.specs.Demand.{Reordered}
use Rattle.update.proofs.Landed.{Source, decide}

-- the other way round
abbrev pub flip : (b b' : List ℕ) → Reordered b b' → Reordered b' b
flip b b' π = record {
  to = π.back;
  back = π.to;
  count = sym π.count;
  to_listed = λ j l. rw π.count (π.back_listed j (rw π.count at l));
  back_listed = λ i l. rw π.count (π.to_listed i (rw π.count at l));
  back_to = λ j l. π.to_back j (rw π.count at l);
  to_back = λ i l. π.back_to i (rw π.count at l);
  offers = λ j l. let m : j < count_in b = rw π.count at l in sym (π.offers (π.back j) (π.back_listed j m)) ∙ ap (λ (k : ℕ). offer_in (entry_at b' k)) (π.to_back j m);
  bodies = λ j l. let m : j < count_in b = rw π.count at l in sym (π.bodies (π.back j) (π.back_listed j m)) ∙ ap (λ (k : ℕ). body_in b' (entry_at b' k)) (π.to_back j m);
}

module _ (b b' : List ℕ) (π : Reordered b b') where
  -- the offer of an entry, and its records
  pub same_offer : (i : ℕ) → i < count_in b → offer_at b' (π.to i) ≡ offer_at b i
  same_offer i l = ap fields_in (π.offers i l)

  -- the records of its body
  pub same_blocks : (i : ℕ) → i < count_in b → blocks_at b' (π.to i) ≡ blocks_at b i
  same_blocks i l = ap (λ (x : List ℕ). blocks_of (records_of x)) (π.bodies i l)

  -- the number of an entry is one of the other bundle
  listed : (i : ℕ) → i < count_in b → π.to i < count_in b'
  listed i l = rw π.count (π.to_listed i l)

  -- a closed set, carried over, is closed
  pub carried : (d : Device) (C : Set) → Closed d b' C → Closed d b (λ k. C (π.to k))
  carried d C closed i l e n =
      closed (π.to i) (listed i l) (subst (λ (o : OfferFields). T (is_eligible (to_idle d) o)) (sym (same_offer i l)) e) (moved n)
    where
      moved : T (is_met (to_idle d) (offer_at b i)) ⊎ Fed b (λ k. C (π.to k)) i → T (is_met (to_idle d) (offer_at b' (π.to i))) ⊎ Fed b' C (π.to i)
      moved (inl m) = inl (subst (λ (o : OfferFields). T (is_met (to_idle d) o)) (sym (same_offer i l)) m)
      moved (inr f) =
          inr (record {
            by = π.to f.by;
            listed = listed f.by f.listed;
            other = λ q. f.other (sym (π.back_to f.by f.listed) ∙ ap π.back q ∙ π.back_to i l);
            member = f.member;
            meets = subst (λ (o : OfferFields). T (feeds (offer_at b' (π.to f.by)) o)) (sym (same_offer i l)) (subst (λ (o : OfferFields). T (feeds o (offer_at b i))) (sym (same_offer f.by f.listed)) f.meets);
          })

-- the set of the one order is that of the other
pub same_set : (b b' : List ℕ) (π : Reordered b b') (d : Device) (X X' : Set) → Smallest d b X → Smallest d b' X' → (i : ℕ) → i < count_in b → X' (π.to i) ≡ X i
same_set b b' π d X X' s s' i l =
    true_ext (X' (π.to i)) (X i)
    (λ t. subst (λ (k : ℕ). T (X k)) (π.back_to i l)
    (s'.least (λ k. X (π.back k)) (carried b' b (flip b b' π) d X s.closed) (π.to i) (rw π.count (π.to_listed i l)) t))
    (s.least (λ k. X' (π.to k)) (carried b b' π d X' s'.closed) i l)

module _ (b b' : List ℕ) (π : Reordered b b') (d : Device) (X X' : Set) (same : (i : ℕ) → i < count_in b → X' (π.to i) ≡ X i) where
  -- a member of the one is a member of the other
  there : (i : ℕ) → i < count_in b → T (X i) → T (X' (π.to i))
  there i l t = subst T (sym (same i l)) t

  -- and the other way round
  here : (j : ℕ) → j < count_in b → T (X' j) → T (X (π.back j))
  here j l t = subst T (same (π.back j) (π.back_listed j l)) (subst (λ (k : ℕ). T (X' k)) (sym (π.to_back j l)) t)

  -- its component is found in the same slot
  finds : (i k : ℕ) → i < count_in b → find d (offer_at b i).id ≡ Some k → find d (offer_at b' (π.to i)).id ≡ Some k
  finds i k l f = ap (λ (o : OfferFields). find d o.id) (same_offer b b' π i l) ∙ f

  -- and the other way round
  finds_back : (j k : ℕ) → j < count_in b → find d (offer_at b' j).id ≡ Some k → find d (offer_at b (π.back j)).id ≡ Some k
  finds_back j k l f =
      ap (λ (o : OfferFields). find d o.id) (sym (same_offer b b' π (π.back j) (π.back_listed j l))) ∙ ap (λ (i : ℕ). find d (offer_at b' i).id) (π.to_back j l) ∙ f

  -- what the one set leaves, the other does
  pub same_leaves : (d' : Device) → Leaves d b' X' d' → Leaves d b X d'
  same_leaves d' h =
      record {
        same = h.same;
        slots = h.slots;
        members = λ i k l t f.
            h.members (π.to i) k (rw π.count (π.to_listed i l)) (there i l t) (finds i k l f)
            ∙ ap (λ (o : OfferFields). with_staged (component d k) o.version) (same_offer b b' π i l);
        others = λ k s. h.others k (λ j l t f. let m : j < count_in b = rw π.count at l in s (π.back j) (π.back_listed j m) (here j m t) (finds_back j k m f));
      }

  -- so it is for the staging buffer
  pub same_fills : (s r : List ℕ) → Fills d b' X' s r → Fills d b X s r
  same_fills s r h =
      record {
        long = h.long;
        images = λ i k l t f.
            h.images (π.to i) k (rw π.count (π.to_listed i l)) (there i l t) (finds i k l f)
            ∙ ap (image_of (component d k).fixed.region.len) (same_blocks b b' π i l);
        rest = λ j u. h.rest j (λ i k l t f. let m : i < count_in b = rw π.count at l in u (π.back i) k (π.back_listed i m) (here i m t) (finds_back i k m f));
      }

-- the set decides the device
pub leaves_same : (b : List ℕ) → Accepted b → (d : Device) (X : Set) (d' d'' : Device) → Leaves d b X d' → Leaves d b X d'' → d' ≡ d''
leaves_same b α d X d' d'' h h' =
    h.same ∙ ap (idle_with d) (ext_get_or blank_component d'.components d''.components (h.slots ∙ sym h'.slots) (λ k l. at k (decide b α d X k))) ∙ sym h'.same
  where
    at : (k : ℕ) → Source b α d X k ⊎ NotTargeted d b X k → component_at d'.components k ≡ component_at d''.components k
    at k (inl x) = h.members x.j k x.listed x.member x.here ∙ sym (h'.members x.j k x.listed x.member x.here)
    at k (inr s) = h.others k s ∙ sym (h'.others k s)
