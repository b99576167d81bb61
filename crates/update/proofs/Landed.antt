-- The components after a set of offers has landed: which slots have changed, one landing more, and what the checks of an offer then say. Assumes nothing.
use Prim.Native.Nat.{ℕ, ◌<◌, ◌≤◌}
use mathlib.Core.Path.{◌≡◌, refl, sym, ap, subst, ◌∙◌}
use mathlib.Core.Logic.{◌⊎◌, inl, inr}
use mathlib.Core.Bool.{Bool, true, false, not, ◌&&◌, ◌||◌, true≢false}
use mathlib.Core.List.{List, map}
use native.Mathlib.Decide.{ℕ_discrete}
use native.Mathlib.Omega.{arith}
use borrow.Author.Tests.{eq-eqb}
use lib.Dec.{T, T_not, not_T, ltb, eqb, eqb_refl, eqb→eq, leb→le, le→leb, nltb→le, ltb→lt}
use lib.ListN.{length, set, length-set}
use lib.Seq.{get_or-set_same, get_or-set_other, map-set_same}
use Rattle.wire.specs.Checks.{any}
use Rattle.wire.specs.Version.{release_of}
use Rattle.wire_offer.specs.declared.offer.OfferFields.{OfferFields}
use Rattle.device_component.specs.Lists.{component_at}
use Rattle.device_component.specs.Record.{is_pending, with_staged, blank_component}
use Rattle.device_component.specs.Versions.{image_version_fits}
use Rattle.device_component.specs.declared.record.Component.{Component}
use Rattle.std.specs.Prelude.{Option, Some, None}
use Rattle.device_component.proofs.list.Laws.{find_at, find_same}
use Rattle.device_component.proofs.rule.Laws.{offer_release}
use Rattle.update_passes.specs.Sets.{Set, In, ins, none, from}
use Rattle.update_passes.specs.Passes.{Offers, need_met}
use Rattle.update_passes.proofs.Tests.{bool_cases, or_inl, or_inr, or_cases, both, and_l, and_r, is_true, holds, fails, true_ext, and_false}
use Rattle.update_passes.proofs.Sets.{ins_old, ins_new, in_from, from_in, some_out, some_in}
use Rattle.bundle_layout.specs.Layout.{count_in}
use Rattle.bundle.proofs.Accepted.{Accepted}
use Rattle.device_slots.specs.Slots.{slot_of, is_absent}
use Rattle.device_offering.specs.Offer as offering
use Rattle.device_offering.specs.Offer.{below}
use Rattle.device.specs.Record.{find, component, to_idle, idle_with}
use Rattle.device.specs.Refusals.{breaks_d1}
use Rattle.device.specs.declared.record.Device.{Device}
use Rattle.device.proofs.Opened.{staged_passes}
use Rattle.host.specs.Step.{blocks_at}
use Rattle.update.specs.Claim.{offer_at, is_eligible, is_met, feeds, NotTargeted}
use Rattle.update.proofs.Eligible.{ids_apart, rejected, rejected_is, no_slot, absent_rejected, pending_rejected, Fresher, eligible_says}

-- a slot was found there
abbrev is_slot : Option ℕ → ℕ → Bool
is_slot None k = false
is_slot (Some l) k = eqb l k

-- the slot that the test names
slot_is : (f : Option ℕ) (k : ℕ) → T (is_slot f k) → f ≡ Some k
slot_is None k t = absurd t
slot_is (Some l) k t = ap Some (eqb→eq l k t)

-- the test of a slot that was found
is_slot_lem : (f : Option ℕ) (k : ℕ) → f ≡ Some k → T (is_slot f k)
is_slot_lem f k e = rw e (eqb_refl k)

-- a number that is not below
at_least : (x l : ℕ) → l ≤ x → T (not (ltb x l))
at_least x l h = not_T (ltb x l) (λ v. omega (arith, ltb→lt x l v))

-- two equal slots
pub same_slot : (f : Option ℕ) (k l : ℕ) → f ≡ Some k → f ≡ Some l → k ≡ l
same_slot f k l e e' = cc

-- an offer of a bundle is one of its numbers
pub numbered : (b : List ℕ) (i : ℕ) → i < count_in b → In i (from 0 (count_in b))
numbered b i l = from_in (count_in b) 0 i (omega arith) (omega arith)

-- and the other way round
pub below_count : (b : List ℕ) (i : ℕ) → In i (from 0 (count_in b)) → i < count_in b
below_count b i m = omega (arith, in_from (count_in b) 0 i m)

module _ (b : List ℕ) (α : Accepted b) (d : Device) where
  -- the offers, as the passes see them
  abbrev pub offers : Offers
  offers = record {
    eligible = λ i. is_eligible (to_idle d) (offer_at b i);
    met = need_met (λ i. is_met (to_idle d) (offer_at b i)) (λ j i. feeds (offer_at b j) (offer_at b i)) (from 0 (count_in b));
    records = λ i. length (blocks_at b i);
  }

  -- a member of the set for the component in slot k
  pub record Source (S : Set) (k : ℕ) : Type 0 where
    pub j : ℕ
    pub listed : j < count_in b
    pub member : T (S j)
    pub here : find d (offer_at b j).id ≡ Some k

  -- there is one, or none
  pub decide : (S : Set) (k : ℕ) → Source S k ⊎ NotTargeted d b S k
  decide S k =
      bool_cases (any for (from 0 (count_in b)))
      (λ t. let x = some_out (from 0 (count_in b)) for t in
      inl (record {
        j = x.j;
        listed = below_count b x.j x.listed;
        member = and_l (S x.j) _ x.has;
        here = slot_is (find d (offer_at b x.j).id) k (and_r (S x.j) _ x.has);
      }))
      (λ t. inr (λ i l m e. T_not (any for (from 0 (count_in b))) t
      (some_in (from 0 (count_in b)) for i (numbered b i l) (both (S i) (is_slot (find d (offer_at b i).id) k) m (is_slot_lem (find d (offer_at b i).id) k e)))))
    where
      for : ℕ → Bool
      for j = S j && is_slot (find d (offer_at b j).id) k

  -- what is found of an offer's component
  pub at_slot : (i k : ℕ) → find d (offer_at b i).id ≡ Some k → (k < d.count) × (k < length d.components) × ((component d k).fixed.id ≡ (offer_at b i).id)
  at_slot i k e = find_at (offer_at b i).id d.count d.components k e

  -- two offers for one slot are one
  pub one_offer : (i j k : ℕ) → i < count_in b → j < count_in b → find d (offer_at b i).id ≡ Some k → find d (offer_at b j).id ≡ Some k → i ≡ j
  one_offer i j k l m e e' = ids_apart b α i j l m (sym (at_slot i k e).2 ∙ (at_slot j k e').2)

  -- the components of a device on which a set has landed
  pub record Holding (S : Set) (ps : List Component) : Type 0 where
    pub slots : length ps ≡ length d.components
    pub ids : map (λ c. c.fixed.id) ps ≡ map (λ c. c.fixed.id) d.components
    pub members : (i k : ℕ) → i < count_in b → T (S i) → find d (offer_at b i).id ≡ Some k → component_at ps k ≡ with_staged (component d k) (offer_at b i).version
    pub others : (k : ℕ) → NotTargeted d b S k → component_at ps k ≡ component d k
    pub d1 : breaks_d1 (idle_with d ps) ≡ false

  -- at the start
  pub holding_none : breaks_d1 (to_idle d) ≡ false → Holding none d.components
  holding_none h = record { slots = refl; ids = refl; members = λ i k l m. absurd m; others = λ k s. refl; d1 = h }

  module _ (S : Set) (ps : List Component) (h : Holding S ps) where
    -- ids have not changed
    pub same_find : (id : ℕ) → find (idle_with d ps) id ≡ find d id
    same_find id = find_same id d.count ps d.components h.ids

    module _ (e : ℕ) (l : e < count_in b) where
      -- the slot of an offer that has not landed is spared
      pub spared : (k : ℕ) → S e ≡ false → find d (offer_at b e).id ≡ Some k → NotTargeted d b S k
      spared k out f i m t g = true≢false (sym (is_true (S i) t) ∙ ap S (one_offer i e k m l g f) ∙ out)

      -- one landing more
      pub holding_more : (k : ℕ) → S e ≡ false → find d (offer_at b e).id ≡ Some k
          → image_version_fits (component d k) (offer_at b e).version ≡ true
          → Holding (ins S e) (set ps k (with_staged (component_at ps k) (offer_at b e).version))
      holding_more k out f new =
          record {
            slots = length-set ps k _ ∙ h.slots;
            ids = map-set_same (λ (c : Component). c.fixed.id) ps k _ blank_component refl ∙ h.ids;
            members = λ i j m t g. by i j m t g (ℕ_discrete i e);
            others = λ j s. get_or-set_other ps k j _ blank_component (λ z. s e l (ins_new S e) (f ∙ ap Some (sym z))) ∙ h.others j (λ i m t. s i m (ins_old S e i t));
            d1 = staged_passes d ps k (at_slot e k f).0 h.d1 (offer_at b e).version (rw was new);
          }
        where
          was : component_at ps k ≡ component d k
          was = h.others k (spared k out f)

          by : (i j : ℕ) → i < count_in b → T (ins S e i) → find d (offer_at b i).id ≡ Some j → Dec (i ≡ e)
              → component_at (set ps k (with_staged (component_at ps k) (offer_at b e).version)) j ≡ with_staged (component d j) (offer_at b i).version
          by i j m t g (yes q) =
              let z : j ≡ k = same_slot (find d (offer_at b e).id) j k (subst (λ (n : ℕ). find d (offer_at b n).id ≡ Some j) q g) f in
              rw (q, z) (get_or-set_same ps k _ blank_component (omega (arith, (at_slot e k f).1, h.slots)) ∙ ap (λ (c : Component). with_staged c (offer_at b e).version) was)
          by i j m t g (no q) =
              get_or-set_other ps k j _ blank_component (λ z. q (one_offer i e k m l (g ∙ ap Some z) f))
              ∙ h.members i j m (or_cases (eqb i e) (S i) (λ z. absurd (q (eqb→eq i e z))) (λ z. z) t) g

      -- an offer is eligible where it was at the start and has not landed
      pub eligible_now : is_eligible (idle_with d ps) (offer_at b e) ≡ (not (S e) && is_eligible (to_idle d) (offer_at b e))
      eligible_now =
          rejected_is d ps o ∙ ap (λ (f : Option ℕ). not (rejected d.platform o f (component_at ps (slot_of f)))) (same_find o.id)
          ∙ go (find d o.id) refl (S e) refl
          ∙ ap (λ (x : Bool). not (S e) && x) (sym (rejected_is d d.components o))
        where
          -- the offer
          o : OfferFields
          o = offer_at b e

          go : (f : Option ℕ) → find d o.id ≡ f → (x : Bool) → S e ≡ x
              → not (rejected d.platform o f (component_at ps (slot_of f))) ≡ (not (S e) && not (rejected d.platform o f (component d (slot_of f))))
          go None f x z = rw (absent_rejected d.platform o (component_at ps 0), absent_rejected d.platform o (component d 0)) (sym (and_false (not (S e))))
          go (Some k) f true z =
              rw (pending_rejected d.platform o k (component_at ps k) (ap (λ (c : Component). is_pending c.staged) (h.members e k l (holds (S e) z) f)), z)
          go (Some k) f false z = rw (h.others k (spared k z f), z)

      -- a member that meets the need
      record Feeding (j : ℕ) : Type 0 where
        member : T (S j)
        for : (offer_at b j).id ≡ (offer_at b e).need
        enough : (offer_at b e).least ≤ release_of (offer_at b j).version

      -- the test of a member
      abbrev fed : ℕ → Bool
      fed j = S j && (not (eqb j e) && feeds (offer_at b j) (offer_at b e))

      -- what that test says
      feeding : (j : ℕ) → T (fed j) → Feeding j
      feeding j t =
          let u = and_r (not (eqb j e)) (feeds (offer_at b j) (offer_at b e)) (and_r (S j) _ t) in
          let w = and_r (not (eqb (offer_at b e).need 0)) _ u in
          record {
            member = and_l (S j) _ t;
            for = eqb→eq (offer_at b j).id (offer_at b e).need (and_l (eqb (offer_at b j).id (offer_at b e).need) _ w);
            enough = leb→le (offer_at b e).least (release_of (offer_at b j).version) (and_r (eqb (offer_at b j).id (offer_at b e).need) _ w);
          }

      module _ (fair : (j : ℕ) → j < count_in b → T (S j) → T (is_eligible (to_idle d) (offer_at b j))) (out : S e ≡ false) where
        -- the offer
        abbrev o : OfferFields
        o = offer_at b e

        -- the numbers of the offers
        abbrev os : List ℕ
        os = from 0 (count_in b)

        -- the slot of a member that feeds
        fed_slot : (j : ℕ) → j < count_in b → Feeding j → Fresher d (offer_at b j)
        fed_slot j m y = eligible_says d (offer_at b j) (fair j m y.member)

        -- where there is a need, the two ways to meet it agree
        meets_slot : (f : Option ℕ) → find d o.need ≡ f → eqb o.need 0 ≡ false
            → not (is_absent f || below (component_at ps (slot_of f)) o.least) ≡ (not (is_absent f || below (component d (slot_of f)) o.least) || any fed os)
        meets_slot None g z =
            sym (fails (any fed os)
            (λ t. let x = some_out os fed t in let y = feeding x.j x.has in let w = fed_slot x.j (below_count b x.j x.listed) y in
            no_slot w.slot (sym g ∙ ap (find d) (sym y.for) ∙ w.here)))
        meets_slot (Some k) g z = go (decide S k)
          where
            was : Bool
            was = not (below (component d k) o.least)

            its_id : (component d k).fixed.id ≡ o.need
            its_id = (find_at o.need d.count d.components k g).2

            -- a member that feeds is for slot k
            fed_here : (j : ℕ) → j < count_in b → (y : Feeding j) → find d (offer_at b j).id ≡ Some k
            fed_here j m y = ap (find d) y.for ∙ g

            go : Source S k ⊎ NotTargeted d b S k → not (below (component_at ps k) o.least) ≡ (not (below (component d k) o.least) || any fed os)
            go (inr s) =
                rw (h.others k s)
                (true_ext was (was || any fed os) (or_inl was (any fed os))
                (or_cases was (any fed os) (λ t. t)
                (λ t. let x = some_out os fed t in let m = below_count b x.j x.listed in let y = feeding x.j x.has in
                absurd (s x.j m y.member (fed_here x.j m y)))))
            go (inl x) =
                rw (h.members x.j k x.listed x.member x.here)
                (true_ext (not (ltb (release_of (offer_at b x.j).version) o.least)) (was || any fed os)
                (λ t. or_inr was (any fed os) (some_in os fed x.j (numbered b x.j x.listed) (there (nltb→le _ _ t))))
                (or_cases was (any fed os) stays
                (λ t. let y = some_out os fed t in let m = below_count b y.j y.listed in let u = feeding y.j y.has in
                let q : y.j ≡ x.j = one_offer y.j x.j k m x.listed (fed_here y.j m u) x.here in
                at_least (release_of (offer_at b x.j).version) o.least (subst (λ (n : ℕ). (offer_at b e).least ≤ release_of (offer_at b n).version) q u.enough))))
              where
                w : Fresher d (offer_at b x.j)
                w = eligible_says d (offer_at b x.j) (fair x.j x.listed x.member)

                here : w.slot ≡ k
                here = same_slot (find d (offer_at b x.j).id) w.slot k w.here x.here

                free : (component d k).staged ≡ None
                free = subst (λ (n : ℕ). (component d n).staged ≡ None) here w.free

                older : release_of (component d k).running < release_of (offer_at b x.j).version
                older = subst (λ (n : ℕ). release_of (component d n).running < release_of (offer_at b x.j).version) here (offer_release (component d w.slot) (offer_at b x.j).version w.newer)

                other : eqb x.j e ≡ false
                other = fails (eqb x.j e) (λ t. true≢false (sym (is_true (S x.j) x.member) ∙ ap S (eqb→eq x.j e t) ∙ out))

                there : o.least ≤ release_of (offer_at b x.j).version → T (fed x.j)
                there c =
                    rw (other, z)
                    (both (S x.j) _ x.member
                    (both (eqb (offer_at b x.j).id o.need) _
                    (holds _ (eq-eqb (offer_at b x.j).id o.need (sym (at_slot x.j k x.here).2 ∙ its_id)))
                    (le→leb o.least (release_of (offer_at b x.j).version) c)))

                stays : T (not (below (component d k) o.least)) → T (not (ltb (release_of (offer_at b x.j).version) o.least))
                stays t =
                    let a : o.least ≤ release_of (component d k).running = nltb→le (release_of (component d k).running) o.least (rw free at t) in
                    at_least (release_of (offer_at b x.j).version) o.least (omega (arith, older))

        -- the need, as the device judges it
        pub meets_now : is_met (idle_with d ps) (offer_at b e) ≡ offers.met S e
        unfolding offering.need_unmet
        meets_now = go (eqb o.need 0) refl
          where
            go : (x : Bool) → eqb o.need 0 ≡ x
                → not (not (eqb o.need 0) && (is_absent (find (idle_with d ps) o.need) || below (component_at ps (slot_of (find (idle_with d ps) o.need))) o.least))
                ≡ (not (not (eqb o.need 0) && (is_absent (find d o.need) || below (component d (slot_of (find d o.need))) o.least)) || any fed os)
            go true z = rw z
            go false z =
                ap (λ (x : Bool). not (not x && (is_absent (find (idle_with d ps) o.need) || below (component_at ps (slot_of (find (idle_with d ps) o.need))) o.least))) z
                ∙ ap (λ (f : Option ℕ). not (is_absent f || below (component_at ps (slot_of f)) o.least)) (same_find o.need)
                ∙ meets_slot (find d o.need) refl z
                ∙ ap (λ (x : Bool). not (not x && (is_absent (find d o.need) || below (component d (slot_of (find d o.need))) o.least)) || any fed os) (sym z)
