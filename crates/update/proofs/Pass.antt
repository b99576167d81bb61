-- A pass: the run goes through the offers as the pass over their numbers does. Assumes nothing.
use Prim.Native.Nat.{ℕ, zero, suc, ◌+◌, ◌^◌, ◌<◌}
use mathlib.Core.Path.{◌≡◌, refl, sym, ap, subst, ◌∙◌}
use mathlib.Core.Bool.{Bool, true, false, not, ◌&&◌, ◌||◌, true≢false}
use mathlib.Core.List.{List, [], ◌∷◌, ◌++◌}
use native.Mathlib.Omega.{arith}
use lib.Dec.{T, eqb, eqb→eq}
use lib.ListN.{length, set, length-append}
use Rattle.wire.specs.Checks.{applies}
use Rattle.wire.specs.Codes.{component_limit, offer_skip, offer_accept, offer_reject}
use Rattle.image.specs.Region.{within}
use Rattle.device_component.specs.Lists.{component_at}
use Rattle.device_component.specs.Record.{is_pending, with_staged}
use Rattle.device_component.specs.Setup.{setup_verdict}
use Rattle.device_component.specs.Versions.{offer_version_fits}
use Rattle.device_component.specs.declared.record.Component.{Component}
use Rattle.std.specs.Prelude.{Some, Ok}
use Rattle.device_component.proofs.rule.Laws.{offer_image_lem}
use Rattle.update_passes.specs.Sets.{Set, ins, from}
use Rattle.update_passes.specs.Passes.{Pass, answered, pass_over}
use Rattle.update_passes.proofs.Tests.{or_cases, holds}
use Rattle.update_passes.proofs.Pass.{answer_cases}
use Rattle.bundle_layout.specs.Layout.{count_in}
use Rattle.bundle.proofs.Accepted.{Accepted}
use Rattle.device.specs.Offer.{rejections, need_unmet}
use Rattle.device.specs.Record.{find, component, to_idle, idle_with}
use Rattle.device.specs.Refusals.{breaks_d1}
use Rattle.device_offering.specs.declared.verdict.OfferVerdict.{OfferVerdict}
use Rattle.device_offering.specs.declared.verdict.OfferVerdict.TheVariants.{Busy, Reject, Skip, Accept}
use Rattle.device.specs.declared.record.Device.{Device}
use Rattle.device.proofs.Calls.{Sound}
use Rattle.device_offering.proofs.checks.Laws.{Ruling, rules}
use Rattle.device.proofs.Offering.{offer_verdict}
use Rattle.device.proofs.Blocks.{Precedes}
use Rattle.device.proofs.Opened.{open_passes}
use Rattle.host_record.specs.Record.{has_bit, with_bit}
use Rattle.host.specs.Step.{blocks_at}
use Rattle.update.specs.Trace.{Exchange}
use Rattle.update.specs.Run.{System, Schedule}
use Rattle.update.specs.Claim.{offer_at, image_of, Good, is_eligible, Fills}
use Rattle.update.proofs.Leads.{said, more_length, Leads, leads_none, leads_step, leads_then}
use Rattle.update.proofs.Mask.{with_bit_lem}
use Rattle.update.proofs.Packets.{offer_packet}
use Rattle.update.proofs.Sent.{with_token, block_sequence}
use Rattle.update.proofs.Turns.{replied, turning, x_reject, x_skip, x_accept}
use Rattle.update.proofs.Transfer.{before, Opens, blocking, Right, contents, contents_length, first_serves, transmits}
use Rattle.update.proofs.Eligible.{Fresher, eligible_says, token_rejections, token_need}
use Rattle.update.proofs.Landed.{offers, at_slot, Holding, same_find, spared, holding_more, eligible_now, meets_now, same_slot}
use Rattle.update.proofs.Filled.{image_length, region_inside, fills_more}

-- what is given of the bundle, the host's token, the device and the staging buffer
pub record Given (b : List ℕ) (t : ℕ) (d : Device) (s : List ℕ) : Type 0 where
  pub small : t < 256
  pub accepted : Accepted b
  pub slots : length d.components ≡ component_limit
  pub fine : setup_verdict d.staging_len d.count d.components ≡ Ok tt
  pub d1 : breaks_d1 d ≡ false
  pub d2 : length s ≡ d.staging_len
  pub len : (k : ℕ) → (component d k).fixed.region.len < 256 ^ 4
  pub good : (i k : ℕ) → i < count_in b → find d (offer_at b i).id ≡ Some k → Good (component d k) (offer_at b i) (blocks_at b i)

module _ (b : List ℕ) (twice : Schedule) (t : ℕ) (d : Device) (s : List ℕ) (G : Given b t d s) where
  -- what is known of the bundle
  abbrev α : Accepted b
  α = G.accepted

  -- entry e is next, with the pass p so far
  abbrev pub due : (e : ℕ) → Pass → (mask packets passes : ℕ) → List Component → (r : List ℕ) → List Exchange → System
  due e p m n q ps r trace = turning b twice G.accepted t G.small d e m n q p.skipped p.landed ps r trace

  -- a set has landed: the mask, the components and the staging buffer
  pub record Landed (S : Set) (m : ℕ) (ps : List Component) (r : List ℕ) : Type 0 where
    pub bits : (j : ℕ) → has_bit m j ≡ S j
    pub components : Holding b G.accepted d S ps
    pub bytes : Fills d b S s r

  -- from x the run comes to entry e; c packets were sent beside the contents
  pub record Gets (x : System) (e : ℕ) (p : Pass) (q c : ℕ) : Type 0 where
    pub mask : ℕ
    pub packets : ℕ
    pub components : List Component
    pub staging : List ℕ
    pub trace : List Exchange
    pub leads : Leads b twice x (due e p mask packets q components staging trace)
    pub landed : Landed p.set mask components staging
    pub count : length trace ≡ c + p.sent

  -- what has landed was eligible
  abbrev pub Fair : Set → Type 0
  Fair S = (j : ℕ) → j < count_in b → T (S j) → T (is_eligible (to_idle d) (offer_at b j))

  -- D1 and D2 let pass
  pub sound_now : (S : Set) (m : ℕ) (ps : List Component) (r : List ℕ) → Landed S m ps r → Sound (idle_with d ps) r
  sound_now S m ps r h = record { d1 = h.components.d1; d2 = h.bytes.long ∙ G.d2 }

  -- an offer with its answer
  abbrev offered : (e reason status : ℕ) → Exchange
  offered e reason status = said (offer_packet b α t e) (replied t reason status)

  module _ (e : ℕ) (l : e < count_in b) (S : Set) (m : ℕ) (ps : List Component) (r : List ℕ) (h : Landed S m ps r) where
    module _ (k : ℕ) (out : S e ≡ false) (f : find d (offer_at b e).id ≡ Some k) (w : Fresher d (offer_at b e)) where
      -- the slot is as it was at the start
      was : component_at ps k ≡ component d k
      was = h.components.others k (spared b α d S ps h.components e l k out f)

      -- it is the slot that eligibility found
      here : w.slot ≡ k
      here = same_slot (find d (offer_at b e).id) w.slot k w.here f

      -- the offered version fits
      newer : offer_version_fits (component d k) (offer_at b e).version ≡ true
      newer = subst (λ (n : ℕ). offer_version_fits (component d n) (offer_at b e).version ≡ true) here w.newer

      -- nothing is staged there
      free : is_pending (component_at ps k).staged ≡ false
      free = rw was (subst (λ (n : ℕ). is_pending (component d n).staged ≡ false) here (rw w.free))

      -- its body is good
      abbrev g : Good (component d k) (offer_at b e) (blocks_at b e)
      g = G.good e k l f

      -- the packet that the session holds is that of the block before
      precedes : (j : ℕ) → Precedes j (before b twice α t G.small d ps k e l j)
      precedes zero = tt
      precedes (suc j) = block_sequence b (record { entry = e; block = j })

      -- the session may open
      opens : Opens b twice α t G.small d ps k e l
      opens =
          record {
            len = rw was (G.len k);
            room = rw was (region_inside b α d G.slots G.fine s G.d2 k (at_slot b α d e k f).0);
            d1 = λ j. open_passes d ps k (at_slot b α d e k f).0 h.components.d1 t j (before b twice α t G.small d ps k e l j) (precedes j) free;
          }

      -- what has landed after it
      pub lands_more : Landed (ins S e) (with_bit m e) (set ps k (with_staged (component_at ps k) (offer_at b e).version))
          (within (component d k).fixed.region.base.0 (component d k).fixed.region.len (λ (old : List ℕ). image_of (component d k).fixed.region.len (blocks_at b e)) r)
      lands_more =
          record {
            bits = λ j. with_bit_lem m e j ∙ ap (λ (x : Bool). eqb j e || x) (h.bits j);
            components = holding_more b α d S ps h.components e l k out f (offer_image_lem (component d k) (offer_at b e).version newer);
            bytes = fills_more b α d G.slots G.fine s G.d2 S r e k h.bytes l f g.inside;
          }

      module _ (p q : ℕ) (sk la : Bool) (trace : List Exchange) where
        -- the image is right
        right : Right b twice α t G.small d ps k e l opens m q sk la (image_of (component d k).fixed.region.len (blocks_at b e)) (offer_at b e).version
        right =
            record {
              size = rw was (image_length (component d k).fixed.region.len (blocks_at b e) g.inside);
              crc = g.crc;
              id = g.id ∙ sym (at_slot b α d e k f).2 ∙ ap (λ (c : Component). c.fixed.id) (sym was);
              version = g.version;
              new = rw was (offer_image_lem (component d k) (offer_at b e).version newer);
              d1 = lands_more.components.d1;
            }

        -- an offer that is accepted, up to the next: the trace is longer by the offer and the blocks of the body
        pub accepts : offer_verdict (idle_with d ps) (with_token (offer_at b e) t) ≡ Accept k
            → Leads b twice (turning b twice α t G.small d e m p q sk la ps r trace)
            (turning b twice α t G.small d (suc e) (with_bit m e) (p + 1 + length (blocks_at b e)) q sk true (set ps k (with_staged (component_at ps k) (offer_at b e).version))
            (within (component d k).fixed.region.base.0 (component d k).fixed.region.len (λ (old : List ℕ). image_of (component d k).fixed.region.len (blocks_at b e)) r)
            ((trace ++ (offered e 0 offer_accept ∷ [])) ++ contents b twice α t G.small d ps k e l 0 (length (blocks_at b e))))
        accepts v =
            let d2 : length r ≡ d.staging_len = h.bytes.long ∙ G.d2 in
            leads_step b twice
            (x_accept b twice α t G.small d ps r (sound_now S m ps r h) trace e l m p q sk la k v
            (first_serves b twice α t G.small d ps k e l opens m q sk la 0 (α.records e l) r d2 refl))
            (subst
            (λ (c : Component). Leads b twice (blocking b twice α t G.small d ps k e l opens m q sk la false 0 (p + 1) r [] (trace ++ (offered e 0 offer_accept ∷ [])))
            (turning b twice α t G.small d (suc e) (with_bit m e) (p + 1 + length (blocks_at b e)) q sk true (set ps k (with_staged (component_at ps k) (offer_at b e).version))
            (within c.fixed.region.base.0 c.fixed.region.len (λ (old : List ℕ). image_of (component d k).fixed.region.len (blocks_at b e)) r)
            ((trace ++ (offered e 0 offer_accept ∷ [])) ++ contents b twice α t G.small d ps k e l 0 (length (blocks_at b e)))))
            was
            (transmits b twice α t G.small d ps k e l opens m q sk la (image_of (component d k).fixed.region.len (blocks_at b e)) (offer_at b e).version right (p + 1) (p + 1 + length (blocks_at b e)) r
            (trace ++ (offered e 0 offer_accept ∷ [])) (α.records e l) (rw was g.inside) d2 (ap (λ (c : Component). image_of c.fixed.region.len (blocks_at b e)) was) refl))

  -- what it says of an offer that it is not eligible now
  not_eligible : (x y : Bool) → false ≡ (not x && y) → (x || not y) ≡ true
  not_eligible true y e = refl
  not_eligible false true e = absurd (true≢false (sym e))
  not_eligible false false e = refl

  -- what it says of an offer that it is eligible now
  is_eligible_lem : (x y : Bool) → true ≡ (not x && y) → (x ≡ false) × (y ≡ true)
  is_eligible_lem true y e = absurd (true≢false e)
  is_eligible_lem false y e = (refl, sym e)

  -- what lands is eligible
  pub fair_step : (p : Pass) (e : ℕ) → Fair p.set → Fair (answered (offers b G.accepted d) p e).set
  fair_step p e fair =
      answer_cases (offers b α d) (λ (x : Pass). Fair x.set) p e (λ z. fair)
      (λ n el z. λ j l. or_cases (eqb j e) (p.set j) (λ q. subst (λ (i : ℕ). T (is_eligible (to_idle d) (offer_at b i))) (sym (eqb→eq j e q)) el) (fair j l)) (λ z. fair)

  -- an offer, whatever its answer
  offer_sim : (e : ℕ) → e < count_in b → (p : Pass) → Fair p.set → (q c m n : ℕ) (ps : List Component) (r : List ℕ) (trace : List Exchange)
      → Landed p.set m ps r → length trace ≡ c + p.sent → Gets (due e p m n q ps r trace) (suc e) (answered (offers b α d) p e) q (suc c)
  unfolding answered
  offer_sim e l p fair q c m n ps r trace h count = go (offer_verdict (idle_with d ps) (with_token (offer_at b e) t)) refl (rules d.platform d.count ps (with_token (offer_at b e) t))
    where
      elig : is_eligible (idle_with d ps) (offer_at b e) ≡ (not (p.set e) && is_eligible (to_idle d) (offer_at b e))
      elig = eligible_now b α d p.set ps h.components e l

      go : (v : OfferVerdict) → offer_verdict (idle_with d ps) (with_token (offer_at b e) t) ≡ v
          → Ruling (applies (rejections (idle_with d ps) (with_token (offer_at b e) t))) (need_unmet (idle_with d ps) (with_token (offer_at b e) t)) (find (idle_with d ps) (offer_at b e).id) v
          → Gets (due e p m n q ps r trace) (suc e) (answered (offers b α d) p e) q (suc c)
      go Busy v w = absurd w
      go (Reject x) v w =
          let z = not_eligible (p.set e) (is_eligible (to_idle d) (offer_at b e)) (ap not (sym w ∙ token_rejections (idle_with d ps) (offer_at b e) t) ∙ elig) in
          rw z
          (record {
            mask = m;
            packets = n + 1;
            components = ps;
            staging = r;
            trace = trace ++ (offered e x offer_reject ∷ []);
            leads = leads_step b twice (x_reject b twice α t G.small d ps r (sound_now p.set m ps r h) trace e l m n q p.skipped p.landed x v) (leads_none b twice _);
            landed = h;
            count = omega (arith, more_length trace (offered e x offer_reject));
          })
      go Skip v w =
          let z = is_eligible_lem (p.set e) (is_eligible (to_idle d) (offer_at b e)) (ap not (sym w.0 ∙ token_rejections (idle_with d ps) (offer_at b e) t) ∙ elig) in
          let met : (offers b α d).met p.set e ≡ false
          = sym (meets_now b α d p.set ps h.components e l fair z.0) ∙ ap not (sym (token_need (idle_with d ps) (offer_at b e) t) ∙ w.1) in
          rw (z.0, z.1, met)
          (record {
            mask = m;
            packets = n + 1;
            components = ps;
            staging = r;
            trace = trace ++ (offered e 0 offer_skip ∷ []);
            leads = leads_step b twice (x_skip b twice α t G.small d ps r (sound_now p.set m ps r h) trace e l m n q p.skipped p.landed v) (leads_none b twice _);
            landed = h;
            count = omega (arith, more_length trace (offered e 0 offer_skip));
          })
      go (Accept k) v w =
          let z = is_eligible_lem (p.set e) (is_eligible (to_idle d) (offer_at b e)) (ap not (sym w.0 ∙ token_rejections (idle_with d ps) (offer_at b e) t) ∙ elig) in
          let met : (offers b α d).met p.set e ≡ true
          = sym (meets_now b α d p.set ps h.components e l fair z.0) ∙ ap not (sym (token_need (idle_with d ps) (offer_at b e) t) ∙ w.1) in
          let f : find d (offer_at b e).id ≡ Some k = sym (same_find b α d p.set ps h.components (offer_at b e).id) ∙ w.2 in
          let x = eligible_says d (offer_at b e) (holds _ z.1) in
          let blocks = contents b twice α t G.small d ps k e l 0 (length (blocks_at b e)) in
          rw (z.0, z.1, met)
          (record {
            mask = with_bit m e;
            packets = n + 1 + length (blocks_at b e);
            components = set ps k (with_staged (component_at ps k) (offer_at b e).version);
            staging = within (component d k).fixed.region.base.0 (component d k).fixed.region.len (λ (old : List ℕ). image_of (component d k).fixed.region.len (blocks_at b e)) r;
            trace = (trace ++ (offered e 0 offer_accept ∷ [])) ++ blocks;
            leads = accepts e l p.set m ps r h k z.0 f x n q p.skipped p.landed trace v;
            landed = lands_more e l p.set m ps r h k z.0 f x;
            count =
                length-append (trace ++ (offered e 0 offer_accept ∷ [])) blocks
                ∙ omega (arith, more_length trace (offered e 0 offer_accept), contents_length b twice α t G.small d ps k e l 0 (length (blocks_at b e)));
          })

  -- two stretches of a run, one after the other
  gets_then : (x : System) (e e' : ℕ) (p p' : Pass) (q c c' : ℕ) → Gets x e p q c
      → ((m n : ℕ) (ps : List Component) (r : List ℕ) (trace : List Exchange) → Landed p.set m ps r → length trace ≡ c + p.sent → Gets (due e p m n q ps r trace) e' p' q c')
      → Gets x e' p' q c'
  gets_then x e e' p p' q c c' g h =
      let k = h g.mask g.packets g.components g.staging g.trace g.landed g.count in
      record {
        mask = k.mask;
        packets = k.packets;
        components = k.components;
        staging = k.staging;
        trace = k.trace;
        leads = leads_then b twice g.leads k.leads;
        landed = k.landed;
        count = k.count;
      }

  -- the rest of a pass, j offers from entry e on
  pub pass_sim : (j e : ℕ) → e + j ≡ count_in b → (p : Pass) → Fair p.set → (q c c' m n : ℕ) (ps : List Component) (r : List ℕ) (trace : List Exchange)
      → Landed p.set m ps r → length trace ≡ c + p.sent → c + j ≡ c'
      → Gets (due e p m n q ps r trace) (count_in b) (pass_over (offers b G.accepted d) (from e j) p) q c'
  unfolding pass_over
  pass_sim zero e z p fair q c c' m n ps r trace h count w =
      record {
        mask = m;
        packets = n;
        components = ps;
        staging = r;
        trace = trace;
        leads = subst (λ (i : ℕ). Leads b twice (due e p m n q ps r trace) (due i p m n q ps r trace)) (omega arith) (leads_none b twice (due e p m n q ps r trace));
        landed = h;
        count = omega arith;
      }
  pass_sim (suc j) e z p fair q c c' m n ps r trace h count w =
      gets_then _ (suc e) (count_in b) (answered (offers b α d) p e) _ q (suc c) c'
      (offer_sim e (omega arith) p fair q c m n ps r trace h count)
      (λ m' n' ps' r' trace' h' count'. pass_sim j (suc e) (omega arith) (answered (offers b α d) p e) (fair_step p e fair) q (suc c) c' m' n' ps' r' trace' h' count' (omega arith))
