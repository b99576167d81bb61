-- Demand 3. Assumes nothing.
use Prim.Native.Nat.{ℕ, ◌<◌}
use mathlib.Core.Path.{◌≡◌, sym, ap, subst, ◌∙◌}
use mathlib.Core.Logic.{inl, inr, ◌↔◌}
use mathlib.Core.Bool.{true, false, ◌&&◌, true≢false}
use mathlib.Core.List.{List}
use lib.Dec.{T, T_not}
use lib.ListN.{length}
use Rattle.wire.specs.Bytes.{Bytes}
use Rattle.wire_offer.specs.declared.offer.OfferFields.{OfferFields}
use Rattle.device_component.specs.Record.{is_pending}
use Rattle.device_component.specs.declared.record.Component.{Component}
use Rattle.std.specs.Prelude.{Some}
use Rattle.update_passes.specs.Sets.{Set}
use Rattle.update_passes.proofs.Tests.{bool_cases, both, and_l, and_r}
use Rattle.bundle_layout.specs.Layout.{count_in}
use Rattle.bundle_layout.specs.Rows as rows
use Rattle.bundle.proofs.Accepted.{Accepted, accepted}
use Rattle.device.specs.Record.{find, component, to_idle}
use Rattle.device.specs.declared.record.Device.{Device}
use Rattle.host_record.specs.Record as ending
use Rattle.host_record.specs.Record.{has_ended, report_of}
use Rattle.host.specs.Step.{blocks_at}
use Rattle.host_record.specs.declared.record.Host.{Host}
use Rattle.host_record.specs.declared.record.HostStage.TheVariants.{Ended}
use Rattle.host_record.specs.declared.record.End.TheVariants.{Done}
use Rattle.update.specs.Trace.{Exchange, passes_in}
use Rattle.update.specs.Ends.{Counted, completed_of}
use Rattle.update.specs.Run.{System, Schedule, last_of}
use Rattle.update.specs.Claim.{offer_at, Good, is_eligible, Closed, Smallest, Leaves}
use Rattle.update.specs.Demand.{Premise, staged_in, Reordered, Same, DemandThree}
use Rattle.update.proofs.Eligible.{eligible_says}
use Rattle.update.proofs.Landed.{same_slot, one_offer}
use Rattle.update.proofs.Filled.{fine_setup, fills_same}
use Rattle.update.proofs.Talks.{end_stays}
use Rattle.update.proofs.Whole.{Core, core}
use Rattle.update.proofs.Orders.{flip, same_offer, same_blocks, same_set, same_leaves, same_fills, leaves_same}

-- what landed was eligible: the eligible members alone are closed, and the set is the smallest
landed_eligible : (d : Device) (b : List ℕ) (X : Set) → Smallest d b X → (i : ℕ) → i < count_in b → T (X i) → T (is_eligible (to_idle d) (offer_at b i))
landed_eligible d b X s i l t = and_r (X i) (is_eligible (to_idle d) (offer_at b i)) (s.least (λ k. X k && is_eligible (to_idle d) (offer_at b k)) closed i l t)
  where
    closed : Closed d b (λ k. X k && is_eligible (to_idle d) (offer_at b k))
    closed j m e (inl n) = both (X j) (is_eligible (to_idle d) (offer_at b j)) (s.closed j m e (inl n)) e
    closed j m e (inr f) =
        both (X j) (is_eligible (to_idle d) (offer_at b j))
        (s.closed j m e (inr (record { by = f.by; listed = f.listed; other = f.other; member = and_l (X f.by) _ f.member; meets = f.meets }))) e

-- staged in this run: not pending before, and pending after
state_form : (b : List ℕ) → Accepted b → (d : Device) (X : Set) (d' : Device) → Smallest d b X → Leaves d b X d' → (i k : ℕ) → i < count_in b → find d (offer_at b i).id ≡ Some k
    → T (X i) ↔ ((is_pending (component d k).staged ≡ false) × (is_pending (component d' k).staged ≡ true))
state_form b α d X d' s h i k l f = (forth, back)
  where
    forth : T (X i) → (is_pending (component d k).staged ≡ false) × (is_pending (component d' k).staged ≡ true)
    forth t =
        let w = eligible_says d (offer_at b i) (landed_eligible d b X s i l t) in
        let e : w.slot ≡ k = same_slot (find d (offer_at b i).id) w.slot k w.here f in
        (subst (λ (n : ℕ). is_pending (component d n).staged ≡ false) e (rw w.free), ap (λ (c : Component). is_pending c.staged) (h.members i k l t f))

    back : (is_pending (component d k).staged ≡ false) × (is_pending (component d' k).staged ≡ true) → T (X i)
    back p =
        bool_cases (X i) (λ t. t)
        (λ t. absurd (true≢false (sym p.1 ∙ ap (λ (c : Component). is_pending c.staged)
        (h.others k (λ j m u g. T_not (X i) t (subst (λ (n : ℕ). T (X n)) (one_offer b α d j i k m l g f) u))) ∙ p.0)))

-- the report of a host that is done
reports : (b : List ℕ) (h : Host) (trace : List Exchange) → Counted b h trace → h.stage ≡ Ended Done
    → report_of h
    ≡ record {
      completed = completed_of b trace (count_in b);
      mask = h.mask;
      packets = length trace;
      passes = passes_in trace;
      ending = ending.done;
    }
unfolding report_of
reports b h trace c e = rw (c.mask.ones, c.packets, c.passes, e)

-- the premise goes along with the order
reordered : (b b' : List ℕ) (token token' : ℕ) (d : Device) (staging : List ℕ) → Premise b token d staging → Bytes b' → token' < 256 → rows.bundle_row b' ≡ rows.served
    → Reordered b b' → Premise b' token' d staging
reordered b b' token token' d staging P bytes small accept π =
    record {
      small = small;
      fits = P.fits;
      bytes = P.bytes;
      bundle = bytes;
      d1 = P.d1;
      d2 = P.d2;
      accepted = accept;
      good = λ j k l f. let m : j < count_in b = rw π.count at l in
          let o : offer_at b (π.back j) ≡ offer_at b' j = same_offer b' b (flip b b' π) j l in
          subst (Good (component d k) (offer_at b' j)) (same_blocks b' b (flip b b' π) j l)
          (subst (λ (x : OfferFields). Good (component d k) x (blocks_at b (π.back j))) o
          (P.good (π.back j) k (π.back_listed j m) (ap (λ (x : OfferFields). find d x.id) o ∙ f)));
    }

-- demand 3
pub demand_three : DemandThree
demand_three b twice token d staging reply P =
    record {
      done = c.done;
      stays = (c.stays, end_stays b s.host (ap has_ended c.done));
      silence = c.silence;
      served = c.served;
      passes = c.passes;
      packets = c.packets;
      counts = c.counts;
      report = reports b s.host s.trace c.counts c.done;
      smallest = c.smallest;
      device = c.device;
      bytes = c.bytes;
      pending = state_form b α d (staged_in b s) s.device c.smallest c.device;
      order = order;
    }
  where
    α : Accepted b
    α = accepted b P.bundle P.accepted

    s : System
    s = last_of b twice token d staging reply

    c : Core b twice token d staging reply (last_of b twice token d staging reply)
    c = core b twice token d staging reply P

    order : (b' : List ℕ) (twice' : Schedule) (token' : ℕ) (reply' : List ℕ) → Bytes b' → token' < 256 → rows.bundle_row b' ≡ rows.served
        → (π : Reordered b b') → Same b b' π (last_of b twice token d staging reply) (last_of b' twice' token' d staging reply')
    order b' twice' token' reply' bytes small accept π =
        record {
          set = same;
          device = sym (leaves_same b α d (staged_in b s) s.device s'.device c.device (same_leaves b b' π d (staged_in b s) (staged_in b' s') same s'.device c'.device));
          staging =
              sym (fills_same b α d P.fits.slots (fine_setup d P.d1) staging P.d2 (staged_in b s) s.staging s'.staging c.bytes
              (same_fills b b' π d (staged_in b s) (staged_in b' s') same staging s'.staging c'.bytes));
        }
      where
        s' : System
        s' = last_of b' twice' token' d staging reply'

        c' : Core b' twice' token' d staging reply' (last_of b' twice' token' d staging reply')
        c' = core b' twice' token' d staging reply' (reordered b b' token token' d staging P bytes small accept π)

        same : (i : ℕ) → i < count_in b → staged_in b' (last_of b' twice' token' d staging reply') (π.to i) ≡ staged_in b (last_of b twice token d staging reply) i
        same = same_set b b' π d (staged_in b (last_of b twice token d staging reply)) (staged_in b' (last_of b' twice' token' d staging reply')) c.smallest c'.smallest
