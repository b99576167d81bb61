-- The whole run: all of demand 3 but the order of the offers. Assumes nothing.
use Prim.Native.Nat.{ℕ, zero, suc, ◌+◌, ◌*◌, ◌-◌, ◌≤◌, ◌<◌}
use mathlib.Core.Path.{◌≡◌, sym, ap, subst, ◌∙◌}
use mathlib.Core.Logic.{inl, inr}
use mathlib.Core.Bool.{Bool, true, not, ◌&&◌}
use mathlib.Core.List.{List, []}
use native.Mathlib.Decide.{dec_lt}
use native.Mathlib.Omega.{arith}
use lib.Dec.{T, T_not, not_T, eqb, eqb→eq, eqb_refl}
use lib.ListN.{length, get_or, drop, drop_of_length-le}
use lib.Seq.{drop-cons}
use Rattle.wire.specs.Checks.{any}
use Rattle.update_passes.specs.Sets.{Set, from, weight, all}
use Rattle.update_passes.specs.Passes as passes
use Rattle.update_passes.specs.Passes.{Reached, Monotone, passes_of}
use Rattle.update_passes.proofs.Tests.{or_inl, or_inr, or_cases, both, and_l, and_r}
use Rattle.update_passes.proofs.Sets.{length_from, some_out, some_in}
use Rattle.update_passes.proofs.Passes.{passes_reach, need_monotone}
use Rattle.bundle_layout.specs.Layout.{count_in, entries_in}
use Rattle.bundle.specs.Contents.{blocks_in}
use Rattle.bundle.proofs.Accepted.{accepted}
use Rattle.device.specs.Record.{to_idle}
use Rattle.device.specs.declared.record.Device.{Device}
use Rattle.host_record.specs.Record.{has_ended}
use Rattle.host_packet.specs.Answer.{Step}
use Rattle.host_decide.specs.declared.Move.{Move}
use Rattle.host.specs.Step.{moved, packet_of, step_of}
use Rattle.host_record.specs.declared.record.HostStage.TheVariants.{Ended}
use Rattle.host_record.specs.declared.record.End.TheVariants.{Done}
use Rattle.update.specs.Trace.{passes_in}
use Rattle.update.specs.Run.{System, Schedule, heard, run, start, records_from, records_in, last_of}
use Rattle.update.specs.Ends.{Counted}
use Rattle.update.specs.Claim.{offer_at, is_met, feeds, Closed, Within, Smallest, Leaves, Fills}
use Rattle.update.specs.Demand.{Premise, staged_in, Turn}
use Rattle.update.proofs.Ends.{stays}
use Rattle.update.proofs.Leads.{Fine, steps, steps_in}
use Rattle.update.proofs.Landed.{offers, numbered, below_count}
use Rattle.update.proofs.Filled.{fine_setup}
use Rattle.update.proofs.Pass.{Given}
use Rattle.update.proofs.Rounds.{Comes, comes_whole}
use Rattle.update.proofs.Talks.{run_then, ended_stays, step_is, run_goes, ended_last, run_counts, run_silent}

-- the records of all bodies, by the numbers of the entries
records_from_lem : (b : List ℕ) (l : List (List ℕ)) (m k : ℕ) → k + m ≡ length l
    → records_from b (drop k l) ≡ weight (λ i. length (blocks_in b (get_or l i []))) all (from k m)
unfolding records_from
records_from_lem b l zero k e = ap (records_from b) (drop_of_length-le l {i = k} (omega arith))
records_from_lem b l (suc m) k e =
    ap (records_from b) (drop-cons l k [] (omega arith)) ∙ ap (λ (n : ℕ). length (blocks_in b (get_or l k [])) + n) (records_from_lem b l m (suc k) (omega arith))

-- a premise, as the proofs use it
given : (b : List ℕ) (token : ℕ) (d : Device) (staging : List ℕ) → Premise b token d staging → Given b token d staging
given b token d staging P =
    record {
      small = P.small;
      accepted = accepted b P.bundle P.accepted;
      slots = P.fits.slots;
      fine = fine_setup d P.d1;
      d1 = P.d1;
      d2 = P.d2;
      len = λ k. (P.fits.each k).fixed.region.len;
      good = P.good;
    }

-- demand 3, but for the order
pub record Core (b : List ℕ) (twice : Schedule) (token : ℕ) (d : Device) (staging reply : List ℕ) (s : System) : Type 0 where
  pub done : s.host.stage ≡ Ended Done
  pub stays : (m : ℕ) → run b twice m s ≡ s
  pub silence : (s.awaited ≡ []) × (s.replies ≡ [])
  pub served : (m : ℕ) → Turn b (run b twice m (start token d staging reply))
  pub passes : passes_in s.trace ≤ count_in b
  pub packets : length s.trace ≤ 1 + count_in b * (count_in b + 2) + records_in b
  pub counts : Counted b s.host s.trace
  pub smallest : Smallest d b (staged_in b s)
  pub device : Leaves d b (staged_in b s) s.device
  pub bytes : Fills d b (staged_in b s) staging s.staging

module _ (b : List ℕ) (twice : Schedule) (token : ℕ) (d : Device) (staging reply : List ℕ) (P : Premise b token d staging) where
  -- the premise
  abbrev G : Given b token d staging
  G = given b token d staging P

  -- the offers, as the passes see them
  abbrev y : passes.Offers
  y = offers b G.accepted d

  -- their numbers
  abbrev os : List ℕ
  os = from 0 (count_in b)

  -- a member of X meets the need of offer i
  abbrev fed : Set → (i j : ℕ) → Bool
  fed X i j = X j && (not (eqb j i) && feeds (offer_at b j) (offer_at b i))

  -- a need that is met stays met
  monotone : Monotone y
  monotone = need_monotone (λ i. is_met (to_idle d) (offer_at b i)) (λ j i. feeds (offer_at b j) (offer_at b i)) os y.eligible y.records

  -- what the passes come to
  reached : Reached y os
  reached = passes_reach y os monotone

  -- what the run comes to
  c : Comes b twice token d staging G (start token d staging reply) (passes_of y os)
  c = comes_whole b twice token d staging G reply

  -- the run comes to the system in which the passes end
  ends : run b twice c.leads.turns (start token d staging reply) ≡ c.last
  ends = run_goes b twice token d staging reply P.bundle P.accepted P.small c.leads.turns ∙ c.leads.comes

  -- there the host has ended
  over : has_ended c.last.host.stage ≡ true
  over = ap has_ended c.done

  -- and so it has in the run
  run_over : has_ended (run b twice c.leads.turns (start token d staging reply)).host.stage ≡ true
  run_over = subst (λ (x : System). has_ended x.host.stage ≡ true) (sym ends) over

  -- and is still there at the bound
  last_is : last_of b twice token d staging reply ≡ c.last
  last_is = ended_last b twice token d staging reply P.bundle P.accepted P.small c.leads.turns run_over ∙ ends

  -- the run after m turns
  abbrev now : ℕ → System
  now m = run b twice m (start token d staging reply)

  -- the ended host sends nothing
  none : (steps_in b twice c.last).sent ≡ []
  unfolding packet_of
  none = ap (λ (x : Move). (moved b x).sent) (stays c.last.host.stage (count_in b) _ c.last.host (heard c.last.replies) over)

  -- every turn is served, with exactly one reply to what is sent
  turn_is : (m : ℕ) → Turn b (now m)
  turn_is m =
      record {
        host = ap (λ (x : Step). x.row) is;
        device = λ p z. (fine (dec_lt m c.leads.turns) p (ap (λ (x : Step). x.sent) (sym is) ∙ z)).answered;
        copy = λ p z w. (fine (dec_lt m c.leads.turns) p (ap (λ (x : Step). x.sent) (sym is) ∙ z)).repeats w;
        silent = run_silent b twice token d staging reply P.bundle P.accepted P.small m;
      }
    where
      is : step_of b (now m).host (heard (now m).replies) ≡ steps b twice (now m).host (heard (now m).replies)
      is = step_is b twice token d staging reply P.bundle P.accepted P.small m

      fine : Dec (m < c.leads.turns) → Fine b twice (now m)
      fine (yes l) = subst (Fine b twice) (sym (run_goes b twice token d staging reply P.bundle P.accepted P.small m)) (c.leads.fine m l)
      fine (no l) =
          let k = m - c.leads.turns in
          let e : c.leads.turns + k ≡ m = omega arith in
          let at : now m ≡ c.last
          = ap now (sym e) ∙ run_then b twice c.leads.turns k (start token d staging reply)
          ∙ ap (run b twice k) ends ∙ ended_stays b twice k c.last over in
          subst (Fine b twice) (sym at) (λ p z. absurd (omega (arith, ap length (sym none ∙ z))))

  -- its counts are those of the list
  counted : Counted b c.last.host c.last.trace
  counted =
      subst (λ (x : System). Counted b x.host x.trace) ends
      (run_counts b twice token d staging reply P.bundle P.accepted P.small c.leads.turns run_over)

  -- what the passes reached is what the list shows
  is_staged : (i : ℕ) → i < count_in b → staged_in b c.last i ≡ (passes_of y os).set i
  is_staged i l = sym (counted.mask.bits i l) ∙ c.landed.bits i

  -- a member by the list is one by the passes
  to_set : (i : ℕ) → i < count_in b → T (staged_in b c.last i) → T ((passes_of y os).set i)
  to_set i l t = subst T (is_staged i l) t

  -- and the other way round
  from_set : (i : ℕ) → i < count_in b → T ((passes_of y os).set i) → T (staged_in b c.last i)
  from_set i l t = subst T (sym (is_staged i l)) t

  -- it is the smallest closed set
  smallest : Smallest d b (staged_in b c.last)
  smallest = record { closed = closed; least = least }
    where
      closed : Closed d b (staged_in b c.last)
      closed i l e (inl m) =
          from_set i l (reached.closed i (numbered b i l) e (or_inl (is_met (to_idle d) (offer_at b i)) (any (fed (passes_of y os).set i) os) m))
      closed i l e (inr f) =
          from_set i l (reached.closed i (numbered b i l) e
          (or_inr (is_met (to_idle d) (offer_at b i)) (any (fed (passes_of y os).set i) os)
          (some_in os (fed (passes_of y os).set i) f.by (numbered b f.by f.listed)
          (both ((passes_of y os).set f.by) _ (to_set f.by f.listed f.member)
          (both (not (eqb f.by i)) _ (not_T (eqb f.by i) (λ z. f.other (eqb→eq f.by i z))) f.meets)))))

      least : (Y : Set) → Closed d b Y → Within b (staged_in b c.last) Y
      least Y cl i l t = reached.least Y inside i (to_set i l t)
        where
          inside : passes.Closed y os Y
          inside j m e n =
              or_cases (is_met (to_idle d) (offer_at b j)) (any (fed Y j) os)
              (λ z. cl j (below_count b j m) e (inl z))
              (λ z. let x = some_out os (fed Y j) z in
              let w = and_r (Y x.j) (not (eqb x.j j) && feeds (offer_at b x.j) (offer_at b j)) x.has in
              cl j (below_count b j m) e (inr (record {
                by = x.j;
                listed = below_count b x.j x.listed;
                other = λ q. T_not (eqb x.j j) (and_l (not (eqb x.j j)) (feeds (offer_at b x.j) (offer_at b j)) w) (subst (λ (k : ℕ). T (eqb x.j k)) q (eqb_refl x.j));
                member = and_l (Y x.j) _ x.has;
                meets = and_r (not (eqb x.j j)) (feeds (offer_at b x.j) (offer_at b j)) w;
              }))) n

  -- it decides the device
  leaves : Leaves d b (staged_in b c.last) c.last.device
  leaves =
      record {
        same = c.device;
        slots = c.landed.components.slots;
        members = λ i k l t f. c.landed.components.members i k l (to_set i l t) f;
        others = λ k h. c.landed.components.others k (λ i l t. h i l (from_set i l t));
      }

  -- it decides the staging buffer
  fills : Fills d b (staged_in b c.last) staging c.last.staging
  fills =
      record {
        long = c.landed.bytes.long;
        images = λ i k l t f. c.landed.bytes.images i k l (to_set i l t) f;
        rest = λ j u. c.landed.bytes.rest j (λ i k l t. u i k l (from_set i l t));
      }

  -- the passes are few
  few : passes_in c.last.trace ≤ count_in b
  few = omega (arith, counted.passes, c.passes, reached.few, length_from 0 (count_in b))

  -- the packets are few
  bounded : length c.last.trace ≤ 1 + count_in b * (count_in b + 2) + records_in b
  bounded = omega (arith, c.count, rw (length_from 0 (count_in b)) at reached.bound, records_from_lem b (entries_in b) (count_in b) 0 (omega (arith, G.accepted.entries)))

  -- all of it, of the run until the host ends
  pub core : Core b twice token d staging reply (last_of b twice token d staging reply)
  core =
      subst (Core b twice token d staging reply) (sym last_is)
      (record {
        done = c.done;
        stays = λ m. ended_stays b twice m c.last over;
        silence = c.silence;
        served = turn_is;
        passes = few;
        packets = bounded;
        counts = counted;
        smallest = smallest;
        device = leaves;
        bytes = fills;
      })
