-- The passes of a run: it comes to what the passes over the numbers of the offers come to. Assumes nothing.
use Prim.Native.Nat.{ℕ, zero, suc, ◌+◌, ◌*◌}
use mathlib.Core.Path.{◌≡◌, refl, sym, subst, ◌∙◌}
use mathlib.Core.Bool.{Bool, true, false, ◌&&◌, cond}
use mathlib.Core.List.{List, [], ◌∷◌, ◌++◌}
use native.Mathlib.Omega.{arith}
use borrow.Author.Tests.{lt-ltb, le-ltb}
use lib.Dec.{ltb}
use lib.ListN.{length}
use Rattle.wire.specs.Codes.{offer_accept}
use Rattle.device_component.specs.declared.record.Component.{Component}
use Rattle.update_passes.specs.Sets.{Set, from}
use Rattle.update_passes.specs.Passes.{Pass, opened, Passes, unpassed, one_pass, onward, again, repeat, passes_of}
use Rattle.update_passes.proofs.Pass.{pass_keeps}
use Rattle.update_passes.proofs.Tests.{and_false}
use Rattle.update_passes.proofs.Sets.{length_from}
use Rattle.bundle_layout.specs.Layout.{count_in}
use Rattle.device.specs.Record.{idle_with}
use Rattle.device.specs.declared.record.Device.{Device}
use Rattle.device.proofs.Calls.{Sound}
use Rattle.device.proofs.Opened.{idle_passes}
use Rattle.host_record.specs.declared.record.HostStage.TheVariants.{Ended}
use Rattle.host_record.specs.declared.record.End.TheVariants.{Done}
use Rattle.update.specs.Trace.{Exchange}
use Rattle.update.specs.Run.{System, Schedule, start}
use Rattle.update.proofs.Mask.{no_bit}
use Rattle.update.proofs.Leads.{said, more_length, Leads, leads_none, leads_step, leads_then}
use Rattle.update.proofs.Turns.{replied, code_bytes, listing, x_open, x_list, x_first, x_again, x_done}
use Rattle.update.proofs.Landed.{offers, holding_none}
use Rattle.update.proofs.Filled.{fills_none}
use Rattle.update.proofs.Pass.{Given, due, Landed, Gets, Fair, sound_now, fair_step, pass_sim}

module _ (b : List ℕ) (twice : Schedule) (t : ℕ) (d : Device) (s : List ℕ) (G : Given b t d s) where
  -- a pass from a set on
  abbrev once : Set → Pass
  once = one_pass (offers b G.accepted d) (from 0 (count_in b))

  -- one pass more
  abbrev next : Passes → Passes
  next = onward (offers b G.accepted d) (from 0 (count_in b))

  -- passes until one lacks a skip or a landing, and at most so many
  abbrev pub rounds : ℕ → Passes → Passes
  rounds = repeat (offers b G.accepted d) (from 0 (count_in b))

  -- code 0, the codes 1 and 2 and the offers of each pass, and the records
  abbrev pub sent_by : Passes → ℕ
  sent_by ρ = 1 + ρ.passes * (count_in b + 2) + ρ.sent

  -- from x the run ends, as the passes say
  pub record Comes (x : System) (ρ : Passes) : Type 0 where
    pub last : System
    pub leads : Leads b twice x last
    pub done : last.host.stage ≡ Ended Done
    pub silence : (last.awaited ≡ []) × (last.replies ≡ [])
    pub device : last.device ≡ idle_with d last.device.components
    pub landed : Landed b twice t d s G ρ.set last.host.mask last.device.components last.staging
    pub passes : last.host.passes ≡ ρ.passes
    pub count : length last.trace ≡ sent_by ρ

  -- turns before such a run
  comes_after : (x y : System) (ρ : Passes) → Leads b twice x y → Comes y ρ → Comes x ρ
  comes_after x y ρ l g = record {
    last = g.last;
    leads = leads_then b twice l g.leads;
    done = g.done;
    silence = g.silence;
    device = g.device;
    landed = g.landed;
    passes = g.passes;
    count = g.count;
  }

  -- a code with its answer
  abbrev coded : ℕ → Exchange
  coded n = said (code_bytes n t) (replied t 0 offer_accept)

  -- code 1 is on its way
  abbrev list : (mask packets passes : ℕ) → List Component → (r : List ℕ) → List Exchange → System
  list m n q ps r trace = listing b twice G.accepted t G.small d m n q ps r trace

  -- what lands in a pass was eligible
  fair_once : (S : Set) → Fair b twice t d s G S → Fair b twice t d s G (once S).set
  unfolding one_pass
  fair_once S fair =
      pass_keeps (offers b G.accepted d) (λ (x : Pass). Fair b twice t d s G x.set) (from 0 (count_in b)) (λ p i m h. fair_step b twice t d s G p i h) (opened S) fair

  -- one pass, up to its code 2
  to_close : (S : Set) → Fair b twice t d s G S → (m n q c : ℕ) (ps : List Component) (r : List ℕ) (trace : List Exchange) → Landed b twice t d s G S m ps r → length trace ≡ c
      → Gets b twice t d s G (list m n q ps r trace) (count_in b) (once S) q (suc c + count_in b)
  unfolding one_pass
  to_close S fair m n q c ps r trace h count =
      record {
        mask = g.mask;
        packets = g.packets;
        components = g.components;
        staging = g.staging;
        trace = g.trace;
        leads = leads_step b twice (x_first b twice G.accepted t G.small d ps r (sound_now b twice t d s G S m ps r h) trace m n q) g.leads;
        landed = g.landed;
        count = g.count;
      }
    where
      g : Gets b twice t d s G (due b twice t d s G 0 (opened S) m (n + 1) q ps r (trace ++ (coded 1 ∷ []))) (count_in b) (once S) q (suc c + count_in b)
      g =
          pass_sim b twice t d s G (count_in b) 0 (omega arith) (opened S) fair q (suc c) (suc c + count_in b) m (n + 1) ps r (trace ++ (coded 1 ∷ [])) h
          (omega (arith, more_length trace (coded 1))) refl

  module _ (ρ : Passes) (fair : Fair b twice t d s G ρ.set) (m n q : ℕ) (ps : List Component) (r : List ℕ) (trace : List Exchange) (h : Landed b twice t d s G ρ.set m ps r)
      (count : length trace ≡ sent_by ρ) (passes : q ≡ suc ρ.passes) where
    -- the pass
    g : Gets b twice t d s G (list m n q ps r trace) (count_in b) (once ρ.set) q (suc (sent_by ρ) + count_in b)
    g = to_close ρ.set fair m n q (sent_by ρ) ps r trace h count

    -- no entry stands at the count
    past : ltb (count_in b) (count_in b) ≡ false
    past = le-ltb (count_in b) (count_in b) (omega arith)

    -- D1 and D2 let the device pass after it
    sound : Sound (idle_with d g.components) g.staging
    sound = sound_now b twice t d s G (once ρ.set).set g.mask g.components g.staging g.landed

    -- the packets up to code 2 are counted
    counted : length (g.trace ++ (coded 2 ∷ [])) ≡ sent_by (next ρ)
    unfolding onward
    counted = more_length g.trace (coded 2) ∙ omega (arith, g.count)

    -- the end of a pass that is the last
    finish : (((once ρ.set).skipped && (once ρ.set).landed) && ltb q (count_in b)) ≡ false → Comes (list m n q ps r trace) (next ρ)
    unfolding onward
    finish z =
        record {
          last = _;
          leads =
              leads_then b twice g.leads
              (leads_step b twice
              (x_done b twice G.accepted t G.small d g.components g.staging sound g.trace (count_in b) past g.mask g.packets q (once ρ.set).skipped (once ρ.set).landed z)
              (leads_none b twice _));
          done = refl;
          silence = (refl, refl);
          device = refl;
          landed = g.landed;
          passes = passes;
          count = counted;
        }

    -- a pass that is followed by another
    follow : (ρ' : Passes) → (((once ρ.set).skipped && (once ρ.set).landed) && ltb q (count_in b)) ≡ true
        → Comes (list g.mask (g.packets + 1) (q + 1) g.components g.staging (g.trace ++ (coded 2 ∷ []))) ρ'
        → Comes (list m n q ps r trace) ρ'
    follow ρ' z rest =
        comes_after (list m n q ps r trace) (list g.mask (g.packets + 1) (q + 1) g.components g.staging (g.trace ++ (coded 2 ∷ []))) ρ'
        (leads_then b twice g.leads
        (leads_step b twice
        (x_again b twice G.accepted t G.small d g.components g.staging sound g.trace (count_in b) past g.mask g.packets q (once ρ.set).skipped (once ρ.set).landed z)
        (leads_none b twice _)))
        rest

  -- the passes from one on, with as many left as the host allows
  rounds_sim : (f : ℕ) (ρ : Passes) → ρ.passes + suc f ≡ count_in b → Fair b twice t d s G ρ.set → (m n q : ℕ) (ps : List Component) (r : List ℕ) (trace : List Exchange)
      → Landed b twice t d s G ρ.set m ps r → length trace ≡ sent_by ρ → q ≡ suc ρ.passes → Comes (list m n q ps r trace) (rounds (suc f) ρ)
  unfolding repeat onward
  rounds_sim zero ρ e fair m n q ps r trace h count passes = go (again (offers b G.accepted d) (from 0 (count_in b)) ρ)
    where
      last : Comes (list m n q ps r trace) (next ρ)
      last =
          finish ρ fair m n q ps r trace h count passes
          (rw (le-ltb q (count_in b) (omega arith)) (and_false ((once ρ.set).skipped && (once ρ.set).landed)))

      go : (x : Bool) → Comes (list m n q ps r trace) (cond x (next ρ) (next ρ))
      go true = last
      go false = last
  rounds_sim (suc f) ρ e fair m n q ps r trace h count passes =
      go (again (offers b G.accepted d) (from 0 (count_in b)) ρ) refl
      (rounds_sim f (next ρ) (omega arith) (fair_once ρ.set fair) k.mask (k.packets + 1) (q + 1) k.components k.staging (k.trace ++ (coded 2 ∷ [])) k.landed
      (counted ρ fair m n q ps r trace h count passes) (omega arith))
    where
      k : Gets b twice t d s G (list m n q ps r trace) (count_in b) (once ρ.set) q (suc (sent_by ρ) + count_in b)
      k = g ρ fair m n q ps r trace h count passes

      go : (x : Bool) → again (offers b G.accepted d) (from 0 (count_in b)) ρ ≡ x
          → Comes (list k.mask (k.packets + 1) (q + 1) k.components k.staging (k.trace ++ (coded 2 ∷ []))) (rounds (suc f) (next ρ))
          → Comes (list m n q ps r trace) (cond x (rounds (suc f) (next ρ)) (next ρ))
      go true z rest = follow ρ fair m n q ps r trace h count passes (rounds (suc f) (next ρ)) (rw (z, lt-ltb q (count_in b) (omega arith))) rest
      go false z rest = finish ρ fair m n q ps r trace h count passes (rw z)

  -- the whole run, from a fresh host
  pub comes_whole : (reply : List ℕ) → Comes (start t d s reply) (passes_of (offers b G.accepted d) (from 0 (count_in b)))
  unfolding passes_of
  comes_whole reply =
      comes_after (start t d s reply) hello _
      (leads_step b twice (x_open b twice G.accepted t G.small d s reply (record { d1 = G.d1; d2 = G.d2 }))
      (leads_step b twice (x_list b twice G.accepted t G.small d 0 1 0 false false s [] (record { d1 = G.d1; d2 = G.d2 }) (record { d1 = idle_passes d G.d1; d2 = G.d2 }))
      (leads_none b twice _)))
      (subst (λ (n : ℕ). Comes hello (rounds n unpassed)) (sym (length_from 0 (count_in b))) (go (count_in b) refl))
    where
      hello : System
      hello = list 0 2 1 d.components s (coded 0 ∷ [])

      go : (n : ℕ) → count_in b ≡ n → Comes (list 0 2 1 d.components s (coded 0 ∷ [])) (rounds n unpassed)
      go zero z = absurd (omega (arith, G.accepted.some))
      go (suc f) z =
          rounds_sim f unpassed (omega arith) (λ j l w. absurd w) 0 2 1 d.components s (coded 0 ∷ [])
          (record {
            bits = no_bit;
            components = holding_none b G.accepted d (idle_passes d G.d1);
            bytes = fills_none b G.accepted d G.slots G.fine s G.d2;
          })
          (omega arith) refl
