-- A step that sends nothing ends the host or passes over the reply that it was handed, which equals the one taken last. Assumes nothing.
use mathlib.Core.Path.{◌≡◌, refl, sym, ap, ap₂, subst, ◌∙◌}
use mathlib.Core.Logic.{◌⊎◌, inl, inr}
use mathlib.Core.Bool.{Bool, true, false, not, ◌&&◌, true≢false}
use mathlib.Core.List.{List, [], ◌∷◌}
use Prim.Native.Nat.{ℕ, ◌+◌, ◌-◌}
use native.Mathlib.Omega.{arith}
use borrow.Author.Tests.{eqb-true, leb-true, not-false, not-true}
use lib.Dec.{leb, eqb}
use lib.ListN.{length}
use Rattle.wire.specs.Codes.{success_status}
use Rattle.wire.proofs.Tests.{both}
use Rattle.wire_content.specs.Reply.{reply_in}
use Rattle.bundle_layout.specs.Layout.{count_in}
use Rattle.bundle.proofs.Accepted.{accepted}
use Rattle.host_record.specs.Record.{sequence_of, has_ended}
use Rattle.host_record.specs.declared.record.Host.{Host}
use Rattle.host_record.specs.declared.record.Awaited.{Awaited}
use Rattle.host_record.specs.declared.record.HostStage.{HostStage}
use Rattle.host_record.specs.declared.record.HostStage.TheVariants.{Fresh, Opening, Listing, Offering, Waiting, Sending, Closing, Ended}
use Rattle.host_record.specs.declared.record.End.{End}
use Rattle.host_record.specs.declared.record.End.TheVariants.{Foreign}
use Rattle.host_decide.specs.declared.Move.{Move}
use Rattle.host_decide.specs.Decide.{ends, offer_from, noted, completes, repeats_taken, pass_over, goes_on, hears_block, decide_in}
use Rattle.host_decide.proofs.Moves.{by_test, offer_cases, opening_cases, listing_cases, offering_cases, waiting_cases, closing_cases}
use Rattle.host_packet.specs.Answer.{Step}
use Rattle.host.specs.Step.{last_in, moved, packet_of}
use Rattle.update.specs.Heard.{last_taken}
use Rattle.update.specs.Trace.{Exchange}
use Rattle.update.specs.Ends.{host_steps, PassedOver, HostSilent}
use Rattle.update.proofs.Ends.{step_at}
use Rattle.update.proofs.Counts.{TookBefore, KnownAt, known_at}

-- where a block that is not the first of its body is awaited, the reply taken last is that to the block before
abbrev Took : HostStage → (taken : List ℕ) → Type 0
Took Fresh taken = Unit {0}
Took Opening taken = Unit {0}
Took Listing taken = Unit {0}
Took (Offering t) taken = Unit {0}
Took (Waiting t) taken = Unit {0}
Took (Sending a) taken = TookBefore a.place taken
Took Closing taken = Unit {0}
Took (Ended e) taken = Unit {0}

-- what is sent is not nothing
some_sent : (p : List ℕ) → (p ∷ []) ≡ [] → ⊥
some_sent p z = omega (arith, ap length z)

module _ (b : List ℕ) (h : Host) (reply taken : List ℕ) where
  -- what a move that sends nothing does
  abbrev Silent : Move → Type 0
  Silent m = (moved b m).sent ≡ [] → (has_ended m.host.stage ≡ true) ⊎ PassedOver h m.host reply taken

  -- an end
  stops : (e : End) → Silent (ends h e)
  stops e z = inl refl

  -- the offer of an entry, or code 2, is sent
  offers : (n e : ℕ) (g : Host) → Silent (offer_from n e g)
  unfolding packet_of
  offers n e g = offer_cases Silent n e g (λ l z. absurd (some_sent _ z)) (λ z. absurd (some_sent _ z))

  -- the next block is sent, or what follows the last
  goes_on_lem : (n : ℕ) (last : Bool) (a : Awaited) → Silent (goes_on n last a.place h)
  unfolding packet_of
  goes_on_lem n true a = offers n (a.place.entry + 1) (completes h a.place.entry)
  goes_on_lem n false a = λ z. absurd (some_sent _ z)

  module _ (a : Awaited) (at : h.stage ≡ Sending a) (took : TookBefore a.place taken) where
    -- the reply taken last, once more
    again : length reply ≡ 16 → repeats_taken a (reply_in reply) ≡ true → PassedOver h (pass_over a.place h).host reply taken
    again l e =
        let x = both (leb 1 a.place.block && not a.passed) _ e in
        let y = both (leb 1 a.place.block) _ x.0 in
        let w = both (eqb (reply_in reply).sequence (sequence_of (a.place.block - 1))) _ x.1 in
        let later = leb-true 1 a.place.block y.0 in
        let reads : reply_in reply ≡ record { sequence = sequence_of (a.place.block - 1); status = success_status }
        = ap₂ (λ (u v : ℕ). record { sequence = u; status = v }) (eqb-true _ _ w.0) (eqb-true _ _ w.1) in
        record {
          place = a.place;
          later = later;
          before = at ∙ ap (λ (u : Bool). Sending (record { place = a.place; passed = u })) (not-true a.passed y.1);
          after = refl;
          size = l;
          reads = reads;
          same = took later ∙ sym reads;
        }

    -- on a reply to a block
    block_silent : (n : ℕ) (last : Bool) → Silent (hears_block n last a h reply)
    unfolding hears_block
    block_silent n last =
        by_test Silent (not (eqb (length reply) 16)) _ _ (λ e. stops Foreign)
        (λ f. by_test Silent (repeats_taken a (reply_in reply)) _ _ (λ e z. inr (again (eqb-true _ _ (not-false _ f)) e))
        (λ e. by_test Silent (not (eqb (reply_in reply).sequence (sequence_of a.place.block))) _ _ (λ g. stops Foreign)
        (λ g. by_test Silent (eqb (reply_in reply).status success_status) _ _ (λ c. goes_on_lem n last a) (λ c. stops _))))

  -- every move, by its stage
  silent_by : (n : ℕ) (last : Bool) (g : HostStage) → h.stage ≡ g → has_ended g ≡ false → Took g taken → Silent (decide_in g n last h reply)
  unfolding decide_in packet_of
  silent_by n last Fresh z e w = λ q. absurd (some_sent _ q)
  silent_by n last Opening z e w = opening_cases Silent n h reply stops (λ q. absurd (some_sent _ q))
  silent_by n last Listing z e w = listing_cases Silent n h reply stops (offers n 0 h)
  silent_by n last (Offering t) z e w =
      offering_cases Silent n h reply stops t (λ q. absurd (some_sent _ q)) (λ s. offers n (t.entry + 1) (noted h s)) (λ l q. absurd (some_sent _ q))
  silent_by n last (Waiting t) z e w = waiting_cases Silent n h reply stops t (λ q. absurd (some_sent _ q))
  silent_by n last (Sending a) z e w = block_silent a z w n last
  silent_by n last Closing z e w = closing_cases Silent n h reply stops (λ c q. absurd (some_sent _ q))
  silent_by n last (Ended x) z e w = absurd (true≢false e)

-- what is known of the reply taken last, in each stage
took_in : (b : List ℕ) (h : Host) (g : HostStage) (xs : List Exchange) (ps : List (List ℕ)) → KnownAt b h g xs ps → Took g (last_taken xs)
took_in b h Fresh xs ps k = tt
took_in b h Opening xs ps k = tt
took_in b h Listing xs ps k = tt
took_in b h (Offering t) xs ps k = tt
took_in b h (Waiting t) xs ps k = tt
took_in b h (Sending a) xs ps k = k.shown.2
took_in b h Closing xs ps k = tt
took_in b h (Ended x) xs ps k = tt

-- a step that sends nothing ends the host, or passes over the reply
pub host_silent : HostSilent
unfolding host_steps
host_silent b token replies k bytes s t e z =
    let α = accepted b bytes s in
    let h = host_steps b token replies k in
    let m = step_at b token replies α s t k in
    subst (λ (x : Step). x.sent ≡ [] → (has_ended x.host.stage ≡ true) ⊎ PassedOver h.host x.host (replies k) (last_taken h.trace)) (sym m)
    (silent_by b h.host (replies k) (last_taken h.trace) (count_in b) (last_in b h.host.stage) h.host.stage refl e
    (took_in b h.host h.host.stage h.trace h.awaited (known_at b token replies α s t k).0)) z
