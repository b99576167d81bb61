-- A block that is sent is of the entry in hand. Assumes nothing.
use mathlib.Core.Path.{◌≡◌, refl, subst}
use mathlib.Core.Bool.{Bool, true, false, cond}
use mathlib.Core.List.{List}
use Prim.Native.Nat.{ℕ, ◌+◌}
use Rattle.host_record.specs.declared.record.Host.{Host}
use Rattle.host_record.specs.declared.record.HostStage.{HostStage}
use Rattle.host_record.specs.declared.record.HostStage.TheVariants.{Fresh, Opening, Listing, Offering, Waiting, Sending, Closing, Ended}
use Rattle.host_record.specs.declared.record.End.{End}
use Rattle.host_record.specs.Fits.{record_breaks, last_of, in_hand}
use Rattle.host_decide.specs.declared.Action.{Action}
use Rattle.host_decide.specs.declared.Action.TheVariants.{Nothing, Information, Notify, Offer, Block}
use Rattle.host_decide.specs.declared.Move.{Move}
use Rattle.std.specs.Prelude.{Some, None}
use Rattle.host_decide.specs.Decide.{ends, offer_from, noted, completes, decide_in, decide_of, decision_of, BlocksInHand}
use Rattle.host_decide.proofs.Moves.{offer_cases, opening_cases, listing_cases, offering_cases, waiting_cases, sending_cases, closing_cases}

-- a block is of this entry
abbrev pub OfEntry : ℕ → Action → Type 0
OfEntry hand Nothing = Unit {0}
OfEntry hand (Information code) = Unit {0}
OfEntry hand Notify = Unit {0}
OfEntry hand (Offer entry) = Unit {0}
OfEntry hand (Block p) = p.entry ≡ hand

module _ (n : ℕ) (last : Bool) (h : Host) (reply : List ℕ) where
  abbrev Handed : HostStage → Move → Type 0
  Handed s m = OfEntry (in_hand s) m.action

  stops : (s : HostStage) (e : End) → Handed s (ends h e)
  stops s e = tt

  offers : (s : HostStage) (e : ℕ) (g : Host) → Handed s (offer_from n e g)
  offers s e g = offer_cases (Handed s) n e g (λ l. tt) tt

  handed : (s : HostStage) → Handed s (decide_in s n last h reply)
  unfolding decide_in
  handed Fresh = tt
  handed Opening = opening_cases (Handed Opening) n h reply (stops Opening) tt
  handed Listing = listing_cases (Handed Listing) n h reply (stops Listing) (offers Listing 0 h)
  handed (Offering t) =
      offering_cases (Handed (Offering t)) n h reply (stops (Offering t)) t refl (λ status. offers (Offering t) (t.entry + 1) (noted h status)) (λ m. tt)
  handed (Waiting t) = waiting_cases (Handed (Waiting t)) n h reply (stops (Waiting t)) t tt
  handed (Sending a) =
      sending_cases (Handed (Sending a)) n last a h reply (λ u. stops (Sending a)) (λ u v. tt)
      (λ u v. offers (Sending a) (a.place.entry + 1) (completes h a.place.entry))
      (λ u v. refl)
  handed Closing = closing_cases (Handed Closing) n h reply (stops Closing) (λ u. tt)
  handed (Ended e) = tt

-- so it is of every decision
pub decided_in_hand : (n : ℕ) (last : Bool) (h : Host) (reply : List ℕ) → OfEntry (in_hand h.stage) (decide_of n last h reply).action
decided_in_hand n last h reply = handed n last h reply h.stage

-- what a decision that moves decides
moves_is : (t : Bool) (d m : Move) → cond t None (Some d) ≡ Some m → d ≡ m
moves_is true d m e = cc
moves_is false d m e = cc

pub blocks_in_hand : BlocksInHand
unfolding decision_of
blocks_in_hand n k h reply m p e f =
    let d = decide_of n (last_of k h.stage) h reply in
    subst (OfEntry (in_hand h.stage)) f
    (subst (λ (x : Move). OfEntry (in_hand h.stage) x.action) (moves_is (record_breaks n k h) d m e) (decided_in_hand n (last_of k h.stage) h reply))
