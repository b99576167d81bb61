-- The host always ends, whatever it receives: N1 is never met, every packet is one that a builder answers, and an ended record is reached within the bound.
-- Assumes nothing.
use mathlib.Core.Path.{◌≡◌, refl, sym, ap, subst, ◌∙◌}
use mathlib.Core.Logic.{◌⊎◌, inl, inr}
use mathlib.Core.Bool.{Bool, true, false, false≢true}
use mathlib.Core.List.{List}
use Prim.Native.Nat.{ℕ, zero, suc, ◌+◌, ◌≤◌, ◌<◌}
use native.Mathlib.Omega.{arith}
use Rattle.bundle_layout.specs.Layout.{count_in}
use Rattle.bundle_layout.specs.Rows as bundle
use Rattle.bundle.proofs.Accepted.{Accepted, accepted}
use Rattle.host_record.specs.Record.{has_ended}
use Rattle.host_decide.specs.Decide.{decide_in, decide_of}
use Rattle.host_packet.specs.Answer.{Step}
use Rattle.host.specs.Step.{last_in, moved, step_of}
use Rattle.host_record.specs.declared.record.Host.{Host}
use Rattle.host_record.specs.declared.record.HostStage.{HostStage}
use Rattle.host_record.specs.declared.record.HostStage.TheVariants.{Fresh, Opening, Listing, Offering, Waiting, Sending, Closing, Ended}
use Rattle.host_record.specs.declared.record.End.{End}
use Rattle.host_decide.specs.declared.Move.{Move}
use Rattle.host_decide.specs.declared.Action.TheVariants.{Nothing}
use Rattle.update.specs.Run.{bound_of}
use Rattle.wire.specs.Checks.{All}
use Rattle.update.specs.Ends.{host_steps, Built, HostEnds}
use Rattle.update.proofs.Packets.{all_built}
use Rattle.update.proofs.Ready.{Ready, Goes, steps_left, goes, step_moves, fresh_ready, fresh_steps, owed_step}

-- a stage that has ended is an end
is_end : (g : HostStage) → has_ended g ≡ true → (e : End) × (g ≡ Ended e)
is_end Fresh h = absurd (false≢true h)
is_end Opening h = absurd (false≢true h)
is_end Listing h = absurd (false≢true h)
is_end (Offering t) h = absurd (false≢true h)
is_end (Waiting t) h = absurd (false≢true h)
is_end (Sending a) h = absurd (false≢true h)
is_end Closing h = absurd (false≢true h)
is_end (Ended e) h = (e, refl)

-- an ended record does nothing more
pub stays : (g : HostStage) (n : ℕ) (last : Bool) (h : Host) (reply : List ℕ) → has_ended g ≡ true
    → decide_in g n last h reply ≡ record { action = Nothing; host = h }
unfolding decide_in
stays g n last h reply e = rw (is_end g e).1

module _ (b : List ℕ) (token : ℕ) (replies : ℕ → List ℕ) (α : Accepted b) (s : bundle.bundle_row b ≡ bundle.served) (t : token < 256) where
  -- the record before step k
  abbrev pub host_at : ℕ → Host
  host_at k = (host_steps b token replies k).host

  -- the move of step k
  abbrev pub move_at : ℕ → Move
  move_at k = decide_of (count_in b) (last_in b (host_at k).stage) (host_at k) (replies k)

  -- every record is ready
  pub ready_at : (k : ℕ) → Ready b (host_at k)
  unfolding host_steps
  ready_at zero = fresh_ready b α token t
  ready_at (suc k) =
      let r = ready_at k in
      subst (λ (x : Step). Ready b x.host) (sym (step_moves b α s (host_at k) (replies k) r)) (goes b α (host_at k) (replies k) r).ready

  -- so every step is its move
  pub step_at : (k : ℕ) → step_of b (host_at k) (replies k) ≡ moved b (move_at k)
  step_at k = step_moves b α s (host_at k) (replies k) (ready_at k)

  -- what each move leaves
  pub goes_at : (k : ℕ) → Goes b (steps_left b (host_at k).passes (host_at k).stage) (move_at k)
  goes_at k = goes b α (host_at k) (replies k) (ready_at k)

  -- the next record is what the move leaves
  pub next_at : (k : ℕ) → host_at (suc k) ≡ (move_at k).host
  unfolding host_steps
  next_at k = ap (λ (x : Step). x.host) (step_at k)

  -- an ended record stays
  pub ended_at : (k : ℕ) → has_ended (host_at k).stage ≡ true → host_at (suc k) ≡ host_at k
  ended_at k e = next_at k ∙ ap (λ (m : Move). m.host) (stays (host_at k).stage (count_in b) (last_in b (host_at k).stage) (host_at k) (replies k) e)

  -- after k steps: an end, or at most as many steps left as the bound has more than k
  Counts : (k : ℕ) → Host → Type 0
  Counts k h = (has_ended h.stage ≡ true) ⊎ (steps_left b h.passes h.stage + k ≤ bound_of b)

  -- so it is after every number of steps
  counts_at : (k : ℕ) → Counts k (host_at k)
  unfolding host_steps Counts
  counts_at zero = inr (omega (arith, fresh_steps b α))
  counts_at (suc k) = subst (Counts (suc k)) (sym (next_at k)) (go (counts_at k) (goes_at k).fewer)
    where
      go : (has_ended (host_at k).stage ≡ true) ⊎ (steps_left b (host_at k).passes (host_at k).stage + k ≤ bound_of b)
          → (has_ended (move_at k).host.stage ≡ true) ⊎ (steps_left b (move_at k).host.passes (move_at k).host.stage < steps_left b (host_at k).passes (host_at k).stage)
          → (has_ended (move_at k).host.stage ≡ true) ⊎ (steps_left b (move_at k).host.passes (move_at k).host.stage + suc k ≤ bound_of b)
      go (inl e) c = inl (ap (λ (m : Move). has_ended m.host.stage) (stays (host_at k).stage (count_in b) (last_in b (host_at k).stage) (host_at k) (replies k) e) ∙ e)
      go (inr e) (inl c) = inl c
      go (inr e) (inr c) = inr (omega arith)

  -- after as many steps as the bound, a record that had not ended would have a step too many
  ends_at : (x : Bool) → has_ended (host_at (bound_of b)).stage ≡ x → Counts (bound_of b) (host_at (bound_of b)) → has_ended (host_at (bound_of b)).stage ≡ true
  unfolding Counts
  ends_at true e c = e
  ends_at false e (inl c) = c
  ends_at false e (inr c) =
      absurd (omega (arith, owed_step b α (host_at (bound_of b)).passes (host_at (bound_of b)).stage (ready_at (bound_of b)).stage e))

  -- every packet is one that a builder answers
  built_at : (k : ℕ) → All Built (step_of b (host_at k) (replies k)).sent
  built_at k =
      subst (λ (x : Step). All Built x.sent) (sym (step_at k))
      (all_built b α (move_at k).host.token (move_at k).action (goes_at k).ready.token (goes_at k).action)

-- the host always ends
pub host_ends : HostEnds
host_ends b token replies bytes s t =
    let α = accepted b bytes s in
    record {
      served = λ k. ap (λ (x : Step). x.row) (step_at b token replies α s t k);
      ended = ends_at b token replies α s t _ refl (counts_at b token replies α s t (bound_of b));
      built = built_at b token replies α s t;
    }
