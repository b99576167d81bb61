-- A run is the exchange of its host with the replies that it is handed: no step of it is refused, it ends within the bound, and an ended run stays. Assumes
-- nothing.
use Prim.Native.Nat.{ℕ, zero, suc, ◌+◌, ◌<◌}
use mathlib.Core.Path.{◌≡◌, refl, sym, ap, subst, ◌∙◌}
use mathlib.Core.Logic.{◌⊎◌}
use mathlib.Core.Bool.{Bool, true, false, cond, ◌&&◌}
use mathlib.Core.List.{List, [], ◌∷◌, append-nil}
use native.Mathlib.Nat.{zero-add, suc-add, add_comm}
use lib.ListN.{length}
use Rattle.bundle_layout.specs.Layout.{count_in}
use Rattle.bundle_layout.specs.Rows as bundle
use Rattle.bundle.proofs.Accepted.{accepted}
use Rattle.wire.specs.Bytes.{Bytes}
use Rattle.device.specs.declared.record.Device.{Device}
use Rattle.host_record.specs.Record.{has_ended}
use Rattle.host_packet.specs.Answer.{Step, row_n, refused_by}
use Rattle.host.specs.Step.{step_of, step_by, step_on, breaks_n1, moved, packet_of, last_in}
use Rattle.host_decide.specs.Decide.{decide_of}
use Rattle.host_decide.specs.declared.Action.TheVariants.{Nothing}
use Rattle.host_decide.specs.declared.Move.{Move}
use Rattle.update.specs.Heard.{last_taken}
use Rattle.update.specs.Run.{System, Schedule, once, is_middle, arrives, heard, delivered, stepped, turned, bound_of, exchange, run, start}
use Rattle.update.specs.Ends.{HostRun, host_stepped, host_steps, Counted, PassedOver, EndStays, RunEnds}
use Rattle.update.proofs.Leads.{steps, goes, going, going_next}
use Rattle.update.proofs.Ends.{stays, step_at, host_ends}
use Rattle.update.proofs.Counts.{host_counts}
use Rattle.update.proofs.Silent.{host_silent}

-- an ended host does nothing more, whatever row it meets
pub end_stays : EndStays
unfolding step_of step_on packet_of
end_stays b h e reply = by (bundle.bundle_row b)
  where
    still : decide_of (count_in b) (last_in b h.stage) h reply ≡ record { action = Nothing; host = h }
    still = stays h.stage (count_in b) (last_in b h.stage) h reply e

    on : (x : Bool) → ((cond x (refused_by (row_n 1) h) (steps b once h reply)).sent ≡ []) × ((cond x (refused_by (row_n 1) h) (steps b once h reply)).host ≡ h)
    on true = (refl, refl)
    on false = (ap (λ (m : Move). (moved b m).sent) still, ap (λ (m : Move). m.host) still)

    by : (row : bundle.Row) → ((step_by row b h reply).sent ≡ []) × ((step_by row b h reply).host ≡ h)
    by bundle.served = on (breaks_n1 b h)
    by (bundle.row_b k entry) = (refl, refl)

-- the host of a system, with what it awaits and the list
abbrev host_of : System → HostRun
host_of s = record { host = s.host; awaited = s.awaited; trace = s.trace }

-- what arrives changes nothing of it
delivered_host : (twice : Schedule) (ps : List (List ℕ)) (s : System) → host_of (delivered twice ps s) ≡ host_of s
delivered_host twice [] s = refl
delivered_host twice (p ∷ ps) s = go (is_middle p && twice (length s.trace))
  where
    go : (x : Bool) → host_of (cond x (arrives p (arrives p s)) (arrives p s)) ≡ host_of s
    go true = refl
    go false = refl

-- so a turn is a step of it
pub turned_host : (twice : Schedule) (x : Step) (s : System) → host_of (turned twice x s) ≡ host_stepped x (heard s.replies) (host_of s)
unfolding turned
turned_host twice x s = delivered_host twice x.sent (stepped x s)

module _ (b : List ℕ) (twice : Schedule) where
  -- one turn more
  pub run_next : (k : ℕ) (s : System) → run b twice (suc k) s ≡ exchange b twice (run b twice k s)
  unfolding run
  run_next zero s = refl
  run_next (suc k) s = run_next k (exchange b twice s)

  -- m turns, then n
  pub run_then : (m n : ℕ) (s : System) → run b twice (m + n) s ≡ run b twice n (run b twice m s)
  unfolding run
  run_then zero n s = rw zero-add
  run_then (suc m) n s = rw suc-add (run_then m n (exchange b twice s))

  -- where the host has ended there is no further turn
  ended_once : (s : System) → has_ended s.host.stage ≡ true → exchange b twice s ≡ s
  unfolding exchange
  ended_once s e = rw e

  -- however many follow
  pub ended_stays : (n : ℕ) (s : System) → has_ended s.host.stage ≡ true → run b twice n s ≡ s
  unfolding run
  ended_stays zero s e = refl
  ended_stays (suc n) s e = rw (ended_once s e) (ended_stays n s e)

  -- a turn is a step of the host, also where it has ended and awaits nothing
  exchange_host : (s : System) → (has_ended s.host.stage ≡ true → s.awaited ≡ [])
      → host_stepped (step_of b s.host (heard s.replies)) (heard s.replies) (host_of s) ≡ host_of (exchange b twice s)
  unfolding exchange
  exchange_host s none = go (has_ended s.host.stage) refl
    where
      go : (y : Bool) → has_ended s.host.stage ≡ y
          → host_stepped (step_of b s.host (heard s.replies)) (heard s.replies) (host_of s)
          ≡ host_of (cond (has_ended s.host.stage) s (turned twice (step_of b s.host (heard s.replies)) s))
      go true e =
          let z = end_stays b s.host e (heard s.replies) in
          rw (z.0, z.1, e, none e, append-nil) refl
      go false e = rw e (sym (turned_host twice (step_of b s.host (heard s.replies)) s))

  module _ (token : ℕ) (d : Device) (staging reply : List ℕ) (bytes : Bytes b) (accept : bundle.bundle_row b ≡ bundle.served) (small : token < 256) where
    -- the run, turn by turn
    abbrev pub at : ℕ → System
    at k = run b twice k (start token d staging reply)

    -- the reply that step k is handed
    abbrev pub hears : ℕ → List ℕ
    hears k = heard (at k).replies

    -- its host is that of `host_steps`
    host_is : (k : ℕ) → host_steps b token hears k ≡ host_of (at k)
    unfolding host_steps run
    host_is zero = refl
    host_is (suc k) =
        ap (λ (r : HostRun). host_stepped (step_of b r.host (hears k)) (hears k) r) (host_is k)
        ∙ exchange_host (at k)
        (λ e. subst (λ (r : HostRun). has_ended r.host.stage ≡ true → r.awaited ≡ []) (host_is k) (λ w. (host_counts b token hears k bytes accept small w).0) e)
        ∙ ap host_of (sym (run_next k (start token d staging reply)))

    -- no step is refused
    pub step_is : (k : ℕ) → step_of b (at k).host (hears k) ≡ steps b twice (at k).host (hears k)
    step_is k =
        subst (λ (r : HostRun). step_of b r.host (hears k) ≡ steps b twice r.host (hears k)) (host_is k)
        (step_at b token hears (accepted b bytes accept) accept small k)

    -- so the run is the run without its rows
    pub run_goes : (k : ℕ) → at k ≡ going b twice k (start token d staging reply)
    unfolding run exchange goes going
    run_goes zero = refl
    run_goes (suc k) =
        run_next k (start token d staging reply) ∙ ap (λ (x : Step). cond (has_ended (at k).host.stage) (at k) (turned twice x (at k))) (step_is k)
        ∙ ap (goes b twice) (run_goes k) ∙ sym (going_next b twice k (start token d staging reply))

    -- the host has ended within the bound
    pub ended_within : has_ended (at (bound_of b)).host.stage ≡ true
    ended_within = subst (λ (r : HostRun). has_ended r.host.stage ≡ true) (host_is (bound_of b)) (host_ends b token hears bytes accept small).ended

    -- so where it has ended, the run is at its last
    pub ended_last : (k : ℕ) → has_ended (at k).host.stage ≡ true → at (bound_of b) ≡ at k
    ended_last k e =
        sym (ended_stays k (at (bound_of b)) ended_within) ∙ sym (run_then (bound_of b) k (start token d staging reply))
        ∙ ap (λ (n : ℕ). run b twice n (start token d staging reply)) (add_comm (bound_of b) k)
        ∙ run_then k (bound_of b) (start token d staging reply) ∙ ended_stays (bound_of b) (at k) e

    -- its counts are those of the list
    pub run_counts : (k : ℕ) → has_ended (at k).host.stage ≡ true → Counted b (at k).host (at k).trace
    run_counts k e =
        subst (λ (r : HostRun). has_ended r.host.stage ≡ true → Counted b r.host r.trace) (host_is k)
        (λ w. (host_counts b token hears k bytes accept small w).1) e

    -- a step of it that sends nothing ends the host or passes over a reply
    pub run_silent : (k : ℕ) → has_ended (at k).host.stage ≡ false → (step_of b (at k).host (hears k)).sent ≡ []
        → (has_ended (step_of b (at k).host (hears k)).host.stage ≡ true) ⊎ PassedOver (at k).host (step_of b (at k).host (hears k)).host (hears k) (last_taken (at k).trace)
    unfolding host_steps
    run_silent k =
        subst (λ (r : HostRun). has_ended r.host.stage ≡ false → (step_of b r.host (hears k)).sent ≡ []
        → (has_ended (step_of b r.host (hears k)).host.stage ≡ true) ⊎ PassedOver r.host (step_of b r.host (hears k)).host (hears k) (last_taken r.trace))
        (host_is k) (host_silent b token hears k bytes accept small)

-- a run always ends, and stays
pub run_ends : RunEnds
run_ends b twice token d staging reply bytes accept small =
    let e = ended_within b twice token d staging reply bytes accept small in
    let s = at b twice token d staging reply bytes accept small (bound_of b) in
    (e, end_stays b s.host e, λ m. ended_stays b twice m s e)
