-- A session by the step over checked contents is the session by the plain step. Assumes nothing.
use mathlib.Core.Path.{◌≡◌, refl, sym, ap, subst, ◌∙◌}
use mathlib.Core.Bool.{Bool, true, false, cond}
use mathlib.Core.List.{List, [], ◌∷◌}
use Prim.Native.Nat.{ℕ}
use borrow.Author.Tests.{eq-eqb}
use lib.Dec.{eqb}
use lib.ListN.{length}
use Rattle.wire.specs.Bytes.{Bytes}
use Rattle.wire.specs.Codes.{long_size}
use Rattle.bundle.specs.Contents.{check_of}
use Rattle.host_bytes.specs.Layout.{host_size, contents_size, read_host, no_place, contents_bytes, contents_after}
use Rattle.host_bytes.specs.Promises.{Keeps}
use Rattle.host_bytes.proofs.Kept.{check_keeps, kept_contents_step, kept_are_contents}
use Rattle.c_host.specs.Check.{check_call}
use Rattle.c_host_step.specs.Step.{StepLeft, step_call, inner_over, step_checked_call, step_checked_contents}
use Rattle.c_host_step.specs.Sessions.{session, checked_session, CheckedSessions, KeptSessions}

-- one call over contents that were left for the bundle: it is the plain step, and leaves such contents again
module _ (host contents bundle reply packet : List ℕ) (bytes : Bytes bundle) (k : Keeps bundle contents) where
  call_same : step_checked_call host contents bundle reply packet ≡ step_call host bundle reply packet
  unfolding step_checked_call step_call
  call_same = rw (kept_are_contents bundle contents bytes k, (kept_contents_step bundle contents (read_host host) reply bytes k).0)

  call_keeps : Keeps bundle (step_checked_contents host contents bundle reply packet)
  unfolding step_checked_contents
  call_keeps = rw (kept_are_contents bundle contents bytes k) (go (eqb (length host) host_size) (eqb (length packet) long_size))
    where
      go : (s t : Bool) → Keeps bundle (cond s (cond t (contents_after contents (inner_over host contents bundle reply)) contents) contents)
      go true true = (kept_contents_step bundle contents (read_host host) reply bytes k).1
      go true false = k
      go false t = k

-- and so is every session
sessions : (bundle : List ℕ) → Bytes bundle → (replies : List (List ℕ)) (host packet contents : List ℕ) → Keeps bundle contents
    → checked_session host packet contents bundle replies ≡ session host packet bundle replies
unfolding session checked_session
sessions bundle bytes [] host packet contents k = refl
sessions bundle bytes (reply ∷ replies) host packet contents k =
    let e = call_same host contents bundle reply packet bytes k in
    ap (λ (s : StepLeft). s ∷ checked_session s.host s.packet (step_checked_contents host contents bundle reply packet) bundle replies) e
    ∙ ap (λ (l : List StepLeft). step_call host bundle reply packet ∷ l)
    (sessions bundle bytes replies _ _ _ (call_keeps host contents bundle reply packet bytes k))

-- the check leaves contents for its bundle
check_leaves : (bundle contents : List ℕ) → length contents ≡ contents_size → (check_call bundle contents).contents ≡ contents_bytes (check_of bundle) no_place 0
unfolding check_call
check_leaves bundle contents h = rw (eq-eqb (length contents) contents_size h)

pub kept_sessions : KeptSessions
kept_sessions host packet contents bundle replies bytes k = sessions bundle bytes replies host packet contents k

pub checked_sessions : CheckedSessions
checked_sessions host packet contents bundle replies bytes h =
    kept_sessions host packet _ bundle replies bytes (subst (Keeps bundle) (sym (check_leaves bundle contents h)) (check_keeps bundle bytes))
