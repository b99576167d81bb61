-- Whole sessions of a host from C: by the step, and by the step over the contents that the check of the bundle leaves.
use Rattle.std.specs.Prelude.{ℕ, ◌≡◌, List, [], ◌∷◌, length}
use Rattle.wire.specs.Bytes.{Bytes}
use Rattle.host_bytes.specs.Layout.{contents_size}
use Rattle.host_bytes.specs.Promises.{Keeps}
use Rattle.c_host.specs.Check.{check_call}
use Rattle.c_host_step.specs.Step.{StepLeft, step_call, step_checked_call, step_checked_contents}

-- a session by the plain step: what each call answers and leaves; each is lent the record and the packet that the last one left
unfoldable pub session : (host packet bundle : List ℕ) → (replies : List (List ℕ)) → List StepLeft
session host packet bundle [] = []
session host packet bundle (reply ∷ replies) =
    step_call host bundle reply packet
    ∷ session (step_call host bundle reply packet).host (step_call host bundle reply packet).packet bundle replies

-- .. by the step over checked contents, which are lent as the last call left them
unfoldable pub checked_session : (host packet contents bundle : List ℕ) → (replies : List (List ℕ)) → List StepLeft
checked_session host packet contents bundle [] = []
checked_session host packet contents bundle (reply ∷ replies) =
    step_checked_call host contents bundle reply packet
    ∷ checked_session (step_checked_call host contents bundle reply packet).host (step_checked_call host contents bundle reply packet).packet
    (step_checked_contents host contents bundle reply packet) bundle replies

-- from any record, over the contents that the check of the bundle leaves, the one session is the other, whatever is heard
abbrev pub CheckedSessions : Type 0
CheckedSessions =
    (host packet contents bundle : List ℕ) (replies : List (List ℕ)) → Bytes bundle → length contents ≡ contents_size
    → checked_session host packet (check_call bundle contents).contents bundle replies ≡ session host packet bundle replies

-- .. and over any contents that the check of the bundle, or a step over it, left at whatever call, also where they are older than the record
abbrev pub KeptSessions : Type 0
KeptSessions =
    (host packet contents bundle : List ℕ) (replies : List (List ℕ)) → Bytes bundle → Keeps bundle contents
    → checked_session host packet contents bundle replies ≡ session host packet bundle replies
