-- The run without its rows, as a relation: what the proofs of a whole run use of it. Assumes nothing.
use Prim.Native.Nat.{ℕ, zero, suc, ◌+◌, ◌-◌, ◌<◌}
use mathlib.Core.Path.{◌≡◌, refl, sym, ap, subst, ◌∙◌}
use mathlib.Core.Bool.{Bool, true, false, cond, ◌&&◌, false≢true}
use mathlib.Core.List.{List, [], ◌∷◌, ◌++◌, append_assoc}
use native.Mathlib.Nat.{zero-add, suc-add, not-suc-le-zero, le_of_suc-le-suc}
use native.Mathlib.Decide.{dec_lt}
use native.Mathlib.Omega.{arith}
use lib.ListN.{length, length-append}
use Rattle.bundle_layout.specs.Layout.{count_in}
use Rattle.device.proofs.Calls.{answered_with}
use Rattle.device.specs.declared.record.Device.{Device}
use Rattle.std.specs.Prelude.{None}
use Rattle.device.proofs.Calls.{Answered}
use Rattle.host_record.specs.Record.{has_ended}
use Rattle.host_decide.specs.Decide.{decide_of}
use Rattle.host_packet.specs.Answer.{Step}
use Rattle.host.specs.Step.{last_in, moved}
use Rattle.host_record.specs.declared.record.Host.{Host}
use Rattle.update.specs.Trace.{Exchange}
use Rattle.update.specs.Run.{System, Schedule, is_middle, answer_to, left_by, arrives, heard, turned}
use Rattle.update.specs.Demand.{Repeats}

-- a packet and its reply
abbrev pub said : (packet reply : List ℕ) → Exchange
said packet reply = record { packet = packet; reply = reply }

-- one packet more
pub more_length : (trace : List Exchange) (x : Exchange) → length (trace ++ (x ∷ [])) ≡ suc (length trace)
more_length trace x = length-append trace (x ∷ []) ∙ omega arith

-- the packet p was sent, and these replies are on their way
abbrev pub sending : (p : List ℕ) → Host → Device → (s : List ℕ) → (replies : List (List ℕ)) → List Exchange → System
sending p h d s replies trace = record { host = h; device = d; staging = s; replies = replies; awaited = p ∷ []; trace = trace }

-- .. and arrives, once or twice
abbrev pub arriving : (twice : Bool) → (p : List ℕ) → Host → Device → (s : List ℕ) → (replies : List (List ℕ)) → List Exchange → System
arriving twice p h d s replies trace = cond twice (arrives p (arrives p (sending p h d s replies trace))) (arrives p (sending p h d s replies trace))

-- the reply to a copy
abbrev pub copies : Bool → (reply : List ℕ) → List (List ℕ)
copies true reply = reply ∷ []
copies false reply = []

-- a packet is answered by one reply, and a copy of it, where one arrives, by the same, which changes nothing
pub record Arrives (twice : Bool) (p : List ℕ) (d d' : Device) (s s' reply : List ℕ) : Type 0 where
  pub answer : answer_to p d s ≡ answered_with reply None d'
  pub bytes : left_by p d s ≡ s'
  pub copy : twice ≡ true → (answer_to p d' s' ≡ answered_with reply None d') × (left_by p d' s' ≡ s')

-- one that arrives once
pub arrives_once : {p : List ℕ} {d d' : Device} {s s' reply : List ℕ} → answer_to p d s ≡ answered_with reply None d' → left_by p d s ≡ s'
    → Arrives false p d d' s s' reply
arrives_once a e = record { answer = a; bytes = e; copy = λ z. absurd (false≢true z) }

-- what has arrived
arrived_once : (p : List ℕ) (h : Host) (d d' : Device) (s s' r : List ℕ) (q : List (List ℕ)) (trace : List Exchange)
    → answer_to p d s ≡ answered_with r None d' → left_by p d s ≡ s'
    → arrives p (sending p h d s q trace) ≡ sending p h d' s' (q ++ (r ∷ [])) trace
arrived_once p h d d' s s' r q trace a e = rw (a, e)

pub arrived : (twice : Bool) (p : List ℕ) (h : Host) (d d' : Device) (s s' r : List ℕ) (q : List (List ℕ)) (trace : List Exchange)
    → Arrives twice p d d' s s' r → arriving twice p h d s q trace ≡ sending p h d' s' (q ++ (r ∷ copies twice r)) trace
arrived false p h d d' s s' r q trace a = arrived_once p h d d' s s' r q trace a.answer a.bytes
arrived true p h d d' s s' r q trace a =
    ap (arrives p) (arrived_once p h d d' s s' r q trace a.answer a.bytes)
    ∙ arrived_once p h d' d' s' s' r (q ++ (r ∷ [])) trace (a.copy refl).0 (a.copy refl).1
    ∙ ap (λ (x : List (List ℕ)). sending p h d' s' x trace) (append_assoc q (r ∷ []) (r ∷ []))

module _ (b : List ℕ) (twice : Schedule) where
  -- the step of a host that breaks no row
  abbrev pub steps : Host → (reply : List ℕ) → Step
  steps h reply = moved b (decide_of (count_in b) (last_in b h.stage) h reply)

  -- the step of a system's host
  abbrev pub steps_in : System → Step
  steps_in s = steps s.host (heard s.replies)

  -- one turn of it
  unfoldable pub goes : System → System
  goes s = cond (has_ended s.host.stage) s (turned twice (steps_in s) s)

  -- n turns of it
  unfoldable pub going : ℕ → System → System
  going zero s = s
  going (suc n) s = going n (goes s)

  -- a packet is served, with exactly one reply; and where it is a block that is neither first nor last, a copy of it gets the same and changes nothing
  pub record Serves (p : List ℕ) (d : Device) (s : List ℕ) : Type 0 where
    pub answered : Answered (answer_to p d s)
    pub repeats : is_middle p ≡ true → Repeats p d s

  -- what is sent is served
  abbrev pub Fine : System → Type 0
  Fine s = (p : List ℕ) → (steps_in s).sent ≡ p ∷ [] → Serves p s.device s.staging

  -- a packet that is no such block
  pub serves_plain : {p : List ℕ} {d : Device} {s : List ℕ} → is_middle p ≡ false → Answered (answer_to p d s) → Serves p d s
  serves_plain m a = record { answered = a; repeats = λ z. absurd (false≢true (sym m ∙ z)) }

  -- a turn leads from one system to another
  pub record Goes (s s' : System) : Type 0 where
    pub comes : goes s ≡ s'
    pub fine : Fine s

  -- some turns lead from one system to another
  pub record Leads (s s' : System) : Type 0 where
    pub turns : ℕ
    pub comes : going turns s ≡ s'
    pub fine : (k : ℕ) → k < turns → Fine (going k s)

  -- no turn
  pub leads_none : (s : System) → Leads s s
  unfolding going
  leads_none s = record { turns = zero; comes = refl; fine = λ k l. absurd (not-suc-le-zero l) }

  -- one turn, then others
  pub leads_step : {s s' s'' : System} → Goes s s' → Leads s' s'' → Leads s s''
  unfolding going
  leads_step {s} {s'} g l =
      record { turns = suc l.turns; comes = ap (going l.turns) g.comes ∙ l.comes; fine = each }
    where
      each : (k : ℕ) → k < suc l.turns → Fine (going k s)
      each zero h = g.fine
      each (suc k) h = subst (λ (x : System). Fine (going k x)) (sym g.comes) (l.fine k (le_of_suc-le-suc h))

  -- m turns, then n
  going_then : (m n : ℕ) (s : System) → going (m + n) s ≡ going n (going m s)
  unfolding going
  going_then zero n s = rw zero-add
  going_then (suc m) n s = rw suc-add (going_then m n (goes s))

  -- one turn more
  pub going_next : (n : ℕ) (s : System) → going (suc n) s ≡ goes (going n s)
  unfolding going
  going_next zero s = refl
  going_next (suc n) s = going_next n (goes s)

  -- turns, then others
  pub leads_then : {s s' s'' : System} → Leads s s' → Leads s' s'' → Leads s s''
  leads_then {s} {s'} k l =
      record {
        turns = k.turns + l.turns;
        comes = going_then k.turns l.turns s ∙ ap (going l.turns) k.comes ∙ l.comes;
        fine = λ i h. go i h (dec_lt i k.turns);
      }
    where
      go : (i : ℕ) → i < k.turns + l.turns → Dec (i < k.turns) → Fine (going i s)
      go i h (yes q) = k.fine i q
      go i h (no q) =
          let j = i - k.turns in
          let e : i ≡ k.turns + j = omega arith in
          subst Fine (sym (ap (λ (n : ℕ). going n s) e ∙ going_then k.turns j s ∙ ap (going j) k.comes)) (l.fine j (omega arith))

  -- what the host makes of a reply is sent
  answers : (p p' : List ℕ) (h h' : Host) (d : Device) (s r : List ℕ) (q : List (List ℕ)) (trace : List Exchange) (c' : Bool)
      → has_ended h.stage ≡ false → (steps h r).sent ≡ p' ∷ [] → (steps h r).host ≡ h'
      → (is_middle p' && twice (length (trace ++ (said p r ∷ [])))) ≡ c' → Serves p' d s
      → Goes (sending p h d s (r ∷ q) trace) (arriving c' p' h' d s q (trace ++ (said p r ∷ [])))
  unfolding goes turned
  answers p p' h h' d s r q trace c' z m n c f = record { comes = rw (z, m, n, c); fine = fine }
    where
      fine : (x : List ℕ) → (steps h r).sent ≡ x ∷ [] → Serves x d s
      fine x w = let y : p' ≡ x = cc in rw y at f

  -- a packet is answered, once or twice, and what the host makes of the reply is sent
  pub turn : (c c' : Bool) (p p' : List ℕ) (h h' : Host) (d d' : Device) (s s' r : List ℕ) (trace : List Exchange)
      → Arrives c p d d' s s' r → has_ended h.stage ≡ false → (steps h r).sent ≡ p' ∷ [] → (steps h r).host ≡ h'
      → (is_middle p' && twice (length (trace ++ (said p r ∷ [])))) ≡ c' → Serves p' d' s'
      → Goes (arriving c p h d s [] trace) (arriving c' p' h' d' s' (copies c r) (trace ++ (said p r ∷ [])))
  turn c c' p p' h h' d d' s s' r trace a z m n w f =
      subst (λ (x : System). Goes x (arriving c' p' h' d' s' (copies c r) (trace ++ (said p r ∷ [])))) (sym (arrived c p h d d' s s' r [] trace a))
      (answers p p' h h' d' s' r (copies c r) trace c' z m n w f)

  -- a reply that was on its way before is passed over
  passes : (p : List ℕ) (h h' : Host) (d : Device) (s x : List ℕ) (q : List (List ℕ)) (trace : List Exchange)
      → has_ended h.stage ≡ false → (steps h x).sent ≡ [] → (steps h x).host ≡ h' → has_ended h'.stage ≡ false
      → Goes (sending p h d s (x ∷ q) trace) (sending p h' d s q trace)
  unfolding goes turned
  passes p h h' d s x q trace z m n e = record { comes = rw (z, m, n, e); fine = λ y w. let u : ◌≡◌ {A = ℕ} 0 1 = cc in absurd (omega arith) }

  pub pass : (c : Bool) (p : List ℕ) (h h' : Host) (d : Device) (s x : List ℕ) (trace : List Exchange)
      → has_ended h.stage ≡ false → (steps h x).sent ≡ [] → (steps h x).host ≡ h' → has_ended h'.stage ≡ false
      → Goes (arriving c p h d s (x ∷ []) trace) (arriving c p h' d s [] trace)
  pass false p h h' d s x trace z m n e = passes p h h' _ _ x _ trace z m n e
  pass true p h h' d s x trace z m n e = passes p h h' _ _ x _ trace z m n e

  -- or nothing is sent, and the host has ended
  stops : (p : List ℕ) (h h' : Host) (d : Device) (s r : List ℕ) (q : List (List ℕ)) (trace : List Exchange)
      → has_ended h.stage ≡ false → (steps h r).sent ≡ [] → (steps h r).host ≡ h' → has_ended h'.stage ≡ true
      → Goes (sending p h d s (r ∷ q) trace) (record { host = h'; device = d; staging = s; replies = q; awaited = []; trace = trace ++ (said p r ∷ []) })
  unfolding goes turned
  stops p h h' d s r q trace z m n e = record { comes = rw (z, m, n, e); fine = λ y w. let u : ◌≡◌ {A = ℕ} 0 1 = cc in absurd (omega arith) }

  pub stop : (p : List ℕ) (h h' : Host) (d d' : Device) (s s' r : List ℕ) (trace : List Exchange)
      → Arrives false p d d' s s' r → has_ended h.stage ≡ false → (steps h r).sent ≡ [] → (steps h r).host ≡ h' → has_ended h'.stage ≡ true
      → Goes (arriving false p h d s [] trace) (record { host = h'; device = d'; staging = s'; replies = []; awaited = []; trace = trace ++ (said p r ∷ []) })
  stop p h h' d d' s s' r trace a z m n e =
      subst (λ (x : System). Goes x (record { host = h'; device = d'; staging = s'; replies = []; awaited = []; trace = trace ++ (said p r ∷ []) }))
      (sym (arrived false p h d d' s s' r [] trace a)) (stops p h h' d' s' r [] trace z m n e)
