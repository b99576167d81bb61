-- Demand 3, a single claim about a whole run (document 00, question 3; document 01, "The host"; document 02, A4).
use Rattle.std.specs.Prelude.{ℕ, ◌+◌, ◌*◌, ◌≤◌, ◌<◌, ◌≡◌, ◌⊎◌, ◌↔◌, true, false, List, [], ◌∷◌, T, length, Some}
use Rattle.wire.specs.Bytes.{Bytes}
use Rattle.device_component.specs.Record.{is_pending}
use Rattle.bundle_layout.specs.Layout.{count_in, offer_in, id_in, body_in}
use Rattle.bundle_layout.specs.Rows as rows
use Rattle.device.specs.Record.{FitsDevice, find, component}
use Rattle.device.specs.Refusals as device_rows
use Rattle.device.specs.declared.record.Device.{Device}
use Rattle.host_record.specs.Record as ending
use Rattle.host_record.specs.Record.{has_ended, report_of}
use Rattle.host_packet.specs.Answer.{Step}
use Rattle.host.specs.Step as host_step
use Rattle.host.specs.Step.{entry_at, blocks_at}
use Rattle.host_record.specs.declared.record.HostStage.TheVariants.{Ended}
use Rattle.host_record.specs.declared.record.End.TheVariants.{Done}
use Rattle.update.specs.Trace.{passes_in, completed_in}
use Rattle.update.specs.Run.{System, Schedule, once, is_middle, answer_to, left_by, heard, run, start, records_in, last_of}
use Rattle.update.specs.Answer as answer
use Rattle.update.specs.Answer.{Ran, ended}
use Rattle.update.specs.Heard.{last_taken}
use Rattle.update.specs.Ends.{Counted, completed_of, PassedOver, StaysEnded}
use Rattle.update_passes.specs.Sets.{Set}
use Rattle.update.specs.Claim.{offer_at, Good, Smallest, Leaves, Fills}

-- every body for a component that the device has is good
abbrev pub GoodBodies : (b : List ℕ) → Device → Type 0
GoodBodies b d = (i k : ℕ) → i < count_in b → find d (offer_at b i).id ≡ Some k → Good (component d k) (offer_at b i) (blocks_at b i)

-- the premise: a device state and a staging buffer that pass D1 and D2, a bundle that the check accepts, and a good body for each component that the
-- device has
pub record Premise (b : List ℕ) (token : ℕ) (d : Device) (staging : List ℕ) : Type 0 where
  pub small : token < 256
  pub fits : FitsDevice d
  pub bytes : Bytes staging
  pub bundle : Bytes b
  pub d1 : device_rows.breaks_d1 d ≡ false
  pub d2 : length staging ≡ d.staging_len
  pub accepted : rows.bundle_row b ≡ rows.served
  pub good : GoodBodies b d

-- staged in this run: the list shows a last content of entry i answered with status 0
abbrev pub staged_in : (b : List ℕ) → System → Set
staged_in b s i = completed_in 0 s.trace (id_in (entry_at b i))

-- a packet that arrives once more, at the device and the staging buffer that its first arrival left: the same row and the same replies, and nothing changes
pub record Repeats (p : List ℕ) (d : Device) (staging : List ℕ) : Type 0 where
  pub answer : answer_to p (answer_to p d staging).device (left_by p d staging) ≡ answer_to p d staging
  pub bytes : left_by p (answer_to p d staging).device (left_by p d staging) ≡ left_by p d staging

-- the step of the host in one turn
abbrev pub step_in : (b : List ℕ) → System → Step
step_in b s = host_step.step_of b s.host (heard s.replies)

-- one turn: no call is refused; what is sent gets exactly one reply, and a copy of a block that is neither first nor last gets the same; a step that sends nothing
-- ends the host or passes over a reply
pub record Turn (b : List ℕ) (s : System) : Type 0 where
  pub host : (step_in b s).row ≡ host_step.served
  pub device : (p : List ℕ) → (step_in b s).sent ≡ p ∷ []
      → ((answer_to p s.device s.staging).row ≡ device_rows.served) × (length (answer_to p s.device s.staging).sent ≡ 1)
  pub copy : (p : List ℕ) → (step_in b s).sent ≡ p ∷ [] → is_middle p ≡ true → Repeats p s.device s.staging
  pub silent : has_ended s.host.stage ≡ false → (step_in b s).sent ≡ []
      → (has_ended (step_in b s).host.stage ≡ true) ⊎ PassedOver s.host (step_in b s).host (heard s.replies) (last_taken s.trace)

-- the same offers, each with its own body, in another order
pub record Reordered (b b' : List ℕ) : Type 0 where
  pub to : ℕ → ℕ
  pub back : ℕ → ℕ
  pub count : count_in b' ≡ count_in b
  pub to_listed : (i : ℕ) → i < count_in b → to i < count_in b
  pub back_listed : (j : ℕ) → j < count_in b → back j < count_in b
  pub back_to : (i : ℕ) → i < count_in b → back (to i) ≡ i
  pub to_back : (j : ℕ) → j < count_in b → to (back j) ≡ j
  pub offers : (i : ℕ) → i < count_in b → offer_in (entry_at b' (to i)) ≡ offer_in (entry_at b i)
  pub bodies : (i : ℕ) → i < count_in b → body_in b' (entry_at b' (to i)) ≡ body_in b (entry_at b i)

-- two runs that come to the same: set, device and staging buffer
pub record Same (b b' : List ℕ) (π : Reordered b b') (s s' : System) : Type 0 where
  pub set : (i : ℕ) → i < count_in b → staged_in b' s' (π.to i) ≡ staged_in b s i
  pub device : s'.device ≡ s.device
  pub staging : s'.staging ≡ s.staging

-- the claim, of the run that comes to the system s
pub record Demand (b : List ℕ) (twice : Schedule) (token : ℕ) (d : Device) (staging reply : List ℕ) (s : System) : Type 0 where
  -- the host is done, whatever it would be handed next; it awaits no reply, and none is on its way; no call is refused
  pub done : s.host.stage ≡ Ended Done
  pub stays : ((m : ℕ) → run b twice m s ≡ s) × StaysEnded b s.host
  pub silence : (s.awaited ≡ []) × (s.replies ≡ [])
  pub served : (m : ℕ) → Turn b (run b twice m (start token d staging reply))
  -- at most n passes and 1 + n(n + 2) + r packets, by the packets sent and by the report
  pub passes : passes_in s.trace ≤ count_in b
  pub packets : length s.trace ≤ 1 + count_in b * (count_in b + 2) + records_in b
  pub counts : Counted b s.host s.trace
  pub report : report_of s.host
      ≡ record {
        completed = completed_of b s.trace (count_in b);
        mask = s.host.mask;
        packets = length s.trace;
        passes = passes_in s.trace;
        ending = ending.done;
      }
  -- what was staged is the smallest closed set
  pub smallest : Smallest d b (staged_in b s)
  -- each image is staged under its offered version, and fills its region; nothing else changes
  pub device : Leaves d b (staged_in b s) s.device
  pub bytes : Fills d b (staged_in b s) staging s.staging
  -- the state shows the same: staged in this run means not pending before and pending after
  pub pending : (i k : ℕ) → i < count_in b → find d (offer_at b i).id ≡ Some k
      → T (staged_in b s i) ↔ ((is_pending (component d k).staged ≡ false) × (is_pending (component s.device k).staged ≡ true))
  -- another order of the same offers comes to the same, whichever blocks arrive twice
  pub order : (b' : List ℕ) (twice' : Schedule) (token' : ℕ) (reply' : List ℕ) → Bytes b' → token' < 256 → rows.bundle_row b' ≡ rows.served
      → (π : Reordered b b') → Same b b' π s (last_of b' twice' token' d staging reply')

-- demand 3, whichever blocks that are neither first nor last arrive, and are answered, twice in a row; a copy counts neither as a packet nor in the list
abbrev pub DemandThree : Type 0
DemandThree = (b : List ℕ) (twice : Schedule) (token : ℕ) (d : Device) (staging reply : List ℕ) → Premise b token d staging
    → Demand b twice token d staging reply (last_of b twice token d staging reply)

-- demand 3 of an answer: where the bodies are good and no row refuses, it is the answer of the run in which each packet arrives once, of which the whole claim
-- holds
abbrev pub DemandOf : (b : List ℕ) → (token : ℕ) → Device → (staging : List ℕ) → Ran → Type 0
DemandOf b token d staging ran =
    GoodBodies b d → ran.row ≡ answer.served
    → (ran ≡ ended (last_of b once token d staging [])) × Demand b once token d staging [] (last_of b once token d staging [])
