-- The run (document 01, "The host": demand 3; document 02, A4): a fresh host and a device in turn, each given what its last call left. The host's step is
-- handed the first reply on its way; a packet that it sends arrives at once, and some arrive twice.
use Rattle.std.specs.Prelude.{ℕ, zero, suc, ◌+◌, ◌*◌, Bool, false, cond, ◌&&◌, List, [], ◌∷◌, ◌++◌, ltb, eqb, length, get_or, take, drop}
use Rattle.wire.specs.Codes.{short_size, long_size, flag_last_block}
use Rattle.bundle_layout.specs.Layout.{count_in, entries_in}
use Rattle.bundle.specs.Contents.{blocks_in}
use Rattle.device.specs.Entries.{serve_entry, serve_staging}
use Rattle.device.specs.Refusals.{Outcome}
use Rattle.device.specs.declared.record.Device.{Device}
use Rattle.device.specs.declared.answer.Channel.{Channel}
use Rattle.device.specs.declared.answer.Channel.TheVariants.{Offer, Content}
use Rattle.host_record.specs.Record.{fresh_host, has_ended}
use Rattle.host_packet.specs.Answer.{Step}
use Rattle.host.specs.Step.{step_of}
use Rattle.host_record.specs.declared.record.Host.{Host}
use Rattle.update.specs.Trace.{Exchange}
use Rattle.update.specs.Heard.{trace_after, awaited_after}

-- both ends; the replies on their way to the host, in the order in which they were sent; the packet whose reply the host awaits, if any; and the list of the
-- packets sent before it, each with the reply that the host took for it
pub record System : Type 0 where
  pub host : Host
  pub device : Device
  pub staging : List ℕ
  pub replies : List (List ℕ)
  pub awaited : List (List ℕ)
  pub trace : List Exchange

-- which packets arrive twice in a row, of those sent, counted from 0; none but a block that is neither first nor last does (document 02, A4)
abbrev pub Schedule : Type 0
Schedule = ℕ → Bool

-- no packet does
abbrev pub once : Schedule
once j = false

-- a block that is neither first nor last: 60 bytes, with neither flag
abbrev pub is_middle : List ℕ → Bool
is_middle p = eqb (length p) long_size && ltb (get_or p 0 0) flag_last_block

-- which of the device's entries a packet is for
abbrev pub channel_of : List ℕ → Channel
channel_of p = cond (eqb (length p) short_size) Offer Content

-- the device's answer to a packet, and the staging buffer afterwards
abbrev pub answer_to : List ℕ → Device → (staging : List ℕ) → Outcome
answer_to p d staging = serve_entry d (channel_of p) staging p

abbrev pub left_by : List ℕ → Device → (staging : List ℕ) → List ℕ
left_by p d staging = serve_staging d (channel_of p) staging p

-- a packet arrives: the device answers it, and the first that it sends, if any, is on its way to the host; demand 3 shows that it sends no more (`Turn.device`)
abbrev pub arrives : List ℕ → System → System
arrives p s = record {
  host = s.host;
  device = (answer_to p s.device s.staging).device;
  staging = left_by p s.device s.staging;
  replies = s.replies ++ take 1 (answer_to p s.device s.staging).sent;
  awaited = s.awaited;
  trace = s.trace;
}

-- what is sent arrives, twice where the schedule says so
abbrev pub delivered : Schedule → List (List ℕ) → System → System
delivered twice [] s = s
delivered twice (p ∷ ps) s = cond (is_middle p && twice (length s.trace)) (arrives p (arrives p s)) (arrives p s)

-- the reply that the host is handed: the first on its way, and no bytes where there is none
abbrev pub heard : List (List ℕ) → List ℕ
heard [] = []
heard (r ∷ rs) = r

-- a step of the host on it takes effect: that reply is gone, and the list is as the step makes it
abbrev pub stepped : Step → System → System
stepped x s = record {
  host = x.host;
  device = s.device;
  staging = s.staging;
  replies = drop 1 s.replies;
  awaited = awaited_after x s.awaited;
  trace = trace_after x (heard s.replies) s.awaited s.trace;
}

-- and what it sends arrives
unfoldable pub turned : Schedule → Step → System → System
turned twice x s = delivered twice x.sent (stepped x s)

-- one turn; there is none where the host has ended
unfoldable pub exchange : (b : List ℕ) → Schedule → System → System
exchange b twice s = cond (has_ended s.host.stage) s (turned twice (step_of b s.host (heard s.replies)) s)

-- n turns
unfoldable pub run : (b : List ℕ) → Schedule → ℕ → System → System
run b twice zero s = s
run b twice (suc n) s = run b twice n (exchange b twice s)

-- a reply on its way; no bytes are none
abbrev pub on_way : (reply : List ℕ) → List (List ℕ)
on_way [] = []
on_way (x ∷ xs) = (x ∷ xs) ∷ []

-- the start: nothing sent; the first step awaits no reply, so any may be on its way
abbrev pub start : (token : ℕ) → Device → (staging reply : List ℕ) → System
start token d staging reply = record { host = fresh_host token; device = d; staging = staging; replies = on_way reply; awaited = []; trace = [] }

-- the records of all bodies
unfoldable pub records_from : (b : List ℕ) → List (List ℕ) → ℕ
records_from b [] = 0
records_from b (e ∷ es) = length (blocks_in b e) + records_from b es

abbrev pub records_in : List ℕ → ℕ
records_in b = records_from b (entries_in b)

-- within so many steps every host ends, whatever it is handed: code 0 and the step that ends; in each of n passes code 1, code 2, for each of n offers nine
-- offers and eight notifies, and for each of r blocks the step that sends it and, but for the first block of each of n bodies, one that passes over a reply
-- while it is awaited (document 02, A4)
abbrev pub step_bound : (n r : ℕ) → ℕ
step_bound n r = 2 + n * (16 * n + 2 + 2 * r)

abbrev pub bound_of : List ℕ → ℕ
bound_of b = step_bound (count_in b) (records_in b)

-- the run until the host ends
abbrev pub last_of : (b : List ℕ) → Schedule → (token : ℕ) → Device → (staging reply : List ℕ) → System
last_of b twice token d staging reply = run b twice (bound_of b) (start token d staging reply)
