-- The host always ends, against any device: the statement (document 00, question 1; document 01, "The host"; document 02, A4).
use Rattle.std.specs.Prelude.{ℕ, zero, suc, ◌+◌, ◌-◌, ◌≤◌, ◌<◌, ◌≡◌, ◌⊎◌, true, false, cond, List, [], ◌++◌, length}
use Rattle.std.specs.Int.Count.{ones}
use Rattle.wire.specs.Bytes.{Bytes}
use Rattle.wire.specs.Checks.{All}
use Rattle.wire.specs.Codes.{success_status, short_size}
use Rattle.wire.specs.Rows as packet
use Rattle.wire_offer.specs.Offer as offer
use Rattle.wire_offer.specs.Signal.{information_bytes, extended_bytes}
use Rattle.wire_offer.specs.declared.offer.OfferFields.{OfferFields}
use Rattle.wire_offer.specs.declared.signal.Signal.{Signal}
use Rattle.wire_content.specs.Content as content
use Rattle.wire_content.specs.Reply as content_reply
use Rattle.wire_content.specs.declared.content.ContentFields.{ContentFields}
use Rattle.bundle_layout.specs.Layout.{count_in, id_in}
use Rattle.bundle_layout.specs.Rows as bundle
use Rattle.device.specs.declared.record.Device.{Device}
use Rattle.host_record.specs.Record.{fresh_host, sent_at, passed_at, sequence_of, has_bit, has_ended}
use Rattle.host_record.specs.declared.record.Place.{Place}
use Rattle.host_record.specs.declared.record.HostStage.TheVariants.{Sending, Ended}
use Rattle.host_record.specs.declared.record.End.TheVariants.{Foreign}
use Rattle.host_decide.specs.Decide.{at}
use Rattle.host_packet.specs.Answer.{Step, served}
use Rattle.host.specs.Step.{entry_at, step_of}
use Rattle.host_record.specs.declared.record.Host.{Host}
use Rattle.update.specs.Trace.{Exchange, passes_in, completed_in}
use Rattle.update.specs.Heard.{taken_for, trace_after, awaited_after, last_taken}
use Rattle.update.specs.Run.{Schedule, run, bound_of, last_of}

-- a host that is handed any replies, one at each step: its record, the packet whose reply it awaits, if any, and the list of the packets sent before it, each
-- with the reply that it took for it, the first that it did not pass over
pub record HostRun : Type 0 where
  pub host : Host
  pub awaited : List (List ℕ)
  pub trace : List Exchange

-- a step of it
abbrev pub host_stepped : Step → (reply : List ℕ) → HostRun → HostRun
host_stepped x reply r = record {
  host = x.host;
  awaited = awaited_after x r.awaited;
  trace = trace_after x reply r.awaited r.trace;
}

-- so many steps from a fresh record; step k is handed reply k
unfoldable pub host_steps : (b : List ℕ) → (token : ℕ) → (replies : ℕ → List ℕ) → (steps : ℕ) → HostRun
host_steps b token replies zero = record { host = fresh_host token; awaited = []; trace = [] }
host_steps b token replies (suc k) =
    host_stepped (step_of b (host_steps b token replies k).host (replies k)) (replies k) (host_steps b token replies k)

-- a packet that a builder answers, of fields of any size
pub data Built : List ℕ → Type 0 where
  an_information : (s : Signal) → Built (information_bytes s)
  an_extended : (s : Signal) → Built (extended_bytes s)
  an_offer : (o : OfferFields) → (offer.build_of o).row ≡ packet.served → Built (offer.build_of o).value
  a_content : (c : ContentFields) → (content.build_of c).row ≡ packet.served → Built (content.build_of c).value

-- how many of the first n entries the list shows completed
unfoldable pub completed_of : (b : List ℕ) → List Exchange → (n : ℕ) → ℕ
completed_of b trace zero = 0
completed_of b trace (suc n) = cond (completed_in 0 trace (id_in (entry_at b n))) 1 0 + completed_of b trace n

-- the mask's bits are the completed offers of a list, and its ones their number
pub record Masked (b : List ℕ) (mask : ℕ) (trace : List Exchange) : Type 0 where
  pub bits : (i : ℕ) → i < count_in b → has_bit mask i ≡ completed_in 0 trace (id_in (entry_at b i))
  pub ones : ones mask ≡ completed_of b trace (count_in b)

-- the counts of a record are those of the list, and its mask shows the list's completed offers
pub record Counted (b : List ℕ) (h : Host) (trace : List Exchange) : Type 0 where
  pub packets : h.packets ≡ length trace
  pub passes : h.passes ≡ passes_in trace
  pub mask : Masked b h.mask trace

-- from a fresh record over an accepted bundle, whatever replies it is handed
pub record Ends (b : List ℕ) (token : ℕ) (replies : ℕ → List ℕ) : Type 0 where
  -- N1 is never met
  pub served : (k : ℕ) → (step_of b (host_steps b token replies k).host (replies k)).row ≡ served
  -- an ended record is reached within the bound
  pub ended : has_ended (host_steps b token replies (bound_of b)).host.stage ≡ true
  -- every packet is one that a builder answers
  pub built : (k : ℕ) → All Built (step_of b (host_steps b token replies k).host (replies k)).sent

abbrev pub HostEnds : Type 0
HostEnds = (b : List ℕ) (token : ℕ) (replies : ℕ → List ℕ) → Bytes b → bundle.bundle_row b ≡ bundle.served → token < 256 → Ends b token replies

-- a further step of an ended record sends nothing and keeps the record, whatever it is handed
abbrev pub StaysEnded : (b : List ℕ) → Host → Type 0
StaysEnded b h = (reply : List ℕ) → ((step_of b h reply).sent ≡ []) × ((step_of b h reply).host ≡ h)

abbrev pub EndStays : Type 0
EndStays = (b : List ℕ) (h : Host) → has_ended h.stage ≡ true → StaysEnded b h

-- a run always ends, whatever the device, its staging buffer and the schedule, and an ended run stays
abbrev pub RunEnds : Type 0
RunEnds = (b : List ℕ) (twice : Schedule) (token : ℕ) (d : Device) (staging reply : List ℕ) → Bytes b → bundle.bundle_row b ≡ bundle.served → token < 256
    → (has_ended (last_of b twice token d staging reply).host.stage ≡ true)
    × StaysEnded b (last_of b twice token d staging reply).host
    × ((m : ℕ) → run b twice m (last_of b twice token d staging reply) ≡ last_of b twice token d staging reply)

-- at every step the packets and passes of the record are those of the list sent, the packet whose reply is awaited among them
abbrev pub HostTallies : Type 0
HostTallies = (b : List ℕ) (token : ℕ) (replies : ℕ → List ℕ) (k : ℕ) (reply : List ℕ) → Bytes b → bundle.bundle_row b ≡ bundle.served → token < 256
    → ((host_steps b token replies k).host.packets ≡ length ((host_steps b token replies k).trace ++ taken_for (host_steps b token replies k).awaited reply))
    × ((host_steps b token replies k).host.passes ≡ passes_in ((host_steps b token replies k).trace ++ taken_for (host_steps b token replies k).awaited reply))

-- at every step the mask shows the completed offers of the list: the packets with the replies that were taken for them
abbrev pub HostMasks : Type 0
HostMasks = (b : List ℕ) (token : ℕ) (replies : ℕ → List ℕ) (k : ℕ) → Bytes b → bundle.bundle_row b ≡ bundle.served → token < 256
    → Masked b (host_steps b token replies k).host.mask (host_steps b token replies k).trace

-- once it has ended it awaits no reply, and all its counts are those of the list sent
abbrev pub HostCounts : Type 0
HostCounts = (b : List ℕ) (token : ℕ) (replies : ℕ → List ℕ) (k : ℕ) → Bytes b → bundle.bundle_row b ≡ bundle.served → token < 256
    → has_ended (host_steps b token replies k).host.stage ≡ true
    → ((host_steps b token replies k).awaited ≡ []) × Counted b (host_steps b token replies k).host (host_steps b token replies k).trace

-- a reply is passed over (document 02, A4) by a record that awaits the reply to a block which is not the first of its body, and has passed over none while it
-- does: it is 16 bytes long and, as it is read, equal to the one taken last, that to the block before, with status 0; nothing changes but the note that one was
-- passed over
pub record PassedOver (h h' : Host) (reply taken : List ℕ) : Type 0 where
  pub place : Place
  pub later : 1 ≤ place.block
  pub before : h.stage ≡ Sending (sent_at place)
  pub after : h' ≡ at h (Sending (passed_at place))
  pub size : length reply ≡ short_size
  pub reads : content_reply.reply_in reply ≡ record { sequence = sequence_of (place.block - 1); status = success_status }
  pub same : content_reply.reply_in taken ≡ content_reply.reply_in reply

-- a step on a reply with the sequence of the block before and status 0, while the reply to this one, which is not the first of its body, is awaited
pub record Passes (b : List ℕ) (h : Host) (place : Place) (reply : List ℕ) : Type 0 where
  -- the first such reply is passed over, and nothing else of the record changes
  pub first : h.stage ≡ Sending (sent_at place) → ((step_of b h reply).sent ≡ []) × ((step_of b h reply).host ≡ at h (Sending (passed_at place)))
  -- the second is H2
  pub second : h.stage ≡ Sending (passed_at place) → ((step_of b h reply).sent ≡ []) × ((step_of b h reply).host ≡ at h (Ended Foreign))

-- so it is of every record and bundle that no row refuses
abbrev pub HostPasses : Type 0
HostPasses = (b : List ℕ) (h : Host) (place : Place) (reply : List ℕ) → (step_of b h reply).row ≡ served → 1 ≤ place.block → length reply ≡ short_size
    → content_reply.reply_in reply ≡ record { sequence = sequence_of (place.block - 1); status = success_status } → Passes b h place reply

-- a step that sends nothing, of a record that has not ended, ends it or passes over the reply that it was handed
abbrev pub HostSilent : Type 0
HostSilent = (b : List ℕ) (token : ℕ) (replies : ℕ → List ℕ) (k : ℕ) → Bytes b → bundle.bundle_row b ≡ bundle.served → token < 256
    → has_ended (host_steps b token replies k).host.stage ≡ false → (step_of b (host_steps b token replies k).host (replies k)).sent ≡ []
    → (has_ended (host_steps b token replies (suc k)).host.stage ≡ true)
    ⊎ PassedOver (host_steps b token replies k).host (host_steps b token replies (suc k)).host (replies k) (last_taken (host_steps b token replies k).trace)
