-- More runs that meet demand 3's premise: a chain of seven needs, which reaches both bounds; one with an open session that owes a READY, a component pending at
-- the start, a need cycle and an offer for a component that the device has not; one with floors (document 02, A5); and runs in which blocks arrive twice (A4). And a
-- host that takes as many steps as any may.
use Rattle.std.specs.Prelude.{ℕ, zero, suc, ◌+◌, ◌*◌, ◌-◌, ◌≡◌, true, false, List, [], ◌∷◌, ◌++◌, map, eqb, length, get_or, take, drop, replicate, Some}
use Rattle.wire.specs.Codes.{component_limit, offer_skip, offer_accept, offer_reject, offer_busy, offer_ready, reject_old_fw, reject_inv_component, reject_swap_pending, success_status}
use Rattle.wire.specs.Version.{version_bytes, version_of}
use Rattle.wire_offer.specs.Reply as offer_reply
use Rattle.wire_content.specs.Reply as content_reply
use Rattle.bundle_records.specs.Record.{Block}
use Rattle.device_component.specs.Record.{floored, is_pending, with_staged, blank_component}
use Rattle.device_component.specs.declared.record.Component.{Component}
use Rattle.bundle_layout.specs.Layout.{count_in}
use Rattle.bundle.specs.Contents.{Part, bundle_bytes}
use Rattle.device.specs.declared.record.Device.{Device}
use Rattle.device_session.specs.Effect.{idle}
use Rattle.device_session.specs.declared.stage.Stage.TheVariants.{Receiving}
use Rattle.host_record.specs.Record.{has_ended}
use Rattle.host_record.specs.declared.record.HostStage.TheVariants.{Ended}
use Rattle.host_record.specs.declared.record.End.TheVariants.{Done}
use Rattle.update.specs.Trace.{passes_in}
use Rattle.update.specs.Run.{System, Schedule, once, records_in, bound_of, run, start, last_of}
use Rattle.update.specs.Ends.{host_steps}
use Rattle.update.specs.Demand.{Premise}
use Rattle.update.specs.Bench.{placed, with_crc, code, offered, block, said}

-- components with regions of 16 bytes, one after the other, all at 1.0.0: with this floor, and with none
abbrev pub floor100 : (floor id : ℕ) → Component
floor100 floor id = floored floor id 0x01000000 (16 * (id - 1)) 16

abbrev pub at100 : (id : ℕ) → Component
at100 id = floor100 0 id

-- the image of a component at 1.1.0, in two records of 8 bytes
unfoldable pub image16 : (id : ℕ) → List ℕ
image16 id = with_crc (version_bytes (version_of 1 1 0) ++ id ∷ placed 5 9)

-- an offer of 1.1.0 that needs a component at 1.1, or none (0), with that image
abbrev pub part_of : (id need : ℕ) → (least : List ℕ) → Part
part_of id need least = record {
  offer = 0 ∷ 0 ∷ id ∷ 0 ∷ 0x00 ∷ 0x01 ∷ 0x00 ∷ 0x01 ∷ need ∷ least ++ 2 ∷ 0 ∷ 0x42 ∷ 0x00 ∷ [];
  blocks =
      record { address = record { 0 = 0 }; bytes = take 8 (image16 id) }
      ∷ record { address = record { 0 = 8 }; bytes = drop 8 (image16 id) }
      ∷ [];
}

abbrev pub needing : (id need : ℕ) → Part
needing id need = part_of id need (0x01 ∷ 0x00 ∷ 0x01 ∷ [])

abbrev pub alone : (id : ℕ) → Part
alone id = part_of id 0 (replicate 3 0)

-- the chain: seven components, each offer but the last needing the one after it
abbrev pub seven : Device
seven = record {
  platform = 0x0042;
  staging_len = 112;
  count = component_limit;
  components = at100 1 ∷ at100 2 ∷ at100 3 ∷ at100 4 ∷ at100 5 ∷ at100 6 ∷ at100 7 ∷ [];
  session = idle;
}

abbrev pub chain : List ℕ
chain = bundle_bytes (needing 1 2 ∷ needing 2 3 ∷ needing 3 4 ∷ needing 4 5 ∷ needing 5 6 ∷ needing 6 7 ∷ alone 7 ∷ [])

-- a run from a device and a staging buffer of zeros, with token 7
abbrev pub comes : List ℕ → Device → System
comes b d = last_of b once 7 d (replicate d.staging_len 0) []

-- it is done after 7 passes and 1 + n(n + 2) + r = 78 packets: both bounds are reached
pub record ChainReaches : Type 0 where
  pub premise : Premise chain 7 seven (replicate 112 0)
  pub done : (comes chain seven).host.stage ≡ Ended Done
  pub passes : passes_in (comes chain seven).trace ≡ count_in chain
  pub packets : length (comes chain seven).trace ≡ 1 + count_in chain * (count_in chain + 2) + records_in chain
  pub figures : (count_in chain ≡ 7) × (length (comes chain seven).trace ≡ 78)

-- the mixed case: component 1 is receiving and owes a READY, component 2 is pending; 1 and 3 need each other's new version; 9 is not there
abbrev pub mixed : Device
mixed = record {
  platform = 0x0042;
  staging_len = 64;
  count = 4;
  components = at100 1 ∷ with_staged (at100 2) (version_of 1 1 0) ∷ at100 3 ∷ at100 4 ∷ replicate (component_limit - 4) blank_component;
  session = record { stage = Receiving (record { slot = 0; token = 3; next = 5 }); owed = Some 9; previous = 0 ∷ 1 ∷ 4 ∷ replicate 57 0 };
}

abbrev pub mixed_bundle : List ℕ
mixed_bundle = bundle_bytes (needing 1 3 ∷ needing 3 1 ∷ alone 9 ∷ alone 2 ∷ alone 4 ∷ [])

-- only component 4 lands
abbrev pub MixedDevice : Type 0
MixedDevice = map (λ c. is_pending c.staged) (comes mixed_bundle mixed).device.components ≡ false ∷ true ∷ false ∷ true ∷ replicate (component_limit - 4) false

abbrev pub MixedStaging : Type 0
MixedStaging = (comes mixed_bundle mixed).staging ≡ replicate 48 0 ++ image16 4

-- the cycle is skipped twice, the absent and the pending component are rejected twice
pub record MixedRuns : Type 0 where
  pub premise : Premise mixed_bundle 7 mixed (replicate 64 0)
  pub done : (comes mixed_bundle mixed).host.stage ≡ Ended Done
  pub says : map said (comes mixed_bundle mixed).trace
      ≡ code 0
      ∷ code 1 ∷ offered 1 offer_skip 0 ∷ offered 3 offer_skip 0 ∷ offered 9 offer_reject reject_inv_component
      ∷ offered 2 offer_reject reject_swap_pending ∷ offered 4 offer_accept 0 ∷ block success_status ∷ block success_status ∷ code 2
      ∷ code 1 ∷ offered 1 offer_skip 0 ∷ offered 3 offer_skip 0 ∷ offered 9 offer_reject reject_inv_component
      ∷ offered 2 offer_reject reject_swap_pending ∷ offered 4 offer_reject reject_swap_pending ∷ code 2
      ∷ []
  pub device : MixedDevice
  pub staging : MixedStaging

-- floors (document 02, A5): component 1 has 1.2.0 for its floor, above the 1.1.0 that is offered, and component 3 has 1.1.0; 2 needs 1 at 1.1
abbrev pub raised : Device
raised = record {
  platform = 0x0042;
  staging_len = 48;
  count = 3;
  components = floor100 0x01000200 1 ∷ at100 2 ∷ floor100 0x01000100 3 ∷ replicate (component_limit - 3) blank_component;
  session = idle;
}

abbrev pub raised_bundle : List ℕ
raised_bundle = bundle_bytes (alone 1 ∷ needing 2 1 ∷ alone 3 ∷ [])

-- only 3 lands
abbrev pub RaisedDevice : Type 0
RaisedDevice = map (λ c. is_pending c.staged) (comes raised_bundle raised).device.components ≡ false ∷ false ∷ true ∷ replicate (component_limit - 3) false

abbrev pub RaisedStaging : Type 0
RaisedStaging = (comes raised_bundle raised).staging ≡ replicate 32 0 ++ image16 3

-- 1 is rejected with 0, so that 2 is skipped
pub record FloorRuns : Type 0 where
  pub premise : Premise raised_bundle 7 raised (replicate 48 0)
  pub done : (comes raised_bundle raised).host.stage ≡ Ended Done
  pub says : map said (comes raised_bundle raised).trace
      ≡ code 0
      ∷ code 1 ∷ offered 1 offer_reject reject_old_fw ∷ offered 2 offer_skip 0 ∷ offered 3 offer_accept 0 ∷ block success_status ∷ block success_status ∷ code 2
      ∷ code 1 ∷ offered 1 offer_reject reject_old_fw ∷ offered 2 offer_skip 0 ∷ offered 3 offer_reject reject_swap_pending ∷ code 2
      ∷ []
  pub device : RaisedDevice
  pub staging : RaisedStaging

-- a need cycle alone: both offers are skipped, one pass, five packets, nothing staged
abbrev pub cycle : List ℕ
cycle = bundle_bytes (needing 1 2 ∷ needing 2 1 ∷ [])

pub record CycleStops : Type 0 where
  pub done : (comes cycle seven).host.stage ≡ Ended Done
  pub passes : passes_in (comes cycle seven).trace ≡ 1
  pub packets : length (comes cycle seven).trace ≡ 5

-- the image of component 1 in four records of 4 bytes: two blocks that are neither first nor last
abbrev pub fourth : (k : ℕ) → Block
fourth k = record { address = record { 0 = 4 * k }; bytes = take 4 (drop (4 * k) (image16 1)) }

abbrev pub quartered : List ℕ
quartered = bundle_bytes (record { offer = (alone 1).offer; blocks = fourth 0 ∷ fourth 1 ∷ fourth 2 ∷ fourth 3 ∷ [] } ∷ [])

-- its run, with blocks that arrive twice, after so many turns and at its end
abbrev pub turns_twice : Schedule → ℕ → System
turns_twice twice n = run quartered twice n (start 7 seven (replicate 112 0) [])

abbrev pub comes_twice : Schedule → System
comes_twice twice = last_of quartered twice 7 seven (replicate 112 0) []

-- with as many copies: the same kinds of packets and statuses, 8 packets and 1 pass, the same pending component and the same bytes; each copy takes a turn of the
-- host more
pub record RunsWith (twice : Schedule) (copies : ℕ) : Type 0 where
  pub says : map said (comes_twice twice).trace
      ≡ code 0 ∷ code 1 ∷ offered 1 offer_accept 0 ∷ block success_status ∷ block success_status ∷ block success_status ∷ block success_status ∷ code 2 ∷ []
  pub counts : ((comes_twice twice).host.packets ≡ 8) × ((comes_twice twice).host.passes ≡ 1)
  pub device : map (λ c. is_pending c.staged) (comes_twice twice).device.components ≡ true ∷ replicate (component_limit - 1) false
  pub staging : (comes_twice twice).staging ≡ image16 1 ++ replicate 96 0
  pub runs : has_ended (turns_twice twice (8 + copies)).host.stage ≡ false
  pub done : (turns_twice twice (9 + copies)).host.stage ≡ Ended Done

-- each packet once; the block that is the sixth packet twice; every block that may arrive twice does
pub record DoubledRuns : Type 0 where
  pub premise : Premise quartered 7 seven (replicate 112 0)
  pub none : RunsWith once 0
  pub one : RunsWith (λ j. eqb j 5) 1
  pub all : RunsWith (λ j. true) 2

-- one offer with a body of three records
abbrev pub in_three : List ℕ
in_three = bundle_bytes (record { offer = (alone 1).offer; blocks = fourth 0 ∷ fourth 1 ∷ fourth 2 ∷ [] } ∷ [])

-- replies to a host with token 7
abbrev pub status : ℕ → List ℕ
status s = offer_reply.reply_bytes (record { token = 7; reason = 0; status = s })

abbrev pub took : (sequence : ℕ) → List ℕ
took sequence = content_reply.reply_bytes (record { sequence = sequence; status = success_status })

-- so often BUSY to the offer, and READY
abbrev pub busy : ℕ → List (List ℕ) → List (List ℕ)
busy zero rest = rest
busy (suc n) rest = status offer_busy ∷ status offer_ready ∷ busy n rest

-- what a host is handed that takes as many steps as any may: eight BUSY, and before the reply to each block but the first a copy of the one before it
abbrev pub longest : ℕ → List ℕ
longest k =
    get_or ([] ∷ status offer_accept ∷ status offer_accept
    ∷ busy 8 (status offer_accept ∷ took 0 ∷ took 0 ∷ took 1 ∷ took 1 ∷ took 2 ∷ status offer_accept ∷ [])) k []

-- 2 + n(16 n + 2 + 2 r) = 26 steps, and no fewer
pub record BoundReached : Type 0 where
  pub bound : bound_of in_three ≡ 26
  pub runs : has_ended (host_steps in_three 7 longest 25).host.stage ≡ false
  pub done : (host_steps in_three 7 longest 26).host.stage ≡ Ended Done
  pub packets : (host_steps in_three 7 longest 26).host.packets ≡ 23
