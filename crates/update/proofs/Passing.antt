-- A reply that reads as the one taken last is passed over once, and ends the host with H2 the second time. Assumes nothing.
use Prim.Native.Nat.{ℕ, ◌-◌, ◌≤◌}
use mathlib.Core.Path.{◌≡◌, refl, sym, ap, ◌∙◌}
use mathlib.Core.Bool.{Bool, true, false, cond}
use mathlib.Core.List.{List, []}
use native.Mathlib.Omega.{arith}
use borrow.Author.Tests.{eq-eqb, ne_eqb, le-leb}
use lib.ListN.{length}
use Rattle.wire.specs.Codes.{success_status, short_size}
use Rattle.wire_content.specs.Reply.{reply_in}
use Rattle.wire_content.specs.declared.reply.ContentReply.{ContentReply}
use Rattle.bundle_layout.specs.Layout.{count_in}
use Rattle.bundle_layout.specs.Rows as bundle
use Rattle.host_record.specs.Record.{sequence_of, sent_at, passed_at}
use Rattle.host_record.specs.declared.record.Host.{Host}
use Rattle.host_record.specs.declared.record.Place.{Place}
use Rattle.host_record.specs.declared.record.Awaited.{Awaited}
use Rattle.host_record.specs.declared.record.HostStage.{HostStage}
use Rattle.host_record.specs.declared.record.HostStage.TheVariants.{Sending}
use Rattle.host_record.specs.declared.record.End.TheVariants.{Foreign}
use Rattle.host_decide.specs.declared.Move.{Move}
use Rattle.host_decide.specs.Decide.{ends, pass_over, hears_reply, hears_block, decide_in, decide_of}
use Rattle.host_decide.proofs.Heard.{next_differs}
use Rattle.host_packet.specs.Answer.{Step, served, row_n, refused_by}
use Rattle.host.specs.Step.{step_of, step_by, step_on, breaks_n1, last_in, moved, packet_of}
use Rattle.update.specs.Ends.{HostPasses}

-- a step that no row refuses is its move
served_moves : (b : List ℕ) (h : Host) (reply : List ℕ) → (step_of b h reply).row ≡ served
    → step_of b h reply ≡ moved b (decide_of (count_in b) (last_in b h.stage) h reply)
unfolding step_of step_on
served_moves b h reply = by (bundle.bundle_row b)
  where
    move : Step
    move = moved b (decide_of (count_in b) (last_in b h.stage) h reply)

    on : (x : Bool) → (cond x (refused_by (row_n 1) h) move).row ≡ served → cond x (refused_by (row_n 1) h) move ≡ move
    on true e = let z : ◌≡◌ {A = ℕ} 0 1 = cc in absurd (omega arith)
    on false e = refl

    by : (row : bundle.Row) → (step_by row b h reply).row ≡ served → step_by row b h reply ≡ move
    by bundle.served e = on (breaks_n1 b h) e
    by (bundle.row_b k entry) e = let z : ◌≡◌ {A = ℕ} 0 1 = cc in absurd (omega arith)

module _ (h : Host) (place : Place) (reply : List ℕ) (l : 1 ≤ place.block) (size : length reply ≡ short_size)
    (reads : reply_in reply ≡ record { sequence = sequence_of (place.block - 1); status = success_status }) where
  -- the reply as it is read
  abbrev taken : ContentReply
  taken = record { sequence = sequence_of (place.block - 1); status = success_status }

  hears : (n : ℕ) (last : Bool) (a : Awaited) → hears_block n last a h reply ≡ hears_reply n last a h taken
  unfolding hears_block
  hears n last a =
      let x : hears_block n last a h reply ≡ hears_reply n last a h (reply_in reply) = rw (eq-eqb (length reply) short_size size) in
      x ∙ ap (hears_reply n last a h) reads

  -- the first is passed over
  passes : (n : ℕ) (last : Bool) → hears_block n last (sent_at place) h reply ≡ pass_over place h
  passes n last =
      let x : hears_reply n last (sent_at place) h taken ≡ pass_over place h
      = rw (le-leb 1 place.block l, eq-eqb (sequence_of (place.block - 1)) (sequence_of (place.block - 1)) refl) in
      hears n last (sent_at place) ∙ x

  -- the second is not the one awaited
  stops : (n : ℕ) (last : Bool) → hears_block n last (passed_at place) h reply ≡ ends h Foreign
  stops n last =
      let x : hears_reply n last (passed_at place) h taken ≡ ends h Foreign
      = rw (
        le-leb 1 place.block l,
        ne_eqb (sequence_of (place.block - 1)) (sequence_of place.block) (λ z. next_differs place.block l (sym z)),
      ) in
      hears n last (passed_at place) ∙ x

pub host_passes : HostPasses
unfolding decide_in packet_of
host_passes b h place reply s l size reads = record { first = first; second = second }
  where
    n : ℕ
    n = count_in b

    -- what a step is whose move this is
    by : (stage : HostStage) → h.stage ≡ stage → (m : Move) → decide_in stage n (last_in b stage) h reply ≡ m
        → step_of b h reply ≡ moved b m
    by stage z m e = served_moves b h reply s ∙ ap (λ (g : HostStage). moved b (decide_in g n (last_in b g) h reply)) z ∙ ap (moved b) e

    first : h.stage ≡ Sending (sent_at place) → ((step_of b h reply).sent ≡ []) × ((step_of b h reply).host ≡ (pass_over place h).host)
    first z =
        let e = by (Sending (sent_at place)) z (pass_over place h) (passes h place reply l size reads n (last_in b (Sending (sent_at place)))) in
        (ap (λ (x : Step). x.sent) e, ap (λ (x : Step). x.host) e)

    second : h.stage ≡ Sending (passed_at place) → ((step_of b h reply).sent ≡ []) × ((step_of b h reply).host ≡ (ends h Foreign).host)
    second z =
        let e = by (Sending (passed_at place)) z (ends h Foreign) (stops h place reply l size reads n (last_in b (Sending (passed_at place)))) in
        (ap (λ (x : Step). x.sent) e, ap (λ (x : Step). x.host) e)
