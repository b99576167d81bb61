-- `turn::turn` meets its contract: what the step sends is delivered. Assumes nothing.
use Prim.Native.Nat.{ℕ, ◌≤◌}
use mathlib.Core.Path.{◌≡◌, refl, subst⁻¹}
use lib.ListN.{length, replicate}
use Rattle.host_packet.specs.Packet.{packet_size}
use Rattle.update.proofs.Ranges.{reply_length}
use Rattle.update.proofs.turn.Laws.{first_length, heard_most, stepped, kept_turned}
use Rattle.update.proofs.turn.turn.Goals.{After-heard-n, Start}
use Rattle.update.proofs.turn.turn.Goals as goal

-- a reply is 16 bytes long, and no more is received
sixteen : (c : Start) → length c.args.e.replies.reply ≡ 16
sixteen c = reply_length c.args.e _ c.well_formed.1.1.1.0

most : (c : After-heard-n) → c.heard-n.result ≤ length c.args.e.replies.reply
most c =
    let s = (goal.at.After-heard-n c).Start in
    subst⁻¹ (λ (n : ℕ). n ≤ length s.args.e.replies.reply) c.heard-n.ensures (heard_most s.args.e.replies.due s.args.e.replies.reply (sixteen s))

pub slice_bounds-reply-end : goal.slice_bounds-reply-end
slice_bounds-reply-end c = most (goal.at.slice_bounds-reply-end c).After-heard-n

pub slice_bounds-inner_step-end-2 : goal.slice_bounds-inner_step-end-2
slice_bounds-inner_step-end-2 c = first_length c.heard-n.result c.args.e.replies.reply (most (goal.at.slice_bounds-inner_step-end-2 c).After-heard-n)

pub returns : goal.returns
returns c =
    let s = (goal.at.returns c).Start in
    let a = s.args in
    let k = c.deliver-a in
    let i = c.inner_step in
    let h = c.heard-n in
    kept_turned a.bundle.now i.new.packet a.count a.hand a.e i.result c.unwrap_or-s.result a.staging.now k.new.staging k.result c.unwrap_or-s.ensures
    (stepped a.bundle.now (replicate packet_size 0) a.count a.hand a.e h.result _ refl (sixteen s) h.ensures i.ensures) k.ensures
