-- `Device::version_reply` meets its contract: D1, or the reply, whose count is at most the limit. Assumes nothing.
use mathlib.Core.Path.{◌≡◌, refl, ap, ◌∙◌}
use lib.ListN.{replicate}
use mathlib.Core.List.{List}
use Prim.Native.Nat.{ℕ}
use borrow.Author.Tests.{le-leb}
use Rattle.wire.specs.Codes.{component_limit}
use Rattle.wire.specs.Rows.{Told}
use Rattle.std.specs.Prelude.{Result, Ok, Err}
use Rattle.std.specs.Result.{result_unwrap_or}
use Rattle.wire.specs.declared.verdict.PacketRefusal.{PacketRefusal}
use Rattle.wire_version.specs.Reply.{reply_size, told_built, build_of}
use Rattle.device.specs.Entries.{version_entry}
use Rattle.wire.proofs.Chain.{by}
use Rattle.device_session.proofs.sound.Laws.{passes, count_most}
use Rattle.device.proofs.record.Device.version_reply.Goals as goal

-- the packet that is built, or zeros
told_value : (r : Result (List ℕ) PacketRefusal) → result_unwrap_or r (replicate reply_size 0) ≡ (told_built r).value
told_value (Ok p) = refl
told_value (Err e) = refl

pub returns-then-breaks_d1 : goal.returns-then-breaks_d1
unfolding version_entry
returns-then-breaks_d1 c = rw (by c.breaks_d1.ensures c.if-breaks_d1.true)

pub returns : goal.returns
unfolding version_entry build_of
returns c =
    let d = c.args.self in
    let h = by c.breaks_d1.ensures c.if-breaks_d1.false in
    let m = count_most (passes h) in
    let e = ap (λ (t : Told (List ℕ)). t.value) (rw (le-leb d.count component_limit m) at c.build_version_reply-built.ensures) in
    rw (h, c.unwrap_or.ensures ∙ told_value c.build_version_reply-built.result ∙ e, c.all_running-running.ensures)
