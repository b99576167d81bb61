-- `packet` meets its contract. After i turns the first i components are written. Assumes nothing.
use mathlib.Core.Path.{◌≡◌, refl, ap, ◌∙◌}
use Prim.Native.Nat.{◌+◌}
use native.Mathlib.Omega.{arith}
use lib.ListN.{length, take}
use Rattle.std.proofs.lemmas.List.{get_or-take}
use lib.Seq.{length-take-le}
use Rattle.wire.specs.Codes.{component_limit}
use Rattle.wire_version.specs.Reply.{none, flat, entry_bytes, reply_bytes}
use Rattle.wire_version.proofs.Entries.{sofar, sofar_more, length_sofar}
use borrow.Author.Rules.{rules}
use Rattle.wire_version.proofs.packet.Goals as goal

pub loop-i-init : goal.loop-i-init
unfolding sofar flat
loop-i-init c = (refl, refl)

pub loop-i-preserved : goal.loop-i-preserved
loop-i-preserved c =
    let a = c.args.r in
    let l = c.loop-i in
    let n : length a.components ≡ component_limit = search rules in
    let b = c.entry_bytes in
    let m : length (take a.count a.components) ≡ a.count = length-take-le a.count a.components (omega arith) in
    let f = get_or-take a.count a.components l.i none (omega arith) in
    let e = sofar_more a.count a.protocol a.components l.i l.p _ n (omega arith) l.invariant.0 (c.copy_from_slice.ensures.after ∙ b.ensures ∙ ap entry_bytes f) in
    (e, ap length e ∙ length_sofar a.count a.protocol a.components (l.i + 1) n (omega arith))

pub returns : goal.returns
unfolding sofar reply_bytes
returns c =
    let a = c.args.r in
    let n : length a.components ≡ component_limit = search rules in
    let m : length (take a.count a.components) ≡ a.count = length-take-le a.count a.components (omega arith) in
    let e : c.loop-i.i ≡ a.count = omega arith in
    c.loop-i.invariant.0 ∙ rw e
