-- `packet::lay` meets its contract: a copy over the first 16 bytes, the rest cleared. Assumes nothing.
use mathlib.Core.Path.{◌≡◌, refl, ◌∙◌}
use mathlib.Core.List.{◌++◌}
use native.Mathlib.Omega.{arith}
use lib.ListN.{length, drop}
use Rattle.wire.proofs.Pieces.{put_more}
use Rattle.host_packet.proofs.packet.Laws.{clear_rest}
use borrow.Author.Rules.{rules}
use Rattle.host_packet.proofs.packet.lay.Goals.{After-copy}
use Rattle.host_packet.proofs.packet.lay.Goals as goal

pub returns : goal.returns
returns c =
    let k = (goal.at.returns c).After-copy in
    let s = k in
    let p = s.args.packet.now in
    let n : length p ≡ 60 = search rules in
    let w = put_more p s.args.p k.copy.new.target 0 16 16 refl (search rules) (omega arith) k.copy.ensures in
    clear_rest (k.copy.new.target ++ drop 16 p) s.args.p _ 16 44 44 refl (w.0 ∙ n) w.1 c.fill.ensures
