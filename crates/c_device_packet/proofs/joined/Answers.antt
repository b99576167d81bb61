-- `joined` meets its contract: two copies, one after the other. Assumes nothing.
use Rattle.c_device_packet.proofs.Laws.{joined_as}
use mathlib.Core.Path.{◌≡◌, refl}
use lib.ListN.{length, replicate}
use borrow.Author.Rules.{rules}
use Rattle.c_device_packet.proofs.joined.Goals as goal

pub returns : goal.returns
returns c =
    let a = c.args in
    let m : length a.first ≡ 16 = search rules in
    let n : length a.second ≡ 16 = search rules in
    joined_as (replicate 32 0) a.first a.second c.copy.new.target c.copy-2.new.target 16 16 refl refl refl m n c.copy.ensures c.copy-2.ensures
