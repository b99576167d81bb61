-- `laid`: the row and the count, the bodies, and the end that no block has. Assumes nothing.
use Rattle.host_bytes.proofs.Contents.{contents_of}
use borrow.Author.Rules.{rules}
use Rattle.host_bytes.proofs.laid.Goals as goal

pub returns : goal.returns
returns c =
    let a = c.args in
    contents_of c.with_bodies-filled.result c.store_hand.new.q a.row a.place a.count a.table (search rules) c.with_bodies-filled.ensures c.store_hand.ensures
