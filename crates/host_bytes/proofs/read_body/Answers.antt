-- `read_body` meets its contract: the body at its place, where there is one. Assumes nothing.
use mathlib.Core.Path.{sym, ◌∙◌}
use native.Mathlib.Omega.{arith}
use lib.Dec.{eqb}
use lib.ListN.{length}
use Rattle.host_bytes.specs.Layout.{contents_size, body_read}
use Rattle.host_bytes.proofs.Contents.{entry_listed, body_listed}
use Rattle.host_bytes.proofs.read_body.Goals as goal

pub overflow_cast-i-then-q-i : goal.overflow_cast-i-then-q-i
overflow_cast-i-then-q-i c =
    let a = c.args in omega (arith, entry_listed (eqb (length a.q.now) contents_size) a.i c.if-q-i.true)

pub overflow_mul-i : goal.overflow_mul-i
overflow_mul-i c =
    let a = c.args in omega (arith, entry_listed (eqb (length a.q.now) contents_size) a.i c.if-q-i.true)

pub overflow_add-i : goal.overflow_add-i
overflow_add-i c =
    let a = c.args in omega (arith, entry_listed (eqb (length a.q.now) contents_size) a.i c.if-q-i.true)

pub body_from-requires : goal.body_from-requires
body_from-requires c =
    let a = c.args in omega (arith, entry_listed (eqb (length a.q.now) contents_size) a.i c.if-q-i.true)

pub returns-then-q-i : goal.returns-then-q-i
unfolding body_read
returns-then-q-i c =
    let t = c in
    let a = t.args in
    rw t.if-q-i.true (c.body_from.ensures ∙ sym (body_listed a.q.now a.i (entry_listed (eqb (length a.q.now) contents_size) a.i t.if-q-i.true)))

pub returns-else-q-i : goal.returns-else-q-i
unfolding body_read
returns-else-q-i c = rw c.if-q-i.false
