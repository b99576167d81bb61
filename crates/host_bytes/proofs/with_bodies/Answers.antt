-- `with_bodies` meets its contract. After i turns the first i bodies are written. Assumes nothing.
use mathlib.Core.Path.{sym}
use mathlib.Core.List.{append-nil}
use native.Mathlib.Omega.{arith}
use lib.ListN.{take}
use Rattle.host_bytes.specs.Layout.{bodies_start, bodies_bytes}
use Rattle.host_bytes.proofs.Contents.{body_written, written}
use borrow.Author.Rules.{rules}
use Rattle.host_bytes.proofs.with_bodies.Goals.{After-put_words}
use Rattle.host_bytes.proofs.with_bodies.Goals as goal

pub loop-i-init : goal.loop-i-init
unfolding bodies_bytes
loop-i-init c = (search rules, search rules, search rules, sym (append-nil _))

pub loop-i-preserved : goal.loop-i-preserved
loop-i-preserved c =
    let x = (goal.at.loop-i-preserved c).After-put_words in
    let t = x in
    let l = t.loop-i in
    let a = t.args in
    let w = body_written l.out (take bodies_start a.out) x.put_words.new.out a.table l.i (omega arith) l.invariant.1 l.invariant.2 x.put_words.ensures l.invariant.3 in
    (omega arith, l.invariant.1, w.0, w.1)

pub returns : goal.returns
returns c =
    let l = c.loop-i in
    let a = c.args in written l.out (take bodies_start a.out) a.table l.i (omega arith) l.invariant.1 l.invariant.3
