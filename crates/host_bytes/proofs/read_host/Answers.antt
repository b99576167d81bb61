-- `read_host` meets its contract: the fields, each from its bytes, where the length and the flags are a record's. Assumes nothing.
use mathlib.Core.Bool.{true, false}
use Rattle.host_bytes.proofs.Record.{flags_read, fields_read, read_fits, read_refused}
use Rattle.host_bytes.proofs.read_host.Goals.{After-are_flags, After-byte_at, After-byte_at-landed, After-byte_at-passed, After-byte_at-skipped, After-stage_in-stage, After-word32_at, After-word32_at-first, After-word32_at-then-b-are_flags, After-word32_at-then-b-are_flags-2, Else-b-are_flags, Then-b-are_flags}
use Rattle.host_bytes.proofs.read_host.Goals as goal

pub returns-then-b-are_flags : goal.returns-then-b-are_flags
returns-then-b-are_flags c =
    let p4 = (goal.at.returns-then-b-are_flags c).After-word32_at-then-b-are_flags-2 in
    let p3 = (goal.at.returns-then-b-are_flags c).After-word32_at-then-b-are_flags in
    let t0 = (goal.at.returns-then-b-are_flags c).After-byte_at in
    let s = (goal.at.returns-then-b-are_flags c).After-stage_in-stage in
    let w2 = (goal.at.returns-then-b-are_flags c).After-word32_at in
    let t = (goal.at.returns-then-b-are_flags c).Then-b-are_flags in
    let f = (goal.at.returns-then-b-are_flags c).After-are_flags in
    let z = (goal.at.returns-then-b-are_flags c).After-byte_at-passed in
    let y = (goal.at.returns-then-b-are_flags c).After-byte_at-landed in
    let x = (goal.at.returns-then-b-are_flags c).After-byte_at-skipped in
    let e = (goal.at.returns-then-b-are_flags c).After-word32_at-first in
    let n = e in
    let b = n.args.b.now in
    read_fits b _
    (flags_read b n.byte_at-number.result e.word32_at-first.result x.byte_at-skipped.result y.byte_at-landed.result z.byte_at-passed.result true f.are_flags.result n.byte_at-number.ensures e.word32_at-first.ensures x.byte_at-skipped.ensures y.byte_at-landed.ensures z.byte_at-passed.ensures
    f.are_flags.ensures t.if-b-are_flags.true)
    (fields_read b _ _ _ _ n.byte_at-number.result e.word32_at-first.result w2.word32_at.result x.byte_at-skipped.result y.byte_at-landed.result z.byte_at-passed.result _ t0.byte_at.ensures s.stage_in-stage.ensures n.byte_at-number.ensures
    e.word32_at-first.ensures w2.word32_at.ensures p3.word32_at-then-b-are_flags.ensures p4.word32_at-then-b-are_flags-2.ensures c.word32_at-then-b-are_flags-3.ensures x.byte_at-skipped.ensures y.byte_at-landed.ensures z.byte_at-passed.ensures)

pub returns-else-b-are_flags : goal.returns-else-b-are_flags
returns-else-b-are_flags c =
    let t = (goal.at.returns-else-b-are_flags c).Else-b-are_flags in
    let f = (goal.at.returns-else-b-are_flags c).After-are_flags in
    let z = (goal.at.returns-else-b-are_flags c).After-byte_at-passed in
    let y = (goal.at.returns-else-b-are_flags c).After-byte_at-landed in
    let x = (goal.at.returns-else-b-are_flags c).After-byte_at-skipped in
    let e = (goal.at.returns-else-b-are_flags c).After-word32_at-first in
    let n = e in
    let b = n.args.b.now in
    read_refused b _
    (flags_read b n.byte_at-number.result e.word32_at-first.result x.byte_at-skipped.result y.byte_at-landed.result z.byte_at-passed.result false f.are_flags.result n.byte_at-number.ensures e.word32_at-first.ensures x.byte_at-skipped.ensures y.byte_at-landed.ensures z.byte_at-passed.ensures
    f.are_flags.ensures t.if-b-are_flags.false)
    c.refused_host.ensures
