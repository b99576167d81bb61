-- `walk::first`: each test, and its answer. Assumes nothing.
use mathlib.Core.Path.{sym}
use borrow.Author.Tests.{eq-eqb, ne_eqb, lt-ltb, le-ltb}
use Rattle.bundle_records.specs.Record.{head_in}
use Rattle.bundle_records.proofs.walk.first.Goals.{Then-is_sound}
use Rattle.bundle_records.proofs.walk.first.Goals as goal

pub returns-then-n-eq0 : goal.returns-then-n-eq0
unfolding head_in
returns-then-n-eq0 c = simp (eq-eqb _ _ c.if-n-eq0.true)

pub returns-then-n-lt5 : goal.returns-then-n-lt5
unfolding head_in
returns-then-n-lt5 c = simp (ne_eqb _ _ c.if-n-eq0.false, lt-ltb _ _ c.if-n-lt5.true)

pub returns-then-is_sound : goal.returns-then-is_sound
unfolding head_in
returns-then-is_sound c =
    let s = (goal.at.returns-then-is_sound c).Then-is_sound in
    let e = s in
    rw (ne_eqb _ _ e.if-n-eq0.false, le-ltb _ _ e.if-n-lt5.false, sym s.is_sound.ensures, s.if-is_sound.true, c.new-address.ensures, c.word32.ensures)

pub returns-else-is_sound : goal.returns-else-is_sound
unfolding head_in
returns-else-is_sound c =
    let e = c in
    rw (ne_eqb _ _ e.if-n-eq0.false, le-ltb _ _ e.if-n-lt5.false, sym c.is_sound.ensures, c.if-is_sound.false)
