-- `decision`: N1, or the move, whose numbers fit where N1 does not refuse. Assumes nothing.
use mathlib.Core.Path.{sym, ap, ◌∙◌}
use mathlib.Core.Bool.{Bool}
use Rattle.host_record.proofs.fits.Laws.{room}
use Rattle.std.specs.Prelude.{Some}
use Rattle.host_decide.specs.declared.Move.{Move}
use Rattle.host_decide.specs.Decide.{decide_of, decision_of}
use borrow.Author.Rules.{rules}
use Rattle.host_decide.proofs.decision.Goals as goal

pub returns-then-breaks : goal.returns-then-breaks
unfolding decision_of
returns-then-breaks c = rw (sym c.breaks.ensures, c.if-breaks.true)

pub decide-requires : goal.decide-requires
decide-requires c =
    let a = c.args in
    room a.n a.k (search rules) (search rules) a.h (sym c.breaks.ensures ∙ c.if-breaks.false)

pub returns : goal.returns
unfolding decision_of
returns c =
    let a = c.args in
    rw (sym c.breaks.ensures, c.if-breaks.false)
    (ap (λ (m : Move). Some m) (c.decide.ensures ∙ ap (λ (l : Bool). decide_of a.n l a.h a.reply.now) c.last_in-last.ensures))
