-- `decide::with_bit`: `|` with one bit. Assumes nothing.
use Rattle.host_decide.proofs.decide.Laws.{or_bit}
use borrow.Author.Rules.{rules}
use Rattle.host_decide.proofs.decide.with_bit.Goals as goal

pub returns : goal.returns
returns c = or_bit 32 c.args.i c.args.mask (search rules)
