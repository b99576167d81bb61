-- `put::put_words`: after i turns the first i words are laid. Assumes nothing.
use Rattle.host_bytes.proofs.Words.{Laid}
use Rattle.host_bytes.proofs.put.put_words.Given as goal

abbrev pub invariant-loop-i : goal.invariant-loop-i
invariant-loop-i l = Laid l.initial.out l.values l.at l.out l.i
