-- `packet_number` meets its contract: the letter and the row's own number. Assumes nothing.
use mathlib.Core.Path.{◌∙◌, ap}
use Rattle.c_types.specs.Numbers.{lettered_of, letter_p}
use Rattle.c_types.proofs.numbers.Laws.{of_packet_lem}
use Rattle.c_types.proofs.numbers.packet_number.Goals as goal

pub returns : goal.returns
returns c = c.lettered.ensures ∙ ap (lettered_of letter_p) c.number.ensures ∙ of_packet_lem c.args.refusal
