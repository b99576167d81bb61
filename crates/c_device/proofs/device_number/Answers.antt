-- `device_number` meets its contract: the letter and the row's own number. Assumes nothing.
use mathlib.Core.Path.{◌∙◌, ap}
use Rattle.c_types.specs.Numbers.{lettered_of, letter_d}
use Rattle.c_device.proofs.Laws.{of_device}
use Rattle.c_device.proofs.device_number.Goals as goal

pub returns : goal.returns
returns c = c.lettered.ensures ∙ ap (lettered_of letter_d) c.number.ensures ∙ of_device c.args.refusal
