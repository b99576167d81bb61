-- `answered` meets its contract: the replies that are sent, or zeros. Assumes nothing.
use mathlib.Core.Path.{◌∙◌}
use Rattle.c_device_packet.proofs.Laws.{none_sent}
use Rattle.c_device_packet.proofs.answered.Goals as goal

pub returns-in-Err : goal.returns-in-Err
returns-in-Err c =
    (rw (c.in-Err.is, c.device_number.ensures), rw c.in-Err.is (c.fill.ensures.after (λ y e. e) ∙ rw c.requires none_sent))
