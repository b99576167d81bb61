-- `signal::plain_reply` meets its contract: the reply, and nothing after it. Assumes nothing.
use mathlib.Core.Path.{◌∙◌}
use Rattle.device_offering.proofs.signal.plain_reply.Goals as goal

pub returns : goal.returns
returns c = c.answered.ensures ∙ rw c.build_offer_reply-reply.ensures
