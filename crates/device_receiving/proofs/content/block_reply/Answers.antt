-- `content::block_reply` meets its contract: the reply, and then the READY. Assumes nothing.
use Rattle.std.proofs.Common.{◌∙◌}
use Rattle.device_receiving.proofs.content.block_reply.Goals as goal

pub returns : goal.returns
returns c = c.answered.ensures ∙ rw c.build_content_reply-reply.ensures
