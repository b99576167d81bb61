-- `count_of` meets its contract: by what is due and what is owed. Assumes nothing.
use Rattle.c_device_packet.proofs.count_of.Goals as goal

pub returns-then-replies : goal.returns-then-replies
returns-then-replies c = rw (c.if-replies.true, c.in-None.is)

pub returns-then-replies-2 : goal.returns-then-replies-2
returns-then-replies-2 c = rw (c.if-replies-2.true, c.in-Some.is)
