-- `packet::flags`: each of the four. Assumes nothing.
use Rattle.host_packet.proofs.packet.flags.Goals as goal

pub returns-then-last : goal.returns-then-last
returns-then-last c = rw (c.if-first.true, c.if-last.true)

pub returns-else-last : goal.returns-else-last
returns-else-last c = rw (c.if-first.true, c.if-last.false)

pub returns-then-last-2 : goal.returns-then-last-2
returns-then-last-2 c = rw (c.if-first.false, c.if-last-2.true)

pub returns-else-last-2 : goal.returns-else-last-2
returns-else-last-2 c = rw (c.if-first.false, c.if-last-2.false)
