-- `report_number` meets its contract: the test, and each answer. Assumes nothing.
use borrow.Author.Tests.{le-leb, lt-leb}
use Rattle.c_host.proofs.report_number.Goals as goal

pub returns-then-packets-ge-PACKET_LIMIT : goal.returns-then-packets-ge-PACKET_LIMIT
returns-then-packets-ge-PACKET_LIMIT c = rw (c.lettered.ensures, c.number.ensures, le-leb _ _ c.if-packets-ge-PACKET_LIMIT.true)

pub returns-else-packets-ge-PACKET_LIMIT : goal.returns-else-packets-ge-PACKET_LIMIT
returns-else-packets-ge-PACKET_LIMIT c = rw (lt-leb _ _ c.if-packets-ge-PACKET_LIMIT.false)
