-- `previous_in` meets its contract: by the length. Assumes nothing.
use borrow.Author.Tests.{le-leb, lt-leb}
use Rattle.device_session_bytes.proofs.Laws.{previous_of}
use Rattle.device_session_bytes.proofs.previous_in.Goals as goal

pub returns-then-q-ge-SESSION_SIZE : goal.returns-then-q-ge-SESSION_SIZE
returns-then-q-ge-SESSION_SIZE c =
    let t = c in
    rw (le-leb _ _ t.if-q-ge-SESSION_SIZE.true) (previous_of t.args.q.now _ t.if-q-ge-SESSION_SIZE.true c.copy.ensures)

pub returns-else-q-ge-SESSION_SIZE : goal.returns-else-q-ge-SESSION_SIZE
returns-else-q-ge-SESSION_SIZE c = rw (lt-leb _ _ c.if-q-ge-SESSION_SIZE.false)
