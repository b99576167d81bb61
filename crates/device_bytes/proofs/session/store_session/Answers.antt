-- `session::store_session` meets its contract: the session over its own bytes. Assumes nothing.
use mathlib.Core.Path.{◌≡◌, refl}
use lib.ListN.{length}
use Rattle.device_session_bytes.specs.Layout.{session_size}
use Rattle.device_bytes.proofs.Stored.{session_stored, session_stays}
use borrow.Author.Rules.{rules}
use Rattle.device_bytes.proofs.session.store_session.Goals as goal

pub returns-then-b-eq-DEVICE_SIZE : goal.returns-then-b-eq-DEVICE_SIZE
returns-then-b-eq-DEVICE_SIZE c =
    let s = c in
    let a = s.args in
    let l : length s.session_bytes-s.result ≡ session_size = search rules in
    session_stored a.b.now _ _ a.session session_size s.if-b-eq-DEVICE_SIZE.true refl l s.session_bytes-s.ensures c.copy.ensures

pub returns-else-b-eq-DEVICE_SIZE : goal.returns-else-b-eq-DEVICE_SIZE
returns-else-b-eq-DEVICE_SIZE c = session_stays c.args.session _ c.if-b-eq-DEVICE_SIZE.false
