-- `session_bytes` meets its contract: the bytes of its parts, one behind the other. Assumes nothing.
use mathlib.Core.Path.{◌≡◌, refl}
use lib.ListN.{length, replicate}
use Rattle.wire.specs.Codes.{long_size}
use Rattle.device_session_bytes.specs.Layout.{session_size}
use Rattle.device_session_bytes.proofs.Laws.{session_of}
use borrow.Author.Rules.{rules}
use Rattle.device_session_bytes.proofs.session_bytes.Goals.{After-copy, After-copy-2, After-owed_bytes-o, Start}
use Rattle.device_session_bytes.proofs.session_bytes.Goals as goal

-- the previous packet has the size of one
previous_long : (c : Start) → length c.args.session.previous ≡ long_size
previous_long c = search rules

pub returns : goal.returns
returns c =
    let y = (goal.at.returns c).After-copy-2 in
    let x = (goal.at.returns c).After-copy in
    let o = (goal.at.returns c).After-owed_bytes-o in
    let start = (goal.at.returns c).Start in
    session_of start.args.session (replicate session_size 0) _ _ _ _ _ refl (previous_long start) o.stage_bytes-s.ensures o.owed_bytes-o.ensures x.copy.ensures y.copy-2.ensures c.copy-3.ensures
