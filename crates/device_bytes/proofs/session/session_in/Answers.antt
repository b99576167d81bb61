-- `session::session_in` meets its contract: the bytes from the session's place on, or none. Assumes nothing.
use mathlib.Core.Path.{ap, ◌∙◌}
use Rattle.device_session_bytes.specs.Layout.{session_in}
use Rattle.device_bytes.specs.Layout.{session_start}
use Rattle.device_bytes.proofs.Record.{rest_least}
use Rattle.device_bytes.proofs.session.session_in.Goals as goal

pub returns : goal.returns
returns c =
    c.session_in.ensures ∙ ap session_in (rest_least session_start _ c.args.b.now c.least-at.ensures)
