-- `session_in` meets its contract: each part from its bytes. Assumes nothing.
use Rattle.device_session_bytes.proofs.session_in.Goals.{After-owed_in-owed}
use Rattle.device_session_bytes.proofs.session_in.Goals as goal

pub returns : goal.returns
returns c =
    let o = (goal.at.returns c).After-owed_in-owed in
    let s = o in
    rw (c.previous_in-previous.ensures, o.owed_in-owed.ensures, o.byte_at-5.ensures, o.byte_at-4.ensures, s.stage_in-stage.ensures, s.word16_at.ensures, s.byte_at-3.ensures, s.byte_at-2.ensures, s.byte_at.ensures)
