-- `is_record` meets its contract: by the length, and by the flags. Assumes nothing.
use mathlib.Core.Path.{ap, ◌∙◌}
use borrow.Author.Tests.{eq-eqb, ne_eqb}
use Rattle.wire.proofs.Pieces.{rest}
use Rattle.device_session_bytes.specs.Layout.{session_flags_fit}
use Rattle.device_bytes.specs.Layout.{session_start, is_record}
use Rattle.device_bytes.proofs.is_record.Goals as goal

pub returns-then-b-ne-DEVICE_SIZE : goal.returns-then-b-ne-DEVICE_SIZE
unfolding is_record
returns-then-b-ne-DEVICE_SIZE c = rw (ne_eqb _ _ c.if-b-ne-DEVICE_SIZE.true)

pub returns : goal.returns
unfolding is_record
returns c =
    let s = c in
    let b = c.args.b.now in
    rw (eq-eqb _ _ c.if-b-ne-DEVICE_SIZE.false, s.session_flags_fit.ensures ∙ ap session_flags_fit (rest session_start b), c.staged_fit.ensures)
