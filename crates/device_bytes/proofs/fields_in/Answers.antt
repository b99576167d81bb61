-- `fields_in` meets its contract: by the length, and each field from its bytes. Assumes nothing.
use borrow.Author.Tests.{eq-eqb, ne_eqb}
use Rattle.device_bytes.specs.Layout.{device_in, fields_in}
use Rattle.device_bytes.proofs.fields_in.Goals as goal

pub returns-then-b-eq-DEVICE_SIZE : goal.returns-then-b-eq-DEVICE_SIZE
unfolding fields_in device_in
returns-then-b-eq-DEVICE_SIZE c =
    let s = c in
    rw (eq-eqb _ _ s.if-b-eq-DEVICE_SIZE.true, c.count_in.ensures, c.staging_len_in.ensures, c.platform_in.ensures, s.session_in-session.ensures, s.components_in-components.ensures)

pub returns-else-b-eq-DEVICE_SIZE : goal.returns-else-b-eq-DEVICE_SIZE
unfolding fields_in
returns-else-b-eq-DEVICE_SIZE c = rw (ne_eqb _ _ c.if-b-eq-DEVICE_SIZE.false) c.blank.ensures
