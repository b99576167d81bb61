-- `cfu_bundle_check` meets its contract: C3, or the check, whose contents are left. Assumes nothing.
use Rattle.c_host.specs.Check.{check_call}
use Rattle.c_host.proofs.Check.{row_number, check_told}
use borrow.Author.Tests.{ne_eqb}
use Rattle.c_host.proofs.cfu_bundle_check.Goals as goal

pub returns-then-contents-ne-CONTENTS_SIZE : goal.returns-then-contents-ne-CONTENTS_SIZE
unfolding check_call
returns-then-contents-ne-CONTENTS_SIZE c = rw (ne_eqb _ _ c.if-contents-ne-CONTENTS_SIZE.true)

pub returns-in-Ok : goal.returns-in-Ok
returns-in-Ok c =
    let a = c.args in
    let k = check_told a.bundle.now a.contents.now c.contents_bytes-b.result c.copy.new.target c.check-told.result c.if-contents-ne-CONTENTS_SIZE.false c.check-told.ensures c.contents_bytes-b.ensures c.contents_bytes-b.type_inv.1.0.1 c.copy.ensures in
    rw c.in-Ok.is at k

pub returns-in-Err : goal.returns-in-Err
returns-in-Err c =
    let a = c.args in
    let k = check_told a.bundle.now a.contents.now c.contents_bytes-b.result c.copy.new.target c.check-told.result c.if-contents-ne-CONTENTS_SIZE.false c.check-told.ensures c.contents_bytes-b.ensures c.contents_bytes-b.type_inv.1.0.1 c.copy.ensures in
    rw (c.lettered.ensures, c.number.ensures, row_number c.in-Err.r.row) (rw c.in-Err.is at k)
