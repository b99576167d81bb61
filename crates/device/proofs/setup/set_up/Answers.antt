-- `setup::set_up` meets its contract: the row that refuses, or the new record where none does. Assumes nothing.
use mathlib.Core.Path.{sym}
use native.Mathlib.Omega.{arith}
use lib.ListN.{length}
use Rattle.std.proofs.lemmas.Result.{err_from_is_err_and}
use Rattle.device.specs.Entries.{set_up_of}
use Rattle.device_component.proofs.setup.Laws.{fine_staging}
use Rattle.device.proofs.setup.set_up.Goals as goal

pub returns-in_err-setup_verdict : goal.returns-in_err-setup_verdict
unfolding set_up_of
returns-in_err-setup_verdict c =
    let p = err_from_is_err_and c.from_residual.result c.from_residual.ensures.1 in
    rw (p.1, p.2, ← c.components_of-components.ensures, ← c.in_err-setup_verdict.ensures)

pub overflow_cast-result : goal.overflow_cast-result
overflow_cast-result c =
    let n = length c.args.staging.now in
    record { fits = omega (arith, fine_staging n _ _ (sym c.in_ok-setup_verdict.ensures)) }

pub returns : goal.returns
unfolding set_up_of
returns c =
    rw (← c.components_of-components.ensures, ← c.in_ok-setup_verdict.ensures, c.idle-session.ensures)
