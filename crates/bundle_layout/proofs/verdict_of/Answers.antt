-- `verdict_of`: from 8 on it is B8. Assumes nothing.
use mathlib.Core.Path.{sym}
use Prim.Native.Nat.{◌≤◌}
use native.Mathlib.Omega.{arith}
use lib.ListN.{get_or-eq_default}
use Rattle.std.specs.Prelude.{Some}
use Rattle.bundle_layout.specs.declared.BundleRow.TheVariants.{B8}
use Rattle.bundle_layout.specs.Rows.{verdict_list}
use Rattle.bundle_layout.proofs.verdict_of.Goals as goal

pub returns-in_default : goal.returns-in_default
returns-in_default c =
    let l : 8 ≤ c.args.number = omega arith in
    sym (get_or-eq_default verdict_list (Some B8) l)
