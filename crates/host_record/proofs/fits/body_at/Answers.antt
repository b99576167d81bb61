-- `fits::body_at`: past the table it is empty. Assumes nothing.
use lib.ListN.{length, get_or-eq_default}
use mathlib.Core.Path.{◌≡◌}
use Prim.Native.Nat.{◌≤◌}
use native.Mathlib.Omega.{arith}
use Rattle.bundle_layout.specs.Layout.{offer_limit, blank_entry}
use borrow.Author.Rules.{rules}
use Rattle.host_record.proofs.fits.body_at.Goals as goal

pub returns-else-i : goal.returns-else-i
returns-else-i c =
    let l : length c.args.table ≡ offer_limit = search rules in
    let k : length c.args.table ≤ c.args.i = omega (arith, c.if-i.false) in rw (get_or-eq_default c.args.table blank_entry k)
