-- `cfu_device_set_up` meets its contract: C1, C2, the row that refuses, or the new record. Assumes nothing.
use mathlib.Core.Path.{◌≡◌}
use mathlib.Core.Bool.{true}
use native.Mathlib.Omega.{arith}
use lib.Dec.{eqb}
use lib.ListN.{length}
use Prim.Native.Nat.{ℕ}
use Rattle.device_bytes.specs.Layout.{device_size, list_size}
use Rattle.c_types.specs.Numbers.{wrong_list}
use Rattle.c_types.specs.Lent.{leaves}
use Rattle.c_types.proofs.lent.Laws.{lent_refused, lent_served}
use Rattle.c_device.specs.Device.{set_up_call}
use Rattle.c_device.proofs.Laws.{of_setup}
use Rattle.c_device.proofs.cfu_device_set_up.Goals.{Else-number-ne-SERVED}
use Rattle.c_device.proofs.cfu_device_set_up.Goals as goal

-- both buffers fit
fit : (c : Else-number-ne-SERVED) → (eqb (length c.args.device.now) device_size ≡ true) × (eqb (length c.args.list.now) list_size ≡ true)
fit c = lent_served _ _ wrong_list _ (omega arith) c.lent_number-number.ensures c.if-number-ne-SERVED.false

pub returns-then-number-ne-SERVED : goal.returns-then-number-ne-SERVED
unfolding set_up_call
returns-then-number-ne-SERVED c =
    let a = c.args in
    lent_refused (eqb (length a.device.now) device_size) (eqb (length a.list.now) list_size) wrong_list _ (λ (m : ℕ). leaves m a.device.now) _ c.lent_number-number.ensures c.if-number-ne-SERVED.true

pub returns-in-Ok : goal.returns-in-Ok
unfolding set_up_call
returns-in-Ok c =
    let t = fit (goal.at.returns-in-Ok c).Else-number-ne-SERVED in
    rw (t.0, t.1, ← c.read_list.ensures, ← c.in-Ok.ensures, c.copy_from_slice.ensures.after, c.device_bytes.ensures)

pub returns-in-Err : goal.returns-in-Err
unfolding set_up_call
returns-in-Err c =
    let t = fit (goal.at.returns-in-Err c).Else-number-ne-SERVED in
    rw (t.0, t.1, ← c.read_list.ensures, ← c.in-Err.ensures, c.lettered.ensures, c.number.ensures, of_setup c.in-Err.row)
