-- The places of the components. Assumes nothing.
use mathlib.Core.Path.{◌≡◌}
use mathlib.Core.Bool.{true}
use mathlib.Core.List.{List}
use Prim.Native.Nat.{ℕ, ◌+◌, ◌≤◌}
use native.Mathlib.Omega.{arith}
use borrow.Author.Tests.{eqb-true, ltb-true}
use lib.Dec.{eqb, ltb}
use lib.ListN.{length}
use Rattle.wire.specs.Codes.{component_limit}
use Rattle.wire.proofs.Tests.{both}
use Rattle.device_component_bytes.specs.Layout.{component_size}
use Rattle.device_bytes.specs.Layout.{device_size, component_start, has_slot}

-- the bytes of a slot stand within a record's, and so does the place where they start
pub slot_within : (slot at : ℕ) (b : List ℕ) → at ≡ component_start slot → has_slot slot b ≡ true → at + component_size ≤ length b
slot_within slot at b e h =
    let t = both (eqb (length b) device_size) (ltb slot component_limit) h in
    omega (arith, eqb-true (length b) device_size t.0, ltb-true slot component_limit t.1)

pub start_within : (slot at : ℕ) (b : List ℕ) → at ≡ component_start slot → has_slot slot b ≡ true → at ≤ length b
start_within slot at b e h = omega (arith, slot_within slot at b e h)
