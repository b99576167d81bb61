-- `list::store_listed` meets its contract: the component over the bytes of its place. Assumes nothing.
use mathlib.Core.Path.{◌≡◌, refl}
use Prim.Native.Nat.{◌+◌, ◌-◌}
use native.Mathlib.Omega.{arith}
use Rattle.device_component_bytes.specs.Layout.{listed_size}
use Rattle.device_bytes.specs.Layout.{listed_start}
use Rattle.device_bytes.proofs.list.Laws.{place_within, listed_stored, listed_stays}
use Rattle.device_bytes.proofs.list.store_listed.Goals as goal

pub slice_bounds-copy-end : goal.slice_bounds-copy-end
slice_bounds-copy-end c = let a = c.args in place_within a.place _ a.b.now refl c.if-b-place.true

pub returns-then-b-place : goal.returns-then-b-place
returns-then-b-place c =
    let s = c in
    let a = s.args in
    let n = listed_start a.place in
    let k : (n + listed_size) - n ≡ listed_size = omega arith in
    listed_stored a.b.now _ _ a.place n _ a.listed s.if-b-place.true refl k s.listed_bytes-p.ensures c.copy.ensures

pub returns-else-b-place : goal.returns-else-b-place
returns-else-b-place c = let a = c.args in listed_stays a.place a.listed a.b.now c.if-b-place.false
