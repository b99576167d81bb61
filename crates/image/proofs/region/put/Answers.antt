-- `region::put` meets its contract: the part that is lent comes back as the bytes. Assumes nothing.
use mathlib.Core.Path.{◌≡◌, ◌∙◌}
use Prim.Native.Nat.{◌+◌, ◌-◌}
use native.Mathlib.Omega.{arith}
use borrow.Author.Tests.{eq-eqb}
use lib.ListN.{length, take, drop, length-take, length-drop}
use Rattle.image.specs.Region.{put, within}
use Rattle.image.proofs.region.Lent.{lent}
use Rattle.image.proofs.region.put.Goals as goal

pub returns : goal.returns
unfolding put within
returns c =
    let a = c.args in
    let at = a.place.0 in
    let n = length a.bytes.now in
    let e : length (take (at + n - at) (drop at a.staging.now)) ≡ n = simp (length-take, length-drop) (omega arith) in
    lent at n (λ old. a.bytes.now) a.staging.now _ (c.copy.ensures ∙ rw (eq-eqb _ _ e))
