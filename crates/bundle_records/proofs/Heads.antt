-- What the head of a body says of the body. Assumes nothing.
use mathlib.Core.Path.{◌≡◌, refl}
use mathlib.Core.Bool.{Bool, true, false, cond, ◌&&◌}
use mathlib.Core.List.{List, [], ◌∷◌}
use Prim.Native.Nat.{ℕ, ◌+◌, ◌-◌, ◌≤◌}
use native.Mathlib.Omega.{arith}
use borrow.Author.Tests.{eqb-true, ltb-false, leb-true}
use lib.Dec.{eqb, leb, ltb}
use lib.ListN.{length, get_or}
use Rattle.wire.specs.Bytes.{number, bytes_at}
use Rattle.wire.specs.declared.address.RegionAddress.{RegionAddress}
use Rattle.wire.proofs.Tests.{both}
use Rattle.bundle_records.specs.declared.Head.{Head}
use Rattle.bundle_records.specs.declared.Head.TheVariants.{Empty, Cut, Whole}
use Rattle.bundle_records.specs.Record.{data_limit, is_sound, head_in}

-- a whole record: its fields are those of its places, and it lies within the body
pub record Found (body : List ℕ) (address : RegionAddress) (size : ℕ) : Type 0 where
  pub placed : record { 0 = number (bytes_at 4 0 body) } ≡ address
  pub sized : get_or body 4 0 ≡ size
  pub some : 1 ≤ size
  pub few : size ≤ data_limit
  pub fits : 5 + size ≤ length body

abbrev pub Seen : List ℕ → Head → Type 0
Seen body Empty = body ≡ []
Seen body Cut = Unit {0}
Seen body (Whole address size) = Found body address size

empty_is : (body : List ℕ) → length body ≡ 0 → body ≡ []
empty_is [] h = refl
empty_is (x ∷ body) h = absurd (omega arith)

seen_by : (body : List ℕ) (a b d : Bool) → eqb (length body) 0 ≡ a → ltb (length body) 5 ≡ b → is_sound (get_or body 4 0) (length body - 5) ≡ d
    → Seen body (cond a Empty (cond b Cut (cond d (Whole (record { 0 = number (bytes_at 4 0 body) }) (get_or body 4 0)) Cut)))
seen_by body true b d p q e = empty_is body (eqb-true _ _ p)
seen_by body false true d p q e = tt
seen_by body false false false p q e = tt
seen_by body false false true p q e =
    let n = get_or body 4 0 in
    let s = both (leb 1 n && leb n data_limit) (leb n (length body - 5)) e in
    let t = both (leb 1 n) (leb n data_limit) s.0 in
    let l = ltb-false (length body) 5 q in
    let m = leb-true n (length body - 5) s.1 in record {
      placed = refl;
      sized = refl;
      some = leb-true _ _ t.0;
      few = leb-true _ _ t.1;
      fits = omega arith;
    }

-- the head of a body
pub seen : (body : List ℕ) → Seen body (head_in body)
unfolding head_in
seen body = seen_by body _ _ _ refl refl refl
