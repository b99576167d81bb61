-- What stands at a place of the bytes, and the induction over the pieces from there on. Assumes nothing.
use mathlib.Core.Path.{◌≡◌, refl, sym, ap}
use mathlib.Core.Bool.{Bool, true, false, cond}
use mathlib.Core.List.{List, [], ◌∷◌}
use Prim.Native.Nat.{ℕ, zero, suc, ◌+◌, ◌-◌, ◌≤◌, ◌<◌}
use native.Mathlib.Omega.{arith}
use borrow.Author.Tests.{leb-true, leb-false}
use lib.Dec.{leb}
use lib.ListN.{length, drop, length-drop}
use lib.Seq.{drop-drop}
use Rattle.bundle_records.specs.Record.{Block, data_limit}
use Rattle.bundle_cut.specs.declared.Piece.{Piece}
use Rattle.bundle_cut.specs.declared.Piece.TheVariants.{End, Gap, Data}
use Rattle.bundle_cut.specs.Cut.{run_least, leading, run_at, reach, piece_at, record_of, onwards, cut_from, cut}
use Rattle.bundle_cut.proofs.Runs.{run_inside, reach_most, reach_inside, reach_short, reach_stops, reach_some}

-- a run that is left out stands from place `at` to place `to`
pub record IsGap (d : List ℕ) (at to : ℕ) : Type 0 where
  pub long : run_least ≤ run_at d at
  pub next : to ≡ at + run_at d at
  pub inside : to ≤ length d

-- the bytes of a record do
pub record IsData (d : List ℕ) (at to : ℕ) : Type 0 where
  pub some : at < to
  pub few : to ≤ at + data_limit
  pub inside : to ≤ length d
  pub short : (x : ℕ) → at ≤ x → x < to → run_at d x < run_least
  pub stops : to < at + data_limit → to < length d → run_least ≤ run_at d to

abbrev pub Says : (d : List ℕ) (at : ℕ) → Piece → Type 0
Says d at End = length d ≤ at
Says d at (Gap to) = IsGap d at to
Says d at (Data to) = IsData d at to

module _ (d : List ℕ) (at : ℕ) where
  data_says : at < length d → run_at d at < run_least → IsData d at (at + reach data_limit (drop at d))
  data_says h k =
      let l = length-drop at d in
      let n = reach data_limit (drop at d) in
      let later : (y : ℕ) → leading (drop y (drop at d)) ≡ run_at d (at + y) = λ y. ap leading (drop-drop y at d) in record {
        some = omega (arith, reach_some 51 (drop at d) (omega arith) k);
        few = omega (arith, reach_most data_limit (drop at d));
        inside = omega (arith, reach_inside data_limit (drop at d));
        short = λ x p q. let e : at + (x - at) ≡ x = omega arith in rw (later (x - at), e) at (reach_short data_limit (drop at d) (x - at) (omega arith));
        stops = λ p q. rw (later n) at (reach_stops data_limit (drop at d) (omega arith) (omega arith));
      }

  -- one step
  pub says : Says d at (piece_at d at)
  unfolding piece_at
  says = go _ _ refl refl where
    go : (s t : Bool) → leb (length d) at ≡ s → leb run_least (run_at d at) ≡ t
        → Says d at (cond s End (cond t (Gap (at + run_at d at)) (Data (at + reach data_limit (drop at d)))))
    go true t p q = leb-true _ _ p
    go false true p q =
        let h = leb-false (length d) at p in
        record { long = leb-true _ _ q; next = refl; inside = run_inside d at (omega arith) }
    go false false p q = data_says (leb-false _ _ p) (leb-false _ _ q)

-- what holds where nothing is left, and holds with a piece more in front of what it holds of, holds of the records from any place on
module _ (d : List ℕ) (P : (at : ℕ) → List Block → Type 0) (none : (at : ℕ) → at ≡ length d → P at [])
    (gap : (at to : ℕ) (rs : List Block) → IsGap d at to → P to rs → P at rs)
    (part : (at to : ℕ) (rs : List Block) → IsData d at to → P to rs → P at (record_of d at to ∷ rs)) where
  pub from_pieces : (fuel at : ℕ) → at ≤ length d → length d ≤ at + fuel → P at (cut_from fuel d at)
  unfolding cut_from
  from_pieces zero at h l = none at (omega arith)
  from_pieces (suc fuel) at h l = go (piece_at d at) (says d at) (from_pieces fuel) where
    go : (p : Piece) → Says d at p → ((to : ℕ) → to ≤ length d → length d ≤ to + fuel → P to (cut_from fuel d to)) → P at (onwards (cut_from fuel d) d at p)
    go End s ih = none at (omega arith)
    go (Gap to) s ih = gap at to (cut_from fuel d to) s (ih to s.inside (omega (arith, s.long, s.next)))
    go (Data to) s ih = part at to (cut_from fuel d to) s (ih to s.inside (omega (arith, s.some)))

  pub by_pieces : P 0 (cut d)
  by_pieces = from_pieces (length d) 0 (omega arith) (omega arith)

-- from the end on there is none
pub none_left : (d : List ℕ) (f at : ℕ) → length d ≤ at → cut_from f d at ≡ []
unfolding cut_from
none_left d zero at h = refl
none_left d (suc f) at h = go (piece_at d at) (says d at) where
  go : (p : Piece) → Says d at p → onwards (cut_from f d) d at p ≡ []
  go End s = refl
  go (Gap to) s = absurd (omega (arith, s.long, s.next, s.inside))
  go (Data to) s = absurd (omega (arith, s.some, s.inside))

-- fuel does not matter once it is enough
pub enough : (d : List ℕ) (f g at : ℕ) → length d ≤ at + f → length d ≤ at + g → cut_from f d at ≡ cut_from g d at
unfolding cut_from
enough d zero g at h k = sym (none_left d g at (omega arith))
enough d (suc f) zero at h k = none_left d (suc f) at (omega arith)
enough d (suc f) (suc g) at h k = go (piece_at d at) (says d at) (enough d f g) where
  go : (p : Piece) → Says d at p → ((to : ℕ) → length d ≤ to + f → length d ≤ to + g → cut_from f d to ≡ cut_from g d to)
      → onwards (cut_from f d) d at p ≡ onwards (cut_from g d) d at p
  go End s ih = refl
  go (Gap to) s ih = ih to (omega (arith, s.long, s.next)) (omega (arith, s.long, s.next))
  go (Data to) s ih = ap (λ (rs : List Block). record_of d at to ∷ rs) (ih to (omega (arith, s.some)) (omega (arith, s.some)))

-- so one step is by what stands there, with as much fuel as before
pub one_step : (d : List ℕ) (f at : ℕ) → length d ≤ at + f → cut_from f d at ≡ onwards (cut_from f d) d at (piece_at d at)
unfolding cut_from
one_step d f at h = enough d f (suc f) at h (omega arith)
