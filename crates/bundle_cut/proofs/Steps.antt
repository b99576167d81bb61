-- One byte more of a run, and where it ends. Assumes nothing.
use mathlib.Core.Path.{◌≡◌, refl, ap}
use mathlib.Core.Bool.{Bool, true, false}
use mathlib.Core.List.{List, ◌∷◌}
use mathlib.Core.Logic.{◌⊎◌, inl, inr}
use Prim.Native.Nat.{ℕ, zero, suc, ◌+◌, ◌-◌, ◌≤◌, ◌<◌, min}
use native.Mathlib.Nat.{not-suc-le-zero, suc-ne-zero}
use native.Mathlib.Omega.{arith}
use native.Mathlib.Numerals.{add-one}
use borrow.Author.Tests.{ltb-true, ltb-false, leb-true, leb-false, le-leb, lt-leb, eq-eqb, ne_eqb}
use lib.Dec.{leb, ltb}
use lib.ListN.{length, get_or, drop, drop_of_length-le}
use lib.Seq.{drop-cons}
use Rattle.bundle_cut.proofs.Runs.{run_later}
use Rattle.bundle_cut.specs.Cut.{erased_byte, run_least, leading, run_at, reach}

module _ (d : List ℕ) (x : ℕ) where
  -- a byte 0xFF, and the run after it
  pub run_on : x < length d → get_or d x 0 ≡ erased_byte → run_at d x ≡ suc (run_at d (x + 1))
  unfolding leading
  run_on h e = rw (drop-cons d x 0 h, eq-eqb (get_or d x 0) erased_byte e, add-one)

  -- another byte
  pub run_stops : x < length d → (get_or d x 0 ≡ erased_byte → ⊥) → run_at d x ≡ 0
  unfolding leading
  run_stops h e = rw (drop-cons d x 0 h, ne_eqb (get_or d x 0) erased_byte e)

  -- the end
  pub run_ends : length d ≤ x → run_at d x ≡ 0
  unfolding leading
  run_ends h = rw (drop_of_length-le d h)

-- no run of 52 or more begins from one place to another
abbrev pub Short : (d : List ℕ) → (at x : ℕ) → Type 0
Short d at x = (y : ℕ) → at ≤ y → y < x → run_at d y < run_least

-- a shorter run is passed over, with the byte after it
pub short_on : (d : List ℕ) (at x : ℕ) → x < length d → run_at d x < run_least → Short d at x → Short d at (x + (run_at d x + 1))
short_on d at x h r s y a b = go (ltb y x) refl where
  go : (t : Bool) → ltb y x ≡ t → run_at d y < run_least
  go true p = s y a (ltb-true y x p)
  go false p =
      let q = ltb-false y x p in
      let e : x + (y - x) ≡ y = omega arith in
      let k : run_at d y ≡ run_at d x - (y - x) = rw e at (run_later d x (y - x) (omega arith)) in omega arith

-- why a record ends at a place, with room for n bytes more
abbrev pub Stops : (n : ℕ) → (d : List ℕ) → (at : ℕ) → Type 0
Stops n d at = (n ≡ 0) ⊎ ((length d ≤ at) ⊎ (run_least ≤ run_at d at))

-- the end of the room, or of the bytes
pub stops_room : (n k : ℕ) (d : List ℕ) (at : ℕ) → k ≡ min n (length d - at) → Stops (n - k) d (at + k)
stops_room n k d at e = go (leb n (length d - at)) refl where
  go : (t : Bool) → leb n (length d - at) ≡ t → Stops (n - k) d (at + k)
  go true p = let h = leb-true n (length d - at) p in inl (omega arith)
  go false p = let h = leb-false n (length d - at) p in inr (inl (omega arith))

stops_here : (n : ℕ) (d : List ℕ) (at : ℕ) → Stops n d at → reach n (drop at d) ≡ 0
unfolding reach
stops_here zero d at s = refl
stops_here (suc n) d at (inl z) = absurd (suc-ne-zero n z)
stops_here (suc n) d at (inr (inl h)) = rw (drop_of_length-le d h)
stops_here (suc n) d at (inr (inr h)) = go (leb (length d) at) refl where
  go : (t : Bool) → leb (length d) at ≡ t → reach (suc n) (drop at d) ≡ 0
  go true p = rw (drop_of_length-le d (leb-true (length d) at p))
  go false p =
      let e = drop-cons d at 0 (leb-false (length d) at p) in
      let l : leb run_least (leading (get_or d at 0 ∷ drop (suc at) d)) ≡ true = le-leb _ _ (rw e at h) in
      rw (e, l)

pub reach_is : (n k : ℕ) (d : List ℕ) (at : ℕ) → k ≤ n → at + k ≤ length d → Short d at (at + k) → Stops (n - k) d (at + k) → reach n (drop at d) ≡ k
unfolding reach
reach_is n zero d at a b s t =
    let e : at + 0 ≡ at = omega arith in
    let f : n - 0 ≡ n = omega arith in
    stops_here n d at (rw (e, f) at t)
reach_is zero (suc k) d at a b s t = absurd (not-suc-le-zero a)
reach_is (suc n) (suc k) d at a b s t =
    let e = drop-cons d at 0 (omega arith) in
    let f : at + suc k ≡ suc at + k = omega arith in
    let g : suc n - suc k ≡ n - k = omega arith in
    let l : leb run_least (leading (get_or d at 0 ∷ drop (suc at) d)) ≡ false = lt-leb _ _ (rw e at (s at (omega arith) (omega arith))) in
    let t' : Stops (n - k) d (suc at + k) = rw (f, g) at t in
    rw (e, l) (ap suc (reach_is n k d (suc at) (omega arith) (omega arith) (λ y p q. s y (omega arith) (omega arith)) t'))
