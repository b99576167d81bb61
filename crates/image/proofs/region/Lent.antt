-- A part of a buffer that is lent and comes back. Assumes nothing.
use mathlib.Core.Path.{◌≡◌, sym, ◌∙◌}
use mathlib.Core.List.{List, ◌++◌}
use Prim.Native.Nat.{ℕ, ◌+◌, ◌-◌, ◌≤◌, min}
use native.Mathlib.Decide.{dec_le}
use native.Mathlib.Omega.{arith}
use lib.ListN.{length, take, drop, length-drop, drop_of_length-le}
use lib.Seq.{take_all, take-nil, drop-length, drop-drop}
use Rattle.image.specs.Region.{within}

-- the n bytes from a on are lent, and come back changed by f
pub lent : (a n : ℕ) (f : List ℕ → List ℕ) (s l : List ℕ) → l ≡ f (take (a + n - a) (drop a s)) → take a s ++ (l ++ drop (a + n - a) (drop a s)) ≡ within a n f s
unfolding within
lent a n f s l e =
    let m : a + n - a ≡ n = omega arith in
    rw (e, m, drop-drop)

-- the part of a buffer between a start and an end that are clamped to it is the whole part, as far as the buffer has it
pub clamped : (base len : ℕ) (s : List ℕ) (start n : ℕ) → start ≡ min base (length s) → n ≡ min len (length s - start) → take (start + n - start) (drop start s) ≡ take len (drop base s)
clamped base len s start n e e' = from (dec_le base (length s)) where
  from : Dec (base ≤ length s) → take (start + n - start) (drop start s) ≡ take len (drop base s)
  from (yes h) =
      let p : start ≡ base = omega arith in
      let q : start + n - start ≡ n = omega arith in
      rw (q, p) (upto (dec_le len (length s - base)))
    where
      upto : Dec (len ≤ length s - base) → take n (drop base s) ≡ take len (drop base s)
      upto (yes k) = let p : n ≡ len = omega arith in rw p
      upto (no k) =
          let p : n ≡ length s - base = omega arith in
          take_all n (drop base s) (rw length-drop (omega arith)) ∙ sym (take_all len (drop base s) (rw length-drop (omega arith)))
  from (no h) =
      let p : start ≡ length s = omega arith in
      simp (p, drop-length, drop_of_length-le s {i = base} (omega arith), take-nil)
