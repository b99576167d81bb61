-- The places of a gap are left out, and those of a record are not. Assumes nothing.
use mathlib.Core.Path.{◌≡◌}
use mathlib.Core.List.{List}
use Prim.Native.Nat.{ℕ, zero, suc, ◌+◌, ◌-◌, ◌≤◌, ◌<◌}
use native.Mathlib.Nat.{not-suc-le-zero}
use native.Mathlib.Decide.{dec_lt, ℕ_discrete}
use native.Mathlib.Omega.{arith}
use lib.ListN.{length, get_or}
use Rattle.bundle_cut.specs.Cut.{erased_byte, run_least, run_at}
use Rattle.bundle_cut.specs.Rule.{LongestRun, LeftOut}
use Rattle.bundle_cut.proofs.Runs.{erased_inside, run_inside, run_erased, run_ends, run_is}
use Rattle.bundle_cut.proofs.Pieces.{IsGap, IsData}

-- how far the bytes 0xFF before a place go back
record Back (d : List ℕ) (at : ℕ) : Type 0 where
  start : ℕ
  from : start ≤ at
  erased : (x : ℕ) → start ≤ x → x < at → get_or d x 0 ≡ erased_byte
  begins : (x : ℕ) → suc x ≡ start → get_or d x 0 ≡ erased_byte → ⊥

back : (d : List ℕ) (at : ℕ) → Back d at
back d zero = record { start = 0; from = omega arith; erased = λ x h k. absurd (not-suc-le-zero k); begins = λ x h k. omega arith }
back d (suc at) = go (ℕ_discrete (get_or d at 0) erased_byte) (back d at) where
  go : Dec (get_or d at 0 ≡ erased_byte) → Back d at → Back d (suc at)
  go (no e) b =
      record {
        start = suc at;
        from = omega arith;
        erased = λ x h k. absurd (omega arith);
        begins = λ x h k. let q : x ≡ at = omega arith in e (rw q at k);
      }
  go (yes e) b = record { start = b.start; from = omega (arith, b.from); erased = λ x h k. last x h k (dec_lt x at); begins = b.begins } where
    last : (x : ℕ) → b.start ≤ x → x < suc at → Dec (x < at) → get_or d x 0 ≡ erased_byte
    last x h k (yes l) = b.erased x h l
    last x h k (no l) = let q : x ≡ at = omega arith in rw q e

-- a place in a run of 52 or more is left out
pub left_out : (d : List ℕ) (at x : ℕ) → at ≤ length d → run_least ≤ run_at d at → at ≤ x → x < at + run_at d at → LeftOut d x
left_out d at x i l h k = go (back d at) where
  go : Back d at → LeftOut d x
  go b =
      record {
        start = b.start;
        size = n;
        run = record {
          inside = omega (arith, e, run_inside d at i);
          erased = λ y p q. bytes y p q (dec_lt y at);
          begins = b.begins;
          ends = λ p q. run_ends d at (rw e at q);
        };
        long = omega arith;
        from = omega (arith, b.from);
        below = omega (arith, e);
      }
    where
      n : ℕ
      n = at - b.start + run_at d at

      e : b.start + n ≡ at + run_at d at
      e = omega (arith, b.from)

      bytes : (y : ℕ) → b.start ≤ y → y < b.start + n → Dec (y < at) → get_or d y 0 ≡ erased_byte
      bytes y p q (yes r) = b.erased y p r
      bytes y p q (no r) = run_erased d at y (omega arith) (omega (arith, e))

-- the bytes from the start of a longest run on are as many as it has
run_size : (d : List ℕ) (a n : ℕ) → LongestRun d a n → run_at d a ≡ n
run_size d a n r = run_is d a n r.erased (λ e. r.ends (erased_inside d (a + n) e) e)

-- no longest run of 52 or more passes over a place
abbrev pub Clear : (d : List ℕ) (at : ℕ) → Type 0
Clear d at = (a n : ℕ) → LongestRun d a n → run_least ≤ n → a < at → a + n ≤ at

pub clear_start : (d : List ℕ) → Clear d 0
clear_start d a n r l h = absurd (not-suc-le-zero h)

module _ (d : List ℕ) (at to : ℕ) where
  -- each place of a gap is left out
  pub gap_goes : IsGap d at to → (x : ℕ) → at ≤ x → x < to → LeftOut d x
  gap_goes g x h k = left_out d at x (omega (arith, g.next, g.inside)) g.long h (omega (arith, g.next))

  pub clear_gap : IsGap d at to → Clear d to
  clear_gap g a n r l h = go (dec_lt to (a + n)) where
    go : Dec (to < a + n) → a + n ≤ to
    go (yes k) = absurd (run_ends d at (rw g.next at (r.erased to (omega arith) k)))
    go (no k) = omega arith

  pub clear_data : Clear d at → IsData d at to → Clear d to
  clear_data c g a n r l h = go (dec_lt a at) where
    go : Dec (a < at) → a + n ≤ to
    go (yes k) = omega (arith, c a n r l k, g.some)
    go (no k) = absurd (omega (arith, g.short a (omega arith) h, run_size d a n r))

  -- no place of a record is
  pub data_stays : Clear d at → IsData d at to → (x : ℕ) → at ≤ x → x < to → LeftOut d x → ⊥
  data_stays c g x h l o = go (dec_lt o.start at) where
    go : Dec (o.start < at) → ⊥
    go (yes k) = omega (arith, c o.start o.size o.run o.long k, o.below)
    go (no k) = omega (arith, g.short o.start (omega arith) (omega (arith, o.from)), run_size d o.start o.size o.run, o.long)
