-- A row's number with its letter is what crosses to C, whatever the number. Assumes nothing.
use mathlib.Core.Path.{◌≡◌, refl}
use mathlib.Core.Bool.{Bool, true, false, cond}
use Prim.Native.Nat.{ℕ, ◌+◌}
use lib.Dec.{eqb}
use Rattle.wire.specs.Rows.{number_of, row_of}
use Rattle.wire.specs.declared.verdict.PacketRefusal.{PacketRefusal}
use Rattle.wire.specs.declared.verdict.PacketRefusal.TheVariants.{P1, P2}
use Rattle.c_types.specs.Numbers.{served_number, letter_p, lettered_of, packet_number}

-- .. of any kind of rows, where the row of 0 is none
pub of_row : {Row : Type 0} (number : Row → ℕ) (none some : Row) (letter n : ℕ) → number none ≡ served_number → number some ≡ letter + n
    → lettered_of letter n ≡ number (cond (eqb n 0) none some)
of_row {Row} number none some letter n e f = go (eqb n 0)
  where
    go : (t : Bool) → cond t served_number (letter + n) ≡ number (cond t none some)
    go true = rw e
    go false = rw f

pub of_packet_lem : (r : PacketRefusal) → lettered_of letter_p (number_of r) ≡ packet_number (row_of r)
of_packet_lem P1 = refl
of_packet_lem P2 = refl
