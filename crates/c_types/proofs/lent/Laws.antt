-- What a record leaves in a lent buffer, and the row that a call is refused by for its buffers. Assumes nothing.
use mathlib.Core.Path.{◌≡◌, refl, ap, ◌∙◌}
use mathlib.Core.Bool.{Bool, true, false, cond}
use mathlib.Core.List.{List}
use Prim.Native.Nat.{ℕ, ◌<◌}
use native.Mathlib.Omega.{arith}
use lib.Dec.{eqb}
use lib.ListN.{length}
use Rattle.wire.specs.Bytes.{copy_of}
use Rattle.wire.proofs.words.Copies.{copy_same}
use Rattle.c_types.specs.Numbers.{served_number, wrong_record, lent_number}
use Rattle.c_types.specs.Lent.{Left, leaves}

-- bytes of the record's length are stored where the number is 0
pub stored : {l : Left} (lent b : List ℕ) (n : ℕ) → l ≡ leaves n (cond (eqb n 0) (copy_of lent b) lent) → length lent ≡ length b → l ≡ leaves n (cond (eqb n 0) b lent)
stored lent b n e h = e ∙ ap (λ (t : List ℕ). leaves n (cond (eqb n 0) t lent)) (copy_same lent b h)

-- where a buffer does not fit, a call answers what it answers by the row
pub lent_refused : {A : Type 0} (fits other : Bool) (row n : ℕ) (refused : ℕ → A) (right : A) → n ≡ lent_number fits other row → (n ≡ served_number → ⊥)
    → refused n ≡ cond fits (cond other right (refused row)) (refused wrong_record)
lent_refused false other row n refused right e h = ap refused e
lent_refused true false row n refused right e h = ap refused e
lent_refused true true row n refused right e h = absurd (h e)

-- .. and otherwise both fit
pub lent_served : (fits other : Bool) (row n : ℕ) → 0 < row → n ≡ lent_number fits other row → n ≡ served_number → (fits ≡ true) × (other ≡ true)
lent_served false other row n h e f = absurd (omega arith)
lent_served true false row n h e f = absurd (omega arith)
lent_served true true row n h e f = (refl, refl)
