-- A call that is served: its record passes D1, and both lengths are right. Assumes nothing.
use mathlib.Core.Path.{◌≡◌}
use mathlib.Core.Bool.{Bool, not}
use mathlib.Core.List.{List, [], ◌∷◌}
use Prim.Native.Nat.{ℕ}
use native.Mathlib.Omega.{arith}
use borrow.Author.Tests.{eqb-true, not-false}
use lib.Dec.{eqb}
use Rattle.wire.proofs.Chain.{first_says}
use Rattle.device_session.proofs.sound.Laws as sound
use Rattle.device.specs.declared.record.Device.{Device}
use Rattle.device.specs.Refusals.{Row, served, row_d, breaks_d1, refusal_of}

-- no clause of D1 applies
abbrev pub Passes : Device → Type 0
Passes d = sound.Passes d.staging_len d.count d.components d.session

-- the rows of an entry
abbrev calls : (size : ℕ) → Device → (n m : ℕ) → List (Bool × Row)
calls size d n m = (breaks_d1 d, row_d 1) ∷ (not (eqb n d.staging_len), row_d 2) ∷ (not (eqb m size), row_d 3) ∷ []

pub record Serves (size : ℕ) (d : Device) (n m : ℕ) : Type 0 where
  pub record_passes : Passes d
  pub staging : n ≡ d.staging_len
  pub report : m ≡ size

pub serves : (size : ℕ) (d : Device) (n m : ℕ) → refusal_of size d n m ≡ served → Serves size d n m
unfolding refusal_of
serves size d n m = first_says (λ (r : Row). r ≡ served → Serves size d n m) (calls size d n m) served
    (λ e. never 1 e, (λ e. never 2 e, (λ e. never 3 e, tt)))
    (λ q e. record {
      record_passes = sound.passes q.0;
      staging = eqb-true n d.staging_len (not-false _ q.1.0);
      report = eqb-true m size (not-false _ q.1.1.0);
    })
  where
    never : (k : ℕ) → row_d k ≡ served → Serves size d n m
    never k e = let z : ◌≡◌ {A = ℕ} 0 1 = cc in absurd (omega arith)
