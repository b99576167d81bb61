-- How far a host is, as it crosses to C. Assumes nothing.
use mathlib.Core.Path.{◌≡◌, refl, sym}
use mathlib.Core.Bool.{true, false, true≢false}
use Prim.Native.Nat.{ℕ, ◌+◌}
use lib.Dec.{eqb}
use Rattle.host_record.specs.Record.{ending_of, number_of}
use Rattle.host_record.specs.declared.record.End.{End}
use Rattle.host_record.specs.declared.record.End.TheVariants as end
use Rattle.c_types.specs.Numbers.{letter_h}
use Rattle.c_host.specs.Numbers.{ending_number}

-- the number of an end: done where it has no row, and its row otherwise
pub ended : (e : End) {n : ℕ} → n ≡ number_of (ending_of e) → eqb n 0 ≡ true → 1 ≡ ending_number (ending_of e)
ended end.Done h t = refl
ended (end.Status s) h t = absurd (true≢false (sym (rw h at t)))
ended end.Foreign h t = absurd (true≢false (sym (rw h at t)))
ended end.Unexpected h t = absurd (true≢false (sym (rw h at t)))
ended end.Busy h t = absurd (true≢false (sym (rw h at t)))

pub not_done : (e : End) {n : ℕ} → n ≡ number_of (ending_of e) → eqb n 0 ≡ false → letter_h + n ≡ ending_number (ending_of e)
not_done end.Done h t = absurd (true≢false (rw h at t))
not_done (end.Status s) h t = rw h
not_done end.Foreign h t = rw h
not_done end.Unexpected h t = rw h
not_done end.Busy h t = rw h
