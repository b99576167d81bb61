-- What a run answers, by its first row. Assumes nothing.
use Prim.Native.Nat.{ℕ}
use mathlib.Core.Path.{◌≡◌}
use mathlib.Core.Bool.{true, false}
use mathlib.Core.List.{List, []}
use lib.Dec.{eqb}
use lib.ListN.{length}
use Rattle.wire.specs.Checks.{first_of}
use Rattle.bundle_layout.specs.Rows as rows
use Rattle.device.specs.Refusals.{breaks_d1}
use Rattle.device.specs.declared.record.Device.{Device}
use Rattle.update.specs.Run.{once, last_of}
use Rattle.update.specs.Answer.{row_b, row_d, refused_by, ended, run_of}

module _ (b : List ℕ) (token : ℕ) (d : Device) (staging : List ℕ) where
  -- the bundle's row
  pub bundle_refuses : (k entry : ℕ) → rows.bundle_row b ≡ rows.row_b k entry → run_of b token d staging ≡ refused_by (row_b k entry) token d staging
  unfolding run_of
  bundle_refuses k entry e = rw e

  -- D1
  pub d1_refuses : rows.bundle_row b ≡ rows.served → breaks_d1 d ≡ true → run_of b token d staging ≡ refused_by (row_d 1) token d staging
  unfolding run_of first_of
  d1_refuses e f = rw (e, f)

  -- D2
  pub d2_refuses : rows.bundle_row b ≡ rows.served → breaks_d1 d ≡ false → eqb (length staging) d.staging_len ≡ false
      → run_of b token d staging ≡ refused_by (row_d 2) token d staging
  unfolding run_of first_of
  d2_refuses e f g = rw (e, f, g)

  -- none: the end of the run
  pub no_row : rows.bundle_row b ≡ rows.served → breaks_d1 d ≡ false → eqb (length staging) d.staging_len ≡ true
      → run_of b token d staging ≡ ended (last_of b once token d staging [])
  unfolding run_of first_of
  no_row e f g = rw (e, f, g)
