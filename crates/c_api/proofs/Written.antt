-- What C writes as a bundle, C's check accepts. Assumes nothing.
use mathlib.Core.Path.{◌≡◌, refl}
use mathlib.Core.List.{List}
use Prim.Native.Nat.{ℕ}
use native.Mathlib.Omega.{arith}
use borrow.Author.Tests.{eq-eqb}
use lib.ListN.{length, take, drop}
use lib.Seq.{take-append_seam}
use Rattle.bundle.specs.Contents.{check_of}
use Rattle.host_bytes.specs.Layout.{contents_size}
use Rattle.bundle_given.specs.Given.{count_of}
use Rattle.bundle_writer.specs.Bundle.{made_bundle}
use Rattle.bundle_writer.specs.Rows.{Row, served, row_w, write_row}
use Rattle.bundle_writer.specs.Answer.{made_by, make_of}
use Rattle.bundle_writer.specs.Promises.{MadeBack}
use Rattle.bundle_writer.proofs.Promises.{made_reads_back}
use Rattle.c_types.specs.Numbers.{served_number}
use Rattle.c_host.specs.Check.{check_call}
use Rattle.c_writer.specs.Write.{write_by, write_call}
use Rattle.c_api.specs.ReadBack.{WrittenChecks}

-- the check of a bundle that it accepts
accepted : (list images b contents : List ℕ) → length contents ≡ contents_size → MadeBack list images b
    → (check_call b contents).check ≡ record { number = served_number; entry = 0; count = count_of list }
unfolding check_call check_of
accepted list images b contents fits m =
    rw (eq-eqb (length contents) contents_size fits, m.accepted, m.count)

pub written_checks : WrittenChecks
unfolding write_call make_of
written_checks list images out contents lb ib fits = go (write_row list images (length out)) refl where
  go : (r : Row) → write_row list images (length out) ≡ r → (write_by (made_by r list images out)).written.number ≡ served_number
      → (check_call (take (write_by (made_by r list images out)).written.length (write_by (made_by r list images out)).out) contents).check
      ≡ record { number = served_number; entry = 0; count = count_of list }
  go served e n =
      let b = made_bundle list images in
      rw (take-append_seam b (drop (length b) out)) (accepted list images b contents fits (made_reads_back list images (length out) lb ib e))
  go (row_w k entry) e n = absurd (omega arith)
