-- What the check of a bundle leaves. Assumes nothing.
use mathlib.Core.Path.{◌≡◌, refl, sym, ap, ◌∙◌}
use Rattle.std.specs.Prelude.{Result, Ok, Err}
use mathlib.Core.List.{List}
use Prim.Native.Nat.{ℕ, ◌+◌}
use lib.ListN.{length}
use borrow.Author.Tests.{eq-eqb}
use Rattle.wire.specs.Bytes.{copy_of}
use Rattle.wire.proofs.words.Copies.{copy_same}
use Rattle.bundle_layout.specs.Rows.{number_of}
use Rattle.bundle_layout.specs.declared.BundleRefusal.{BundleRefusal}
use Rattle.bundle_layout.specs.declared.BundleRow.{BundleRow}
use Rattle.bundle_layout.specs.declared.BundleRow.TheVariants.{B1, B2, B3, B4, B5, B6, B7, B8}
use Rattle.bundle_layout.specs.declared.Checked.{Checked}
use Rattle.bundle.specs.Contents.{check_of, told_checked}
use Rattle.host_bytes.specs.Layout.{contents_size, no_place, contents_bytes}
use Rattle.c_types.specs.declared.types.CCheck.{CCheck}
use Rattle.c_types.specs.Numbers.{served_number, letter_b, lettered_of}
use Rattle.c_host.specs.Check.{check_by, check_call, told_check}

-- what the check answers, as it crosses
abbrev check_left : Result Checked BundleRefusal → CCheck
check_left (Ok c) = record { number = served_number; entry = 0; count = c.count }
check_left (Err r) = record { number = letter_b + number_of r.row; entry = r.place; count = 0 }

-- the number of a row of the check
pub row_number : (v : BundleRow) → lettered_of letter_b (number_of v) ≡ letter_b + number_of v
row_number B1 = refl
row_number B2 = refl
row_number B3 = refl
row_number B4 = refl
row_number B5 = refl
row_number B6 = refl
row_number B7 = refl
row_number B8 = refl

-- the check's answer, and the bytes of its contents, which are copied
pub check_told : (bundle contents b left : List ℕ) (c : Result Checked BundleRefusal) → length contents ≡ contents_size → told_checked c ≡ check_of bundle → b ≡ contents_bytes (told_checked c) no_place 0
    → length b ≡ contents_size → left ≡ copy_of contents b → told_check (check_left c) left ≡ check_call bundle contents
unfolding check_call
check_told bundle contents b left c fits e f whole g = rw (eq-eqb (length contents) contents_size fits, ← e) (go c f)
  where
    go : (x : Result Checked BundleRefusal) → b ≡ contents_bytes (told_checked x) no_place 0 → told_check (check_left x) left ≡ check_by (told_checked x)
    go (Ok x) h = ap (told_check (check_left (Ok x))) (g ∙ copy_same contents b (fits ∙ sym whole) ∙ h)
    go (Err x) h = ap (told_check (check_left (Err x))) (g ∙ copy_same contents b (fits ∙ sym whole) ∙ h)
