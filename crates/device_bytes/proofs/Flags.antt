-- What makes bytes a record: their length, and the flags. Assumes nothing.
use mathlib.Core.Path.{◌≡◌, refl, sym, ap, ◌∙◌}
use mathlib.Core.Bool.{Bool, true, ◌&&◌}
use mathlib.Core.List.{List}
use Prim.Native.Nat.{ℕ, zero, suc, ◌+◌}
use native.Mathlib.Omega.{arith}
use borrow.Author.Tests.{eq-eqb, eqb-true}
use lib.Dec.{eqb}
use lib.ListN.{length, drop}
use lib.Seq.{drop-drop}
use Rattle.std.specs.List.{list_all, range_with_len}
use Rattle.wire.proofs.Tests.{both}
use Rattle.device_component_bytes.specs.Layout.{component_size, staged_flag_fits}
use Rattle.device_bytes.specs.Layout.{device_size, component_start, device_in, fields_in, staged_fit, flags_fit, is_record}

-- the flags of so many components from one on
pub all_staged : (b : List ℕ) (i n : ℕ) → list_all (λ k. staged_flag_fits (drop (component_start k) b)) (range_with_len i n) ≡ staged_fit n (drop (component_start i) b)
unfolding staged_fit
all_staged b i zero = refl
all_staged b i (suc n) =
    let f : component_start i + component_size ≡ component_start (i + 1) = omega arith in
    ap (λ (x : Bool). staged_flag_fits (drop (component_start i) b) && x)
    (all_staged b (i + 1) n ∙ ap (λ (k : ℕ). staged_fit n (drop k b)) (sym f) ∙ ap (staged_fit n) (sym (drop-drop component_size (component_start i) b)))

-- a record has the one length, and its flags fit
pub record_sized : (b : List ℕ) → is_record b ≡ true → length b ≡ device_size
unfolding is_record
record_sized b h = eqb-true (length b) device_size (both (eqb (length b) device_size) (flags_fit b) h).0

pub record_flags : (b : List ℕ) → is_record b ≡ true → flags_fit b ≡ true
unfolding is_record
record_flags b h = (both (eqb (length b) device_size) (flags_fit b) h).1

-- and so do bytes that are one
pub is_record_lem : (b : List ℕ) → length b ≡ device_size → flags_fit b ≡ true → is_record b ≡ true
unfolding is_record
is_record_lem b e f = rw (eq-eqb (length b) device_size e, f)

-- the fields of a record are those of its bytes
pub record_fields : (b : List ℕ) → is_record b ≡ true → fields_in b ≡ device_in b
unfolding fields_in
record_fields b h = rw (eq-eqb (length b) device_size (record_sized b h))
