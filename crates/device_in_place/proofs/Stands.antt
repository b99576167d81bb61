-- What is known of the bytes of a call that is served. Assumes nothing.
use mathlib.Core.Path.{◌≡◌, refl, ap, ◌∙◌}
use mathlib.Core.Bool.{Bool, true, false, true≢false}
use mathlib.Core.List.{List}
use Prim.Native.Nat.{ℕ}
use Rattle.device.specs.Refusals.{served, is_refused, refusal_of}
use Rattle.device_bytes.specs.Layout.{is_record, read_device}
use Rattle.device_in_place.proofs.sound.Rows.{other_refused}

-- the bytes are a record where no row refuses the call
pub stands : (size : ℕ) (b : List ℕ) (n m : ℕ) → refusal_of size (read_device b) n m ≡ served → is_record b ≡ true
stands size b n m h = go (is_record b) refl
  where
    go : (t : Bool) → is_record b ≡ t → is_record b ≡ true
    go true e = e
    go false e = absurd (true≢false (ap is_refused (other_refused b size n m e ∙ h)))
