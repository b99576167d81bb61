-- The numbers of the rows. Assumes nothing.
use mathlib.Core.Path.{◌≡◌, refl}
use Prim.Native.Nat.{◌+◌}
use Rattle.device_component.specs.Setup as setup
use Rattle.device_component.specs.declared.setup.SetupRow.{SetupRow}
use Rattle.device_component.specs.declared.setup.SetupRow.TheVariants.{S1, S2, S3, S4, S5}
use Rattle.device.specs.Refusals.{number_of, row_of}
use Rattle.device.specs.declared.answer.Refusal.{Refusal}
use Rattle.device.specs.declared.answer.Refusal.TheVariants.{D1, D2, D3}
use Rattle.c_types.specs.Numbers.{letter_s, letter_d, lettered_of}
use Rattle.c_device.specs.Numbers.{device_number}

-- of a row of set-up, and of the device
pub of_setup : (row : SetupRow) → lettered_of letter_s (setup.number_of row) ≡ letter_s + setup.number_of row
of_setup S1 = refl
of_setup S2 = refl
of_setup S3 = refl
of_setup S4 = refl
of_setup S5 = refl

pub of_device : (r : Refusal) → lettered_of letter_d (number_of r) ≡ device_number (row_of r)
of_device D1 = refl
of_device D2 = refl
of_device D3 = refl
