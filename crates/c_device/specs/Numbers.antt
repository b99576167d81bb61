-- The numbers of the device's rows, S and D, as they cross to C.
use Rattle.std.specs.Prelude.{ℕ, ◌+◌}
use Rattle.device_component.specs.Setup as setup
use Rattle.device.specs.Refusals as device
use Rattle.c_types.specs.Numbers.{served_number, letter_s, letter_d}

abbrev pub setup_number : setup.Row → ℕ
setup_number setup.served = served_number
setup_number (setup.row_s k) = letter_s + k

abbrev pub device_number : device.Row → ℕ
device_number device.served = served_number
device_number (device.row_d k) = letter_d + k
