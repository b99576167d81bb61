-- The flags of a block. Assumes nothing.
use mathlib.Core.Path.{◌≡◌, refl}
use mathlib.Core.Bool.{Bool, true, false}
use Prim.Native.Nat.{◌/◌, ◌%◌}
use lib.Dec.{eqb}
use Rattle.host_packet.specs.Packet.{flags_of}

-- they have no bit but the two
pub flags_sound : (first last : Bool) → eqb (flags_of first last % 64) 0 ≡ true
flags_sound true true = refl
flags_sound true false = refl
flags_sound false true = refl
flags_sound false false = refl

-- the bit that says that a block is the last
pub flags_last : (first last : Bool) → eqb (flags_of first last / 64 % 2) 1 ≡ last
flags_last true true = refl
flags_last true false = refl
flags_last false true = refl
flags_last false false = refl
