-- The image that a region holds (document 01, image judgement): bytes 0-3 its version, byte 4 its component, the last two bytes the CRC of all
-- before them, high byte first.
use Rattle.std.specs.Prelude.{ℕ, ◌+◌, ◌-◌, ◌*◌, Bool, cond, ◌&&◌, List, eqb, leb, length, get_or, take, Result, Ok, Err}
use Rattle.wire.specs.Version.{version_at}
use Rattle.wire.specs.declared.version.Version.{Version}
use Rattle.crc16.specs.Crc.{crc_of}
use Rattle.image.specs.declared.judge.ImageFault.{ImageFault}
use Rattle.image.specs.declared.judge.ImageFault.TheVariants.{Damaged, Foreign}

-- what bytes are: an image that bears a version, or none of the component
abbrev pub Image : Type 0
Image = Result Version ImageFault

abbrev pub image_version : List ℕ → Version
image_version m = version_at 0 m

abbrev pub image_id : List ℕ → ℕ
image_id m = get_or m 4 0

-- the CRC that an image holds
abbrev pub held_crc : List ℕ → ℕ
held_crc m = get_or m (length m - 2) 0 * 256 + get_or m (length m - 1) 0

-- the CRC of all bytes before it
abbrev pub own_crc : List ℕ → ℕ
own_crc m = crc_of (take (length m - 2) m)

-- a right CRC; fewer than 8 bytes hold no image (S4 keeps such regions out)
abbrev pub is_right : List ℕ → Bool
is_right m = leb 8 (length m) && eqb (own_crc m) (held_crc m)

-- what an image is, for the component with this id: CRC first, then id, then the version that it bears
unfoldable pub image_in : (m : List ℕ) (id : ℕ) → Image
image_in m id = cond (is_right m) (cond (eqb (image_id m) id) (Ok (image_version m)) (Err Foreign)) (Err Damaged)
