-- `is_right`: the CRC of an image is right where the image is not damaged. Assumes nothing.
use mathlib.Core.Path.{◌≡◌, refl, sym, ap, ◌∙◌}
use mathlib.Core.Bool.{Bool, true, false, cond}
use mathlib.Core.List.{List}
use Prim.Native.Nat.{ℕ}
use lib.Dec.{eqb}
use Rattle.std.specs.Prelude.{Ok, Err}
use Rattle.image.specs.Judge.{Image, is_right, image_in, image_id, image_version}
use Rattle.image.specs.declared.judge.ImageFault.TheVariants.{Damaged, Foreign}
use Rattle.bundle_given.proofs.is_right.Goals.{After-examine-i}
use Rattle.bundle_given.proofs.is_right.Goals as goal

abbrev is_sound : Image → Bool
is_sound (Err Damaged) = false
is_sound (Err Foreign) = true
is_sound (Ok v) = true

sound_right : (m : List ℕ) (id : ℕ) → is_sound (image_in m id) ≡ is_right m
unfolding image_in
sound_right m id = go (is_right m) (eqb (image_id m) id) where
  go : (right own : Bool) → is_sound (cond right (cond own (Ok (image_version m)) (Err Foreign)) (Err Damaged)) ≡ right
  go true true = refl
  go true false = refl
  go false own = refl

-- what the image is says whether its CRC is right
sound : (c : After-examine-i) → is_sound c.examine-i.result ≡ is_right c.args.m.now
sound c = ap is_sound c.examine-i.ensures ∙ sound_right c.args.m.now 0

pub returns-in-Err-Damaged : goal.returns-in-Err-Damaged
returns-in-Err-Damaged c =
    let m = c.in-Err-Damaged in
    let f = rw m.is at m.field-0-is in rw (m.is, f) at (sound (goal.at.returns-in-Err-Damaged c).After-examine-i)

pub returns-in-Err-Foreign : goal.returns-in-Err-Foreign
returns-in-Err-Foreign c =
    let m = c.in-Err-Foreign in
    let f = rw m.is at m.field-0-is in rw (m.is, f) at (sound (goal.at.returns-in-Err-Foreign c).After-examine-i)

pub returns-in-Ok : goal.returns-in-Ok
returns-in-Ok c = rw c.in-Ok.is at (sound (goal.at.returns-in-Ok c).After-examine-i)
