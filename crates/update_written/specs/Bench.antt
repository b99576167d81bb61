-- E13's offers and images (document 01, "Bench examples"), given to the writer: the bench device has regions of their lengths, so all that Fitting asks can be
-- had, and the run stages both images. Each body has three records: 52 bytes, 10 bytes and the CRC.
use Rattle.std.specs.Prelude.{ℕ, ◌≡◌, List, [], ◌∷◌, ◌++◌, length, replicate}
use Rattle.wire.specs.Version.{version_of}
use Rattle.device_session.specs.declared.stage.Stage.TheVariants.{Idle}
use Rattle.device.specs.Bench.{bench}
use Rattle.bundle_writer.specs.Bundle.{made_bundle}
use Rattle.update.specs.Run.{System, once, last_of}
use Rattle.update.specs.Bench.{image, one, two, updated}
use Rattle.update_written.specs.Stages.{Fitting}

-- component 1 first, which needs component 2's new version; the images one after the other
abbrev pub e13_list : List ℕ
e13_list = one.offer ++ (0 ∷ 0 ∷ 0 ∷ 0 ∷ 64 ∷ 0 ∷ 0 ∷ 0 ∷ two.offer ++ (64 ∷ 0 ∷ 0 ∷ 0 ∷ 64 ∷ 0 ∷ 0 ∷ 0 ∷ []))

abbrev pub e13_images : List ℕ
e13_images = image (version_of 1 3 0) 1 ++ image (version_of 1 2 0) 2

-- the run of what is written, on the bench device with a staging buffer of zeros, from a host with token 0xA5
abbrev pub e13_comes : System
e13_comes = last_of (made_bundle e13_list e13_images) once 0xA5 (bench Idle) (replicate 128 0) []

pub record BenchStages : Type 0 where
  pub fitting : Fitting e13_list e13_images 214 0xA5 (bench Idle) (replicate 128 0)
  pub size : length (made_bundle e13_list e13_images) ≡ 214
  pub packets : length e13_comes.trace ≡ 15
  pub device : e13_comes.device ≡ updated
  pub staging : e13_comes.staging ≡ e13_images
