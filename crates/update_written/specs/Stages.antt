-- What the updater does with a bundle that the writer made (document 02, A3): its bodies give the images back after an erase, it meets demand 3's premise on a
-- device with the same region lengths, and there the updater stages exactly the smallest closed set of its offers, each image byte for byte.
use Rattle.std.specs.Prelude.{ℕ, ◌≤◌, ◌<◌, ◌≡◌, false, List, [], T, length, get_or, Some}
use Rattle.wire.specs.Bytes.{Bytes}
use Rattle.image.specs.Region.{region_bytes}
use Rattle.bundle_layout.specs.Layout.{id_in, length_in}
use Rattle.bundle_cut.specs.Cut.{crc_size, image_records}
use Rattle.bundle_given.specs.Given.{count_of, entries_of, image_at}
use Rattle.bundle_writer.specs.Bundle.{made_bundle}
use Rattle.bundle_writer.specs.Rows as writer
use Rattle.device.specs.Record.{FitsDevice, find, component}
use Rattle.device.specs.Refusals.{breaks_d1}
use Rattle.device.specs.declared.record.Device.{Device}
use Rattle.host.specs.Step.{blocks_at}
use Rattle.update.specs.Claim.{image_of}
use Rattle.update.specs.Run.{System, Schedule, last_of}
use Rattle.update.specs.Demand.{Premise, Demand, staged_in}

-- the records of an image, written in order after an erase, give the image
abbrev pub ImageReadsBack : Type 0
ImageReadsBack = (m : List ℕ) → crc_size ≤ length m → image_of (length m) (image_records m) ≡ m

-- an entry of the list
abbrev pub listed : (list : List ℕ) → ℕ → List ℕ
listed list i = get_or (entries_of list) i []

-- so each body of what the writer makes, written after an erase of as many bytes as its image has, gives the very image that was given with its offer
pub record BodyGives (list images : List ℕ) (i : ℕ) : Type 0 where
  pub lent : length (image_at images (listed list i)) ≡ length_in (listed list i)
  pub image : image_of (length_in (listed list i)) (blocks_at (made_bundle list images) i) ≡ image_at images (listed list i)

abbrev pub MadeImages : Type 0
MadeImages = (list images : List ℕ) (room i : ℕ) → Bytes list → Bytes images → writer.write_row list images room ≡ writer.served → i < count_of list
    → BodyGives list images i

-- the same region lengths: where the device has the component of an offer, its region is as long as the offer's image
abbrev pub SameLengths : (list : List ℕ) → Device → Type 0
SameLengths list d = (i k : ℕ) → i < count_of list → find d (id_in (listed list i)) ≡ Some k → (component d k).fixed.region.len ≡ length_in (listed list i)

-- a list and images that no row of the writer refuses, and a device and a staging buffer that pass D1 and D2, with the same region lengths; and the ranges of the
-- types
pub record Fitting (list images : List ℕ) (room token : ℕ) (d : Device) (staging : List ℕ) : Type 0 where
  pub list_bytes : Bytes list
  pub images_bytes : Bytes images
  pub made : writer.write_row list images room ≡ writer.served
  pub small : token < 256
  pub fits : FitsDevice d
  pub bytes : Bytes staging
  pub d1 : breaks_d1 d ≡ false
  pub d2 : length staging ≡ d.staging_len
  pub lengths : SameLengths list d

-- demand 3's premise holds for what the writer makes
abbrev pub MadePremise : Type 0
MadePremise = (list images : List ℕ) (room token : ℕ) (d : Device) (staging : List ℕ) → Fitting list images room token d staging
    → Premise (made_bundle list images) token d staging

-- what becomes of it in a run that comes to the system s: demand 3, so exactly the smallest closed set of its offers is staged; and the region of each offer that
-- is staged holds the very image that was given with it
pub record Stages (list images : List ℕ) (twice : Schedule) (token : ℕ) (d : Device) (staging reply : List ℕ) (s : System) : Type 0 where
  pub demand : Demand (made_bundle list images) twice token d staging reply s
  pub regions : (i k : ℕ) → i < count_of list → T (staged_in (made_bundle list images) s i) → find d (id_in (listed list i)) ≡ Some k
      → region_bytes (component d k).fixed.region s.staging ≡ image_at images (listed list i)

-- of what the writer makes, the updater stages exactly the smallest closed set, byte for byte, on a device with those region lengths, whichever blocks that are
-- neither first nor last arrive twice in a row (document 02, A4)
abbrev pub MadeStages : Type 0
MadeStages = (list images : List ℕ) (twice : Schedule) (room token : ℕ) (d : Device) (staging reply : List ℕ) → Fitting list images room token d staging
    → Stages list images twice token d staging reply (last_of (made_bundle list images) twice token d staging reply)
