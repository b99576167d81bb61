-- The end of a last block: image judgement, and the component afterwards (document 01, "The device"; document 02, A1 and A5).
use Rattle.std.specs.Prelude.{ℕ, cond, List}
use Rattle.wire.specs.Codes.{success_status, error_verify, error_crc, error_version}
use Rattle.image.specs.Region.{region_bytes}
use Rattle.image.specs.Judge.{Image, image_in}
use Rattle.image.specs.declared.judge.ImageFault.TheVariants.{Damaged, Foreign}
use Rattle.std.specs.Prelude.{Ok, Err}
use Rattle.device_component.specs.Record.{with_staged}
use Rattle.device_component.specs.Versions.{image_version_fits}
use Rattle.device_component.specs.declared.record.Component.{Component}
use Rattle.device_receiving.specs.declared.finish.Finished.{Finished}

-- image judgement: CRC, id, version, in this order; pending with the image's version on success, and unchanged otherwise
abbrev pub judge : Component → Image → Finished
judge c (Err Damaged) = record { status = error_crc; component = c }
judge c (Err Foreign) = record { status = error_verify; component = c }
judge c (Ok v) =
    cond (image_version_fits c v) (record { status = success_status; component = with_staged c v }) (record { status = error_version; component = c })

-- of the image in the component's region
unfoldable pub finish : Component → (s : List ℕ) → Finished
finish c s = judge c (image_in (region_bytes c.fixed.region s) c.fixed.id)
