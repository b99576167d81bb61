-- What becomes pending (document 01, "The device", image judgement; document 02, A1 and A5; document 00: one module took another module's image).
use Rattle.std.specs.Prelude.{ℕ, ◌≡◌, true, List, ◌⊎◌, Some}
use Rattle.wire.specs.declared.version.Version.{Version}
use Rattle.image.specs.Region.{region_bytes}
use Rattle.image.specs.Judge.{image_in}
use Rattle.std.specs.Prelude.{Ok}
use Rattle.device_component.specs.Versions.{image_version_fits}
use Rattle.device.specs.declared.record.Device.{Device}
use Rattle.device.specs.declared.answer.Channel.{Channel}
use Rattle.device.specs.Record.{component}
use Rattle.device.specs.Entries.{serve_entry, serve_staging}

-- whatever packet comes, a component that is pending with a version afterwards was so before, or its region now holds an image with a right CRC that bears the
-- component's own id and this version, which has the running variant and a release that is neither lower than the running one's nor below
-- the floor's
abbrev pub StagesOwnImage : Type 0
StagesOwnImage = (d : Device) (channel : Channel) (staging report : List ℕ) (k : ℕ) (v : Version)
    → (component (serve_entry d channel staging report).device k).staged ≡ Some v
    → ((component d k).staged ≡ Some v)
    ⊎ ((image_in (region_bytes (component d k).fixed.region (serve_staging d channel staging report)) (component d k).fixed.id ≡ Ok v)
    × (image_version_fits (component d k) v ≡ true))
