-- The rules on a component's versions: of an offer, of an image, of what is staged (document 01, "The device", as document 02, A1, amends it: the variant is
-- the kind of build, and the release, which is the version divided by 256, is compared; A5: no release below the component's floor, which set-up gives and which
-- may stand above the running version). Each is given the whole record, and none looks at its `staged`.
use Rattle.std.specs.Prelude.{◌≤◌, ◌<◌, ◌≡◌, ◌↔◌, Bool, true, not, ◌||◌, ◌&&◌, ltb, leb, eqb, Option, Some, None}
use Rattle.wire.specs.Version.{variant_of, release_of}
use Rattle.wire.specs.declared.version.Version.{Version}
use Rattle.device_component.specs.Record.{with_staged}
use Rattle.device_component.specs.declared.record.Component.{Component}

-- the check of an offer between 6 and 7: the variant differs from the running one
abbrev pub wrong_variant : Component → Version → Bool
wrong_variant c v = not (eqb (variant_of v) (variant_of c.running))

-- the release is not greater than the running one
abbrev pub is_old : Component → Version → Bool
is_old c v = leb (release_of v) (release_of c.running)

-- the release is below the floor's; variants are not looked at
abbrev pub below_floor : Component → Version → Bool
below_floor c v = ltb (release_of v) (release_of c.fixed.floor)

-- offer check 7: either of the two
abbrev pub too_low : Component → Version → Bool
too_low c v = is_old c v || below_floor c v

-- an offered version fits: neither the check of the variant nor check 7 applies
abbrev pub offer_version_fits : Component → Version → Bool
offer_version_fits c v = not (wrong_variant c v) && not (too_low c v)

-- the variant is the running one, and the release is not lower than the running one's and not below the floor's
abbrev pub may_follow : Component → Version → Bool
may_follow c v = (not (wrong_variant c v) && leb (release_of c.running) (release_of v)) && not (below_floor c v)

-- image judgement
abbrev pub image_version_fits : Component → Version → Bool
image_version_fits c v = may_follow c v

-- D1, of a staged version
abbrev pub staged_version_fits : Component → Version → Bool
staged_version_fits c v = may_follow c v

-- what is staged keeps that rule
abbrev pub keeps_staged : Component → Option Version → Bool
keeps_staged c None = true
keeps_staged c (Some v) = staged_version_fits c v

-- below the floor is a lower release than the floor's; and how the rules follow from each other: what an offer may bring, an image may; what an image may bring, may be staged; an offer that fits is of a later release
-- than the running one, and nothing that fits is of a release below the floor's; and none of them looks at what is staged
pub record VersionsFollow : Type 0 where
  pub below : (c : Component) (v : Version) → (below_floor c v ≡ true) ↔ (release_of v < release_of c.fixed.floor)
  pub offer_image : (c : Component) (v : Version) → offer_version_fits c v ≡ true → image_version_fits c v ≡ true
  pub image_staged : (c : Component) (v : Version) → image_version_fits c v ≡ true → staged_version_fits c v ≡ true
  pub offer_later : (c : Component) (v : Version) → offer_version_fits c v ≡ true → release_of c.running < release_of v
  pub staged_floor : (c : Component) (v : Version) → staged_version_fits c v ≡ true → release_of c.fixed.floor ≤ release_of v
  pub offer_any : (c : Component) (v w : Version) → offer_version_fits (with_staged c w) v ≡ offer_version_fits c v
  pub image_any : (c : Component) (v w : Version) → image_version_fits (with_staged c w) v ≡ image_version_fits c v
  pub staged_any : (c : Component) (v w : Version) → staged_version_fits (with_staged c w) v ≡ staged_version_fits c v
