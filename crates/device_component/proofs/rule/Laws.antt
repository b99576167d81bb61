-- How the rules on versions follow from each other, and that none of them reads what is staged. Assumes nothing.
use mathlib.Core.Path.{◌≡◌, refl}
use mathlib.Core.Bool.{true, false, not, ◌&&◌}
use Prim.Native.Nat.{◌≤◌, ◌<◌}
use native.Mathlib.Omega.{arith}
use borrow.Author.Tests.{leb-false, ltb-false, ltb-true, lt-ltb, le-leb, not-true}
use lib.Dec.{leb}
use Rattle.wire.specs.Version.{release_of}
use Rattle.wire.specs.declared.version.Version.{Version}
use Rattle.wire.proofs.Tests.{both, neither}
use Rattle.device_component.specs.Record.{with_staged}
use Rattle.device_component.specs.Versions.{wrong_variant, is_old, below_floor, too_low, offer_version_fits, image_version_fits, staged_version_fits, keeps_staged, VersionsFollow}
use Rattle.device_component.specs.declared.record.Component.{Component}

module _ (c : Component) (v : Version) where
  -- check 7 does not apply to an offered version that fits
  high : offer_version_fits c v ≡ true → (is_old c v ≡ false) × (below_floor c v ≡ false)
  high e = neither (is_old c v) (below_floor c v) (not-true (too_low c v) (both (not (wrong_variant c v)) _ e).1)

  -- an offered version that fits is of a later release than the running one
  pub offer_release : offer_version_fits c v ≡ true → release_of c.running < release_of v
  offer_release e = leb-false (release_of v) (release_of c.running) (high e).0

  -- a version that fits as an offer fits as an image
  pub offer_image_lem : offer_version_fits c v ≡ true → image_version_fits c v ≡ true
  offer_image_lem e =
      let later : release_of c.running ≤ release_of v = omega (arith, offer_release e) in
      rw ((both (not (wrong_variant c v)) _ e).0, le-leb (release_of c.running) (release_of v) later, (high e).1)

  -- a version that fits as an image fits as staged
  pub image_staged_lem : image_version_fits c v ≡ true → staged_version_fits c v ≡ true
  image_staged_lem e = e

  -- a version that fits as staged is of no release below the floor's
  pub staged_floor_lem : staged_version_fits c v ≡ true → release_of c.fixed.floor ≤ release_of v
  staged_floor_lem e =
      ltb-false (release_of v) (release_of c.fixed.floor)
      (not-true (below_floor c v) (both (not (wrong_variant c v) && leb (release_of c.running) (release_of v)) _ e).1)

  -- none of the three reads what is staged
  module _ (w : Version) where
    pub offer_any_staged : offer_version_fits (with_staged c w) v ≡ offer_version_fits c v
    offer_any_staged = refl

    pub image_any_staged : image_version_fits (with_staged c w) v ≡ image_version_fits c v
    image_any_staged = refl

    pub staged_any_staged : staged_version_fits (with_staged c w) v ≡ staged_version_fits c v
    staged_any_staged = refl

  -- so a component that is staged with a version that fits as an image keeps the rule on what is staged
  pub keeps : image_version_fits c v ≡ true → keeps_staged (with_staged c v) (with_staged c v).staged ≡ true
  keeps e = image_staged_lem e

pub versions_follow : VersionsFollow
versions_follow = record {
  below = λ c v. (ltb-true (release_of v) (release_of c.fixed.floor), lt-ltb (release_of v) (release_of c.fixed.floor));
  offer_image = offer_image_lem;
  image_staged = image_staged_lem;
  offer_later = offer_release;
  staged_floor = staged_floor_lem;
  offer_any = offer_any_staged;
  image_any = image_any_staged;
  staged_any = staged_any_staged;
}
