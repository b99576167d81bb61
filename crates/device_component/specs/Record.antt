-- The component's record: its values, what pending means, and the only ways it is made and changed (document 01, "The device"; document 02, A5: its floor).
use Rattle.std.specs.Prelude.{ℕ, ◌<◌, Bool, Option, Some, None, is_some, unwrap_or}
use Rattle.wire.specs.Version.{FitsVersion}
use Rattle.wire.specs.declared.version.Version.{Version}
use Rattle.image.specs.Region.{FitsRegion}
use Rattle.device_component.specs.declared.record.Component.{Component}
use Rattle.device_component.specs.declared.record.Fixed.{Fixed}
use Rattle.device_component.specs.declared.record.Listed.{Listed}

-- the values of the types
abbrev pub FitsStaged : Option Version → Type 0
FitsStaged None = Unit {0}
FitsStaged (Some v) = FitsVersion v

pub record FitsFixed (f : Fixed) : Type 0 where
  pub id : f.id < 256
  pub region : FitsRegion f.region
  pub floor : FitsVersion f.floor

pub record FitsComponent (c : Component) : Type 0 where
  pub fixed : FitsFixed c.fixed
  pub running : FitsVersion c.running
  pub staged : FitsStaged c.staged

-- pending: a staged version is there
abbrev pub is_pending : Option Version → Bool
is_pending staged = is_some staged

-- effective version: staged if pending, else running
abbrev pub effective : Version → Option Version → Version
effective running staged = unwrap_or staged running

-- a component as set-up lists it: nothing staged
abbrev pub listed : Listed → Component
listed l = record { fixed = l.fixed; running = l.running; staged = None }

-- pending with this version
abbrev pub with_staged : Component → Version → Component
with_staged c v = record { fixed = c.fixed; running = c.running; staged = Some v }

-- after a reset: the effective version runs, nothing is staged
abbrev pub after_reset : Component → Component
after_reset c = record { fixed = c.fixed; running = effective c.running c.staged; staged = None }

-- a component by its numbers, with nothing staged: with this floor, and with none, which is floor 0
abbrev pub floored : (floor id running base len : ℕ) → Component
floored floor id running base len = record {
  fixed = record { id = id; region = record { base = record { 0 = base }; len = len }; floor = record { 0 = floor } };
  running = record { 0 = running };
  staged = None;
}

abbrev pub plain : (id running base len : ℕ) → Component
plain id running base len = floored 0 id running base len

-- stands where the list has no component; no answer depends on it
abbrev pub blank_component : Component
blank_component = plain 0 0 0 0
