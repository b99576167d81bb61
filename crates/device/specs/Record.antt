-- The device's record: its values, its components and its session (document 01, "The device").
use Rattle.std.specs.Prelude.{ℕ, ◌^◌, ◌<◌, ◌≡◌, List, length, replicate, Option}
use Rattle.wire.specs.Codes.{component_limit}
use Rattle.device_component.specs.Record.{FitsComponent, blank_component}
use Rattle.device_component.specs.Lists as lists
use Rattle.device_component.specs.declared.record.Component.{Component}
use Rattle.device_session.specs.Effect.{FitsSession, idle}
use Rattle.device_session.specs.declared.effect.Session.{Session}
use Rattle.device.specs.declared.record.Device.{Device}

-- the values of the type
pub record FitsDevice (d : Device) : Type 0 where
  pub platform : d.platform < 256 ^ 2
  pub staging : d.staging_len < 256 ^ 4
  pub count : d.count < 256
  pub slots : length d.components ≡ component_limit
  pub each : (k : ℕ) → FitsComponent (lists.component_at d.components k)
  pub session : FitsSession d.session

-- the slot of the component with this id, among those below the count
abbrev pub find : Device → ℕ → Option ℕ
find d id = lists.find id d.count d.components

-- the component in a slot, whatever the count
abbrev pub component : Device → ℕ → Component
component d slot = lists.component_at d.components slot

-- the record with these components and this session
abbrev pub with_session : Device → List Component → Session → Device
with_session d components session = record {
  platform = d.platform;
  staging_len = d.staging_len;
  count = d.count;
  components = components;
  session = session;
}

-- with these components, idle, owing nothing and holding no packet
abbrev pub idle_with : Device → List Component → Device
idle_with d components = with_session d components idle

abbrev pub to_idle : Device → Device
to_idle d = idle_with d d.components

-- what a refused set-up hands back: every entry answers D1 to it
abbrev pub blank_device : Device
blank_device = record {
  platform = 0;
  staging_len = 0;
  count = 0;
  components = replicate component_limit blank_component;
  session = idle;
}
