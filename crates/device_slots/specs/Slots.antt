-- The slots for components (document 01, "The device"): where one was found, all of them after a reset and in the version reply.
use Rattle.std.specs.Prelude.{ℕ, Bool, List, ◌++◌, map, take, drop, Option, is_none, unwrap_or}
use Rattle.wire_version.specs.declared.Running.{Running}
use Rattle.device_component.specs.Record.{after_reset}
use Rattle.device_component.specs.declared.record.Component.{Component}

-- the slot of what was found, and 0 where nothing was
abbrev pub slot_of : Option ℕ → ℕ
slot_of f = unwrap_or f 0

abbrev pub is_absent : Option ℕ → Bool
is_absent f = is_none f

-- the components after a reset; slots at or past the count stay
abbrev pub reset_components : ℕ → List Component → List Component
reset_components count components = map after_reset (take count components) ++ drop count components

-- a component in the version reply: its running version, with the device's platform
abbrev pub running_of : (platform : ℕ) → Component → Running
running_of platform c = record { version = c.running; id = c.fixed.id; platform = platform }
