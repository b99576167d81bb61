-- A component by its id, among the first `count` (document 01, "The device").
use Rattle.std.specs.Prelude.{ℕ, List}
use Rattle.device_component.specs.Lists.{find, component_at}
use Rattle.device_component.specs.declared.record.Component.{Component}
use Rattle.device_slots.specs.declared.standing.Standing.{Standing}
use Rattle.device_slots.specs.Slots.{slot_of}

-- where it stands, and what it is; of an id that none has, the component in slot 0
abbrev pub standing_of : (id count : ℕ) → List Component → Standing
standing_of id count components = record { at = find id count components; component = component_at components (slot_of (find id count components)) }
