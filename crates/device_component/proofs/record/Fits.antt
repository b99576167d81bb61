-- Components whose values are those of the types, each of a list. Assumes nothing.
use mathlib.Core.List.{List, [], ◌∷◌}
use Prim.Native.Nat.{ℕ, zero, suc, ◌<◌, ◌^◌}
use native.Mathlib.Omega.{arith}
use Rattle.device_component.specs.Record.{FitsComponent, FitsStaged, blank_component}
use Rattle.device_component.specs.Lists.{component_at}
use Rattle.device_component.specs.declared.record.Component.{Component}
use Rattle.std.specs.Prelude.{Option, None}
use Rattle.wire.specs.declared.version.Version.{Version}

-- a component by its parts
pub component_fits : (floor id running base len : ℕ) (staged : Option Version) → floor < 256 ^ 4 → id < 256 → running < 256 ^ 4 → base < 256 ^ 4 → len < 256 ^ 4 → FitsStaged staged
    → FitsComponent (record { fixed = record { id = id; region = record { base = record { 0 = base }; len = len }; floor = record { 0 = floor } }; running = record { 0 = running }; staged = staged })
component_fits floor id running base len staged f i r b l s = record { fixed = record { id = i; region = record { base = b; len = l }; floor = f }; running = r; staged = s }

pub blank_fits : FitsComponent blank_component
blank_fits = component_fits 0 0 0 0 0 None (omega arith) (omega arith) (omega arith) (omega arith) (omega arith) tt

-- each of a list fits, and so does what stands past its end
abbrev pub AllFit : List Component → Type 0
AllFit [] = Unit {0}
AllFit (c ∷ cs) = FitsComponent c × AllFit cs

pub all_fit : (cs : List Component) → AllFit cs → (k : ℕ) → FitsComponent (component_at cs k)
all_fit [] h k = blank_fits
all_fit (c ∷ cs) h zero = h.0
all_fit (c ∷ cs) h (suc k) = all_fit cs h.1 k
