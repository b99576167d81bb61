-- Components that a parameter holds are values of their type. Assumes nothing.
use Prim.Native.Nat.{ℕ, zero, suc}
use mathlib.Core.List.{List, [], ◌∷◌}
use mir.Val.{Val}
use denote.Array.{each}
use denote.Laws.{Is}
use denote.Shadow.{shadow}
use Rattle.device_component.specs.Record.{FitsStaged, FitsComponent}
use Rattle.device_component.specs.Lists.{component_at}
use Rattle.device_component.specs.declared.record.Component.{Component}
use Rattle.std.specs.Prelude.{Option, Some, None}
use Rattle.wire.specs.declared.version.Version.{Version}
use Rattle.device_component.specs.contracts.record.Component as C
use Rattle.std.specs.contracts.option.Option as P
use Rattle.wire.specs.contracts.version.Version as V
use Rattle.device_component.proofs.record.Fits.{blank_fits}

-- a staged version
staged_range : (s : Option Version) (vs : List Val) → Is (P.the_row V.the_row) s vs → FitsStaged s
staged_range None vs h = tt
staged_range (Some v) vs h = h.1.1.1.1.0.1.1.0.1

-- a component
component_range : (c : Component) (vs : List Val) → Is C.the_row c vs → FitsComponent c
component_range c vs h =
    let f = h.1.1 in
    let g = f.0.1.1 in
    record {
      fixed = record { id = g.0.1; region = record { base = g.1.0.1.1.0.1.1.0.1; len = g.1.0.1.1.1.0.1 }; floor = g.1.1.0.1.1.0.1 };
      running = f.1.0.1.1.0.1;
      staged = staged_range c.staged _ f.1.1.0;
    }

-- each component of a list
pub components_range : (cs : List Component) (us : List Val) → shadow (each (C.the_row).Denot (C.the_row).own_val cs us)
    → (k : ℕ) → FitsComponent (component_at cs k)
components_range [] us h k = blank_fits
components_range (c ∷ cs) [] h k = absurd h
components_range (c ∷ cs) (u ∷ us) h zero = component_range c (u ∷ []) h.0
components_range (c ∷ cs) (u ∷ us) h (suc k) = components_range cs us h.1 k
