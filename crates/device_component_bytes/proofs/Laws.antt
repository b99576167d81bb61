-- The bytes of a component, and their number. Assumes nothing.
use mathlib.Core.Path.{◌≡◌, refl, ap, ap₂, ◌∙◌}
use mathlib.Core.List.{List, ◌∷◌, ◌++◌}
use Prim.Native.Nat.{ℕ}
use lib.ListN.{length}
use Rattle.wire.specs.Version.{version_bytes}
use Rattle.wire.specs.Bytes.{bytes_of, bytes_at}
use Rattle.std.specs.Prelude.{Option, Some, None}
use Rattle.wire.specs.declared.version.Version.{Version}
use Rattle.device_component.specs.declared.record.Component.{Component}
use Rattle.device_component.specs.declared.record.Listed.{Listed}
use Rattle.device_component_bytes.specs.Layout.{word_size, version_size, staged_size, listed_size, component_size, staged_bytes, component_bytes, listed_bytes, listed_of}

-- what is staged is so many bytes, each by its place
staged_each : (s : Option Version) → bytes_at staged_size 0 (staged_bytes s) ≡ staged_bytes s
staged_each None = refl
staged_each (Some v) = refl

staged_sized : (s : Option Version) → length (staged_bytes s) ≡ staged_size
staged_sized None = refl
staged_sized (Some v) = refl

-- a component is as many bytes as it has in a record
pub component_sized : (c : Component) → length (component_bytes c) ≡ component_size
component_sized c = rw (staged_sized c.staged)

-- a component, from the bytes of the one of the list and of what is staged
pub component_of_lem : (c : Component) (l s : List ℕ) → l ≡ listed_bytes (listed_of c) → s ≡ staged_bytes c.staged → bytes_at listed_size 0 l ++ bytes_at staged_size 0 s ≡ component_bytes c
component_of_lem c l s e f = ap₂ (λ (x y : List ℕ). bytes_at listed_size 0 x ++ y) e (ap (bytes_at staged_size 0) f ∙ staged_each c.staged)

-- a component of the list, from the bytes of each field
pub listed_of_lem : (x : Listed) (v b l f : List ℕ) → v ≡ version_bytes x.running → b ≡ bytes_of word_size x.fixed.region.base.0 → l ≡ bytes_of word_size x.fixed.region.len → f ≡ version_bytes x.fixed.floor
    → x.fixed.id ∷ bytes_at version_size 0 v ++ (bytes_at word_size 0 b ++ (bytes_at word_size 0 l ++ bytes_at version_size 0 f)) ≡ listed_bytes x
listed_of_lem x v b l f d e g h = rw (d, e, g, h)
