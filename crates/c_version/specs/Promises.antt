-- What the bytes of a version reply's components promise: they are of one length, and read back, both ways.
use Rattle.std.specs.Prelude.{ℕ, ◌≡◌, List, length, get_or}
use Rattle.wire.specs.Bytes.{Packet}
use Rattle.wire.specs.Codes.{component_limit}
use Rattle.wire_version.specs.Reply.{none, FitsEntry}
use Rattle.wire_version.specs.declared.Running.{Running}
use Rattle.c_version.specs.Layout.{components_size, components_bytes, components_in}

-- all components are bytes of the one length
abbrev pub ComponentsSized : Type 0
ComponentsSized = (es : List Running) → length es ≡ component_limit → ((i : ℕ) → FitsEntry (get_or es i none)) → Packet components_size (components_bytes es)

-- all components read back
abbrev pub ComponentsReadBack : Type 0
ComponentsReadBack = (es : List Running) → length es ≡ component_limit → ((i : ℕ) → FitsEntry (get_or es i none)) → components_in component_limit (components_bytes es) ≡ es

-- bytes of that length that were read are written again
abbrev pub ComponentsWriteBack : Type 0
ComponentsWriteBack = (q : List ℕ) → Packet components_size q → components_bytes (components_in component_limit q) ≡ q
