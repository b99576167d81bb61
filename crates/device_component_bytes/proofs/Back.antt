-- A component is bytes and reads back, also one of the list, its flag fits, and what is read of bytes fits. Assumes nothing.
use mathlib.Core.Path.{◌≡◌, refl, ap, ap₂}
use mathlib.Core.Bool.{Bool, true, false, cond}
use mathlib.Core.List.{List, ◌++◌}
use Prim.Native.Nat.{ℕ}
use native.Mathlib.Omega.{arith}
use lib.Dec.{eqb, leb}
use lib.ListN.{get_or}
use Rattle.wire.specs.Bytes.{Bytes, bytes_of}
use Rattle.wire.specs.Version.{FitsVersion, version_at, version_bytes}
use Rattle.wire.specs.declared.version.Version.{Version}
use Rattle.wire.proofs.Bounds.{cons_bytes, join_bytes, word_bytes, version_bytes_lem, word_fits, version_fits}
use Rattle.wire.proofs.version.Laws.{parts}
use Rattle.wire.proofs.words.Laws.{round}
use Rattle.image.specs.declared.region.Region.{Region}
use Rattle.device_component.specs.Record.{FitsStaged, FitsFixed, FitsComponent, listed}
use Rattle.device_component.specs.declared.record.Component.{Component}
use Rattle.device_component.specs.declared.record.Listed.{Listed}
use Rattle.std.specs.Prelude.{Option, Some, None}
use Rattle.device_component_bytes.specs.Layout.{word_size, version_size, running_at, region_at, region_len_at, floor_at, staged_at, staged_version_at, staged_bytes, region_bytes, component_bytes, listed_bytes, listed_of, component_in, listed_in, staged_flag_fits}

-- what is staged is bytes, and so are a component of the list and a component
staged_bytes_lem : (s : Option Version) → FitsStaged s → Bytes (staged_bytes s)
staged_bytes_lem None f = cons_bytes 0 (bytes_of version_size 0) (omega arith) (word_bytes version_size 0)
staged_bytes_lem (Some v) f = cons_bytes 1 (version_bytes v) (omega arith) (version_bytes_lem v f)

region_bytes_lem : (r : Region) → Bytes (region_bytes r)
region_bytes_lem r = join_bytes (bytes_of word_size r.base.0) (bytes_of word_size r.len) (word_bytes word_size r.base.0) (word_bytes word_size r.len)

listed_bytes_lem : (l : Listed) → FitsFixed l.fixed → FitsVersion l.running → Bytes (listed_bytes l)
listed_bytes_lem l f g =
    let x = l.fixed in
    cons_bytes x.id (version_bytes l.running ++ (region_bytes x.region ++ version_bytes x.floor)) f.id
    (join_bytes (version_bytes l.running) (region_bytes x.region ++ version_bytes x.floor) (version_bytes_lem l.running g)
    (join_bytes (region_bytes x.region) (version_bytes x.floor) (region_bytes_lem x.region) (version_bytes_lem x.floor f.floor)))

pub component_bytes_lem : (c : Component) → FitsComponent c → Bytes (component_bytes c)
component_bytes_lem c f =
    join_bytes (listed_bytes (listed_of c)) (staged_bytes c.staged) (listed_bytes_lem (listed_of c) f.fixed f.running) (staged_bytes_lem c.staged f.staged)

-- one of the list reads back, whatever follows it
listed_read : (l : Listed) (rest : List ℕ) → FitsFixed l.fixed → listed_in (listed_bytes l ++ rest) ≡ l
listed_read l rest f =
    simp (parts l.running, parts l.fixed.floor, round word_size l.fixed.region.base.0 f.region.base, round word_size l.fixed.region.len f.region.len)

pub listed_back : (l : Listed) (rest : List ℕ) → FitsComponent (listed l) → listed_in (listed_bytes l ++ rest) ≡ l
listed_back l rest f = listed_read l rest f.fixed

-- so does a component
pub component_back : (c : Component) (rest : List ℕ) → FitsComponent c → component_in (component_bytes c ++ rest) ≡ c
component_back c rest f =
    ap₂ (λ (l : Listed) (s : Option Version). record { fixed = l.fixed; running = l.running; staged = s }) (listed_read (listed_of c) (staged_bytes c.staged ++ rest) f.fixed) (go c.staged)
  where
    go : (s : Option Version) → let q = staged_bytes s ++ rest in cond (eqb (get_or q 0 0) 1) (Some (version_at 1 q)) None ≡ s
    go None = refl
    go (Some v) = ap Some (parts v)

-- the flag of a component fits
pub component_flag : (c : Component) (rest : List ℕ) → staged_flag_fits (component_bytes c ++ rest) ≡ true
component_flag c rest = go c.staged
  where
    go : (s : Option Version) → leb (get_or (staged_bytes s ++ rest) 0 0) 1 ≡ true
    go None = refl
    go (Some v) = refl

-- what is read of bytes fits
staged_fits_lem : (x : Bool) (v : Version) → FitsVersion v → FitsStaged (cond x (Some v) None)
staged_fits_lem true v f = f
staged_fits_lem false v f = tt

pub component_fits : (q : List ℕ) → Bytes q → FitsComponent (component_in q)
component_fits q h = record {
  fixed = record { id = h 0; region = record { base = word_fits word_size region_at q h; len = word_fits word_size region_len_at q h }; floor = version_fits floor_at q h };
  running = version_fits running_at q h;
  staged = staged_fits_lem (eqb (get_or q staged_at 0) 1) (version_at staged_version_at q) (version_fits staged_version_at q h);
}
