-- The rules over a list of components, each as a test that the code computes: D1's, those of S3 to S5, and that of `find`.
use Rattle.std.specs.Prelude.{ℕ, Bool, not, ◌||◌, List, eqb}
use Rattle.wire.specs.Checks.{any, pairs}
use Rattle.device_component.specs.Setup.{bad_id, bad_region, overlap, bad_floor}
use Rattle.device_component.specs.Versions.{keeps_staged}
use Rattle.device_component.specs.declared.record.Component.{Component}

-- D1, of one component and a staging buffer of n bytes: S3, S4, S5, or a staged version that does not fit the running one and the floor
abbrev pub flawed : (n : ℕ) → Component → Bool
flawed n c = bad_id c.fixed.id || (bad_region n c.fixed.region || (bad_floor c.fixed.floor || not (keeps_staged c c.staged)))

-- D1, of two: the same id, or regions that overlap
abbrev pub clash : Component → Component → Bool
clash c c' = eqb c.fixed.id c'.fixed.id || overlap c.fixed.region c'.fixed.region

-- D1, of the components in use: one is flawed, or two clash
unfoldable pub unsound : (n : ℕ) → List Component → Bool
unsound n cs = any (flawed n) cs || pairs clash cs
