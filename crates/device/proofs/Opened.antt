-- D1 lets an open session pass, and a component that has become pending. Assumes nothing.
use Prim.Native.Nat.{ℕ, ◌<◌}
use mathlib.Core.Path.{◌≡◌, refl}
use mathlib.Core.Bool.{Bool, true, false, not}
use mathlib.Core.List.{List}
use borrow.Author.Tests.{lt-leb}
use lib.ListN.{set, take}
use lib.Seq.{take-set-lt}
use Rattle.wire.specs.Checks.{any}
use Rattle.wire.specs.declared.version.Version.{Version}
use Rattle.device_component.specs.Lists.{component_at}
use Rattle.device_component.specs.Record.{is_pending, with_staged}
use Rattle.device_component.specs.Versions.{image_version_fits, keeps_staged}
use Rattle.device_component.specs.declared.record.Component.{Component}
use Rattle.device.specs.declared.record.Device.{Device}
use Rattle.device.specs.Record.{to_idle, idle_with}
use Rattle.device.specs.Refusals.{breaks_d1}
use Rattle.device_component.proofs.setup.Laws.{setup_staged}
use Rattle.device.proofs.Lists.{any_set}
use Rattle.device_session.proofs.sound.Laws.{passes, keeps}
use Rattle.device.proofs.Blocks.{held, awaits, awaits_slot, Precedes, awaits_previous}

-- code 0 keeps D1
pub idle_passes : (d : Device) → breaks_d1 d ≡ false → breaks_d1 (to_idle d) ≡ false
idle_passes d h = let p = passes h in keeps (record { setup = p.setup; slot = refl; previous = refl; owed = refl; staged = p.staged })

module _ (d : Device) (components : List Component) (slot : ℕ) (listed : slot < d.count) (h : breaks_d1 (idle_with d components) ≡ false) where
  -- a session that is open on a listed component that is not pending, and holds the packet of the block before
  pub open_passes : (token k : ℕ) (previous : List ℕ) → Precedes k previous → is_pending (component_at components slot).staged ≡ false
      → breaks_d1 (held d components (awaits slot token k) previous) ≡ false
  open_passes token k previous q free =
      let p = passes h in
      let o = awaits_slot slot token k in
      keeps (record {
        setup = p.setup;
        slot = rw (o, lt-leb d.count slot listed, free);
        previous = awaits_previous slot token k previous q;
        owed = rw o;
        staged = p.staged;
      })

  -- a listed component becomes pending with a version that is not below running
  pub staged_passes : (v : Version) → image_version_fits (component_at components slot) v ≡ true
      → breaks_d1 (idle_with d (set components slot (with_staged (component_at components slot) v))) ≡ false
  staged_passes v f =
      let p = passes h in
      let c = with_staged (component_at components slot) v in
      let stale : Component → Bool = λ x. not (keeps_staged x x.staged) in
      let same = setup_staged d.staging_len d.count components slot v in
      let kept : any stale (take d.count (set components slot c)) ≡ false
      = rw (take-set-lt d.count components slot c listed) (any_set stale (take d.count components) slot c (rw f) p.staged) in
      keeps (record { setup = rw same p.setup; slot = refl; previous = refl; owed = refl; staged = kept })
