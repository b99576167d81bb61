-- D1 as its five clauses, and what holds of a device that passes it. Assumes nothing.
use Rattle.std.proofs.Common.{◌≡◌, ℕ, ◌<◌, ◌≤◌, true, false, leb, List, length, refl, true≢false, arith, leb-false, Some, Ok, Err}
use Rattle.wire.specs.Codes.{component_limit}
use Rattle.wire.proofs.Tests.{neither}
use Rattle.image.specs.Region.{is_inside}
use Rattle.image.proofs.region.Within.{lies_inside}
use Rattle.device_component.specs.Record.{is_pending}
use Rattle.device_component.specs.Lists.{component_at}
use Rattle.device_component.specs.Setup.{SetupVerdict, is_refused, setup_verdict}
use Rattle.device_component.specs.declared.record.Component.{Component}
use Rattle.device_component.proofs.setup.Laws.{fine_staging, fine_count, fine_region}
use Rattle.device_session.specs.declared.effect.Session.{Session}
use Rattle.device_session.specs.Stage.{open_slot}
use Rattle.device_session.specs.Sound.{breaks_setup, wrong_slot, opens_wrong, holds_wrong, owes_idle, staged_unfit, breaks_d1}

-- no clause of D1 applies
pub record Passes (n count : ℕ) (components : List Component) (session : Session) : Type 0 where
  pub setup : breaks_setup n count components ≡ false
  pub slot : opens_wrong count components session ≡ false
  pub previous : holds_wrong session ≡ false
  pub owed : owes_idle session ≡ false
  pub staged : staged_unfit count components ≡ false

-- what no row of set-up refuses is fine
pub fine : (v : SetupVerdict) → is_refused v ≡ false → v ≡ Ok tt
fine (Ok u) h = refl
fine (Err row) h = absurd (true≢false h)

module _ {n count : ℕ} {components : List Component} {session : Session} where
  pub passes : breaks_d1 n count components session ≡ false → Passes n count components session
  unfolding breaks_d1
  passes h =
      let a = neither (breaks_setup n count components) _ h in
      let b = neither (opens_wrong count components session) _ a.1 in
      let p = neither (holds_wrong session) _ b.1 in
      let c = neither (owes_idle session) (staged_unfit count components) p.1 in
      record { setup = a.0; slot = b.0; previous = p.0; owed = c.0; staged = c.1 }

  pub keeps : Passes n count components session → breaks_d1 n count components session ≡ false
  unfolding breaks_d1
  keeps p = rw (p.setup, p.slot, p.previous, p.owed) p.staged

  pub setup_fine : Passes n count components session → setup_verdict n count components ≡ Ok tt
  setup_fine p = fine _ p.setup

  -- the staging buffer is at most 65,536 bytes long
  pub staging_most : Passes n count components session → n ≤ 65536
  staging_most p = fine_staging n count components (setup_fine p)

  -- there are no more components than the limit
  pub count_most : Passes n count components session → count ≤ component_limit
  count_most p = (fine_count n count components (setup_fine p)).1

  -- a session that is open on a slot is open on a component that is listed and not pending
  pub open_slot_lem : (k : ℕ) → Passes n count components session → open_slot session.stage ≡ Some k → (k < count) × (is_pending (component_at components k).staged ≡ false)
  open_slot_lem k p e =
      let h : wrong_slot count (component_at components k) (Some k) ≡ false = rw e at p.slot in
      let m = neither (leb count k) _ h in (leb-false count k m.0, m.1)

  -- the region of a component in use lies in the staging buffer
  pub region_inside : (k : ℕ) → Passes n count components session → length components ≡ component_limit → k < count → is_inside (component_at components k).fixed.region n ≡ true
  region_inside k p l h =
      lies_inside (component_at components k).fixed.region n (fine_region n count components (setup_fine p) l k h).1 (omega (arith, staging_most p))
