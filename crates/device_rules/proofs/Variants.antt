-- Versions of one variant: A1's rules are document 01's. Assumes nothing.
use mathlib.Core.Path.{◌≡◌, refl, sym, ap, subst, ◌∙◌}
use mathlib.Core.Bool.{Bool, true, false, not, ◌||◌, ◌&&◌}
use Prim.Native.Nat.{ℕ, ◌/◌, ◌%◌, ◌≤◌, ◌<◌}
use native.Mathlib.Omega.{arith}
use lib.Dec.{leb}
use borrow.Author.Tests.{leb-true, leb-false, le-leb, lt-leb, eq-eqb, not-true, not-false}
use Rattle.wire.specs.Version.{release_of}
use Rattle.wire.specs.declared.version.Version.{Version}
use Rattle.wire.proofs.Tests.{both, equal}
use Rattle.device_component.specs.Setup.{setup_verdict}
use Rattle.device_component.specs.Versions as rule
use Rattle.device_component.specs.declared.record.Component.{Component}
use Rattle.std.specs.Prelude.{Option, Some}
use Rattle.device_session.proofs.sound.Laws.{passes}
use Rattle.device.specs.Record.{component}
use Rattle.device.proofs.Lists.{none_below}
use Rattle.device_rules.specs.Rules as rules
use Rattle.device_rules.specs.Rules.{versions01, versions_a1, with_floor}
use Rattle.device_rules.specs.Promises.{OneVariant, OneVariantAsBefore, SoundStagedOne}
use Rattle.device_rules.proofs.Alike.{Agree, alike}
use Rattle.device_rules.proofs.InForce.{d1_as, rules_in_force_answer}

-- numbers of one variant stand in the order of their releases
order : (m n : ℕ) → m % 256 ≡ n % 256 → leb (m / 256) (n / 256) ≡ leb m n
order m n e = go (leb m n) refl
  where
    go : (b : Bool) → leb m n ≡ b → leb (m / 256) (n / 256) ≡ leb m n
    go true h = let l : m / 256 ≤ n / 256 = omega (arith, leb-true m n h) in rw h (le-leb (m / 256) (n / 256) l)
    go false h = let l : n / 256 < m / 256 = omega (arith, e, leb-false m n h) in rw h (lt-leb (m / 256) (n / 256) l)

-- A1's and document 01's do, and so they do with floors beside them
pub agree01 : Agree OneVariant versions_a1 versions01
agree01 c v one =
    let variant : rule.wrong_variant c v ≡ false = rw (eq-eqb _ _ one) refl in
    let follows : versions_a1.image_fits c v ≡ versions01.image_fits c v = rw variant (order c.running.0 v.0 (sym one)) in
    (variant, order v.0 c.running.0 one, follows, follows)

agree_floor : Agree OneVariant rules.versions (with_floor versions01)
agree_floor c v one =
    let a = agree01 c v one in
    let fits : (rules.versions).image_fits c v ≡ (with_floor versions01).image_fits c v = ap (λ (x : Bool). x && not (rule.below_floor c v)) a.2 in
    (a.0, ap (λ (x : Bool). x || rule.below_floor c v) a.1, fits, fits)

pub one_variant_as_before : OneVariantAsBefore
one_variant_as_before d staging call h g =
    rules_in_force_answer.calls d staging call ∙ alike OneVariant rules.versions (with_floor versions01) setup_verdict setup_verdict agree_floor d staging refl call (d1_as d) h g

-- where D1's last clause does not apply, what is staged has the running variant
fits_one : (c : Component) (s : Option Version) (v : Version) → not (rule.keeps_staged c s) ≡ false → s ≡ Some v → OneVariant c v
fits_one c s v k e =
    let fits : rule.keeps_staged c (Some v) ≡ true = subst (λ (x : Option Version). rule.keeps_staged c x ≡ true) e (not-false _ k) in
    equal _ _ (not-true _ (both (not (rule.wrong_variant c v)) _ (both (not (rule.wrong_variant c v) && leb (release_of c.running) (release_of v)) _ fits).0).0)

pub sound_staged_one : SoundStagedOne
sound_staged_one d e k v l s =
    fits_one (component d k) (component d k).staged v
    (none_below (λ (c : Component). not (rule.keeps_staged c c.staged)) d.count d.components k refl l (passes e).staged) s
