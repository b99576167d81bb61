-- What an eligible offer is, from checks 2 to 7 and back. Assumes nothing.
use mathlib.Core.Path.{◌≡◌, refl}
use mathlib.Core.Bool.{false, not, true≢false}
use borrow.Author.Tests.{eq-eqb, not-true}
use Rattle.wire.proofs.Tests.{equal, both}
use Rattle.wire.proofs.Chain.{quiet, none_applies}
use Rattle.device_component.specs.Record.{is_pending}
use Rattle.device_component.specs.Versions.{wrong_variant}
use Rattle.std.specs.Prelude.{ℕ, Option, Some, None}
use Rattle.wire.specs.declared.version.Version.{Version}
use Rattle.device_slots.specs.Slots.{slot_of, is_absent}
use Rattle.device_offering.specs.Offer.{rejections_at}
use Rattle.device_offering.specs.Eligible.{EligibleIs}

-- what was found stands in its slot
there : (f : Option ℕ) → is_absent f ≡ false → f ≡ Some (slot_of f)
there None e = absurd (true≢false e)
there (Some k) e = refl

-- what is not pending has nothing staged
none_staged : (x : Option Version) → is_pending x ≡ false → x ≡ None
none_staged None h = refl
none_staged (Some v) h = absurd (true≢false h)

-- an offer is eligible exactly where none of checks 2 to 7 rejects it
pub eligible_is : EligibleIs
eligible_is platform target o = (
  (λ h.
      let q = quiet (rejections_at platform target o) h in
      record {
        protocol = equal _ _ q.0;
        slot = slot_of target.at;
        listed = there target.at q.1.0;
        here = equal _ _ q.1.1.0;
        segment = equal _ _ q.1.1.1.0;
        free = none_staged _ q.1.1.1.1.0;
        version = rw (q.1.1.1.1.1.0, q.1.1.1.1.1.1.0) refl;
      }),
  (λ e.
      let v = both (not (wrong_variant target.component o.version)) _ e.version in
      none_applies (rejections_at platform target o) (
        rw (eq-eqb _ _ e.protocol) refl,
        (rw e.listed refl, (rw (eq-eqb _ _ e.here) refl, (rw (eq-eqb _ _ e.segment) refl, (rw e.free refl, (not-true _ v.0, (not-true _ v.1, tt)))))),
      )),
)
