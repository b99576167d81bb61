-- `checks::unless_rejected` meets its contract: each check before those after it. Assumes nothing.
use Rattle.std.proofs.Math.Bool.{not-not}
use Rattle.wire.specs.Checks.{first_of}
use Rattle.device_offering.proofs.checks.unless_rejected.Goals as goal

pub returns : goal.returns
unfolding first_of
returns c =
    rw (
      c.unless.ensures,
      c.unless-three.ensures,
      c.is_none.ensures,
      not-not,
      c.unless-four.ensures,
      c.unless-five.ensures,
      c.unless-six.ensures,
      c.is_pending.ensures,
      c.unless-variant.ensures,
      c.is_wrong_variant-wrong.ensures,
      c.unless-seven.ensures,
      c.is_too_low-low.ensures,
    )
