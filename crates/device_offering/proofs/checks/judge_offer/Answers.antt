-- `checks::judge_offer` meets its contract: check 1 before checks 2 to 7, these before checks 8 and 9. Assumes nothing.
use Rattle.wire.specs.Checks.{first_of}
use Rattle.device_offering.proofs.checks.judge_offer.Goals as goal

pub returns : goal.returns
unfolding first_of
returns c =
    rw (
      c.unless.ensures,
      c.is_open.ensures,
      c.unless_rejected-two.ensures,
      c.unless-eight.ensures,
      c.need_unmet.ensures,
      c.unwrap_or.ensures,
    )
