-- `setup::setup_verdict` meets its contract: each row from the tests that lead to it. Assumes nothing.
use Rattle.wire.specs.Checks.{first_of}
use Rattle.wire.proofs.Chain.{chain}
use Rattle.device_component.specs.Setup.{setup_verdict}
use Rattle.device_component.proofs.setup.setup_verdict.Goals as goal

pub returns-then-staging_too_long : goal.returns-then-staging_too_long
unfolding setup_verdict first_of
returns-then-staging_too_long c = search chain

pub returns-then-bad_count : goal.returns-then-bad_count
unfolding setup_verdict first_of
returns-then-bad_count c = search chain

pub returns-then-bad_ids : goal.returns-then-bad_ids
unfolding setup_verdict first_of
returns-then-bad_ids c = rw (← c.in_use-listed.ensures) (search chain)

pub returns-then-bad_regions : goal.returns-then-bad_regions
unfolding setup_verdict first_of
returns-then-bad_regions c = rw (← c.in_use-listed.ensures) (search chain)

pub returns-then-bad_floors : goal.returns-then-bad_floors
unfolding setup_verdict first_of
returns-then-bad_floors c = rw (← c.in_use-listed.ensures) (search chain depth 6)

pub returns : goal.returns
unfolding setup_verdict first_of
returns c = rw (← c.in_use-listed.ensures) (search chain depth 6)
