-- The test of two components that `setup::bad_regions` passes on.
use Rattle.device_component.specs.Setup.{overlap}
use Rattle.device_component.proofs.setup.bad_regions.Given as goal

abbrev pub ghost-some_two : goal.ghost-some_two
ghost-some_two a = λ c d. overlap c.fixed.region d.fixed.region
