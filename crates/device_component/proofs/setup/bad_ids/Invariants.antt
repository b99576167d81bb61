-- The test of two components that `setup::bad_ids` passes on.
use Rattle.std.specs.Prelude.{eqb}
use Rattle.device_component.proofs.setup.bad_ids.Given as goal

abbrev pub ghost-some_two : goal.ghost-some_two
ghost-some_two a = λ c d. eqb c.fixed.id d.fixed.id
