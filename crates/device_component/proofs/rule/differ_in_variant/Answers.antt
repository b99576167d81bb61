-- `rule::differ_in_variant` meets its contract: two variants are compared. Assumes nothing.
use Rattle.device_component.proofs.rule.differ_in_variant.Goals as goal

pub returns : goal.returns
returns c = rw (c.variant.ensures, c.variant-2.ensures)
