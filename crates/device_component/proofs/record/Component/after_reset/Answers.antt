-- `Component::after_reset` meets its contract: the effective version runs. Assumes nothing.
use Rattle.device_component.proofs.record.Component.after_reset.Goals as goal

pub returns : goal.returns
returns c = rw c.effective-running.ensures
