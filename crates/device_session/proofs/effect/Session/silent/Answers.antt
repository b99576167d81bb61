-- `Session::silent` meets its contract: nothing is sent. Assumes nothing.
use Rattle.device_session.proofs.effect.Session.silent.Goals as goal

pub returns : goal.returns
returns c = rw c.none-replies.ensures
