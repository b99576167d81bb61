-- `offer::on_offer` meets its contract: the verdict, its reply, and the record after it. Assumes nothing.
use Rattle.device_offering.proofs.offer.on_offer.Goals as goal

pub returns : goal.returns
returns c = cc
