-- `Device::serve` meets its contract: by the channel. Assumes nothing.
use Rattle.device.specs.Entries.{serve_entry, serve_staging}
use Rattle.device.proofs.record.Device.serve.Goals as goal

pub returns-in-Offer : goal.returns-in-Offer
unfolding serve_entry serve_staging
returns-in-Offer c = (rw c.in-Offer.is c.offer.ensures, rw c.in-Offer.is)

pub returns-in-Content : goal.returns-in-Content
unfolding serve_entry serve_staging
returns-in-Content c = (rw c.in-Content.is c.content.ensures.0, rw c.in-Content.is c.content.ensures.1)
