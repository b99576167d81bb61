-- `stage::stage_words` meets its contract: by the stage. Assumes nothing.
use Rattle.host_bytes.proofs.Record.{end_words_lem}
use Rattle.host_bytes.proofs.stage.stage_words.Goals as goal

pub returns-in-Fresh : goal.returns-in-Fresh
returns-in-Fresh c = rw c.in-Fresh.is c.bare.ensures

pub returns-in-Opening : goal.returns-in-Opening
returns-in-Opening c = rw c.in-Opening.is c.bare-in-Opening.ensures

pub returns-in-Listing : goal.returns-in-Listing
returns-in-Listing c = rw c.in-Listing.is c.bare-in-Listing.ensures

pub returns-in-Offering : goal.returns-in-Offering
returns-in-Offering c = rw c.in-Offering.is

pub returns-in-Waiting : goal.returns-in-Waiting
returns-in-Waiting c = rw c.in-Waiting.is

pub returns-in-Sending : goal.returns-in-Sending
returns-in-Sending c = rw c.in-Sending.is

pub returns-in-Closing : goal.returns-in-Closing
returns-in-Closing c = rw c.in-Closing.is c.bare-in-Closing.ensures

pub returns-in-Ended : goal.returns-in-Ended
returns-in-Ended c = rw (c.in-Ended.is, c.number.ensures, c.status.ensures) (end_words_lem c.in-Ended.e)
