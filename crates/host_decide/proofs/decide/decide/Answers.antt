-- `decide::decide`: by the stage. Assumes nothing.
use mathlib.Core.Path.{◌∙◌, subst}
use Rattle.host_record.specs.Spare.{SpareIn}
use Rattle.host_decide.specs.Decide.{decide_in}
use Rattle.host_decide.proofs.decide.Laws.{by_stage}
use Rattle.host_decide.proofs.decide.decide.Goals as goal

pub hears-requires-in-Offering : goal.hears-requires-in-Offering
hears-requires-in-Offering c = let p = c.requires in (p.0, subst SpareIn c.in-Offering.is p.1)

pub hears-requires-in-Waiting : goal.hears-requires-in-Waiting
hears-requires-in-Waiting c = let p = c.requires in (p.0, subst SpareIn c.in-Waiting.is p.1)

pub hears_block-requires : goal.hears_block-requires
hears_block-requires c = let p = c.requires in let q = subst SpareIn c.in-Sending.is p.1 in (p.0, q.0, q.1)

pub returns-in-Fresh : goal.returns-in-Fresh
unfolding decide_in
returns-in-Fresh c = c.sends.ensures ∙ by_stage _ _ _ _ c.in-Fresh.is

pub returns-in-Opening : goal.returns-in-Opening
unfolding decide_in
returns-in-Opening c = c.hears.ensures ∙ by_stage _ _ _ _ c.in-Opening.is

pub returns-in-Listing : goal.returns-in-Listing
unfolding decide_in
returns-in-Listing c = c.hears-in-Listing.ensures ∙ by_stage _ _ _ _ c.in-Listing.is

pub returns-in-Offering : goal.returns-in-Offering
unfolding decide_in
returns-in-Offering c = c.hears-in-Offering.ensures ∙ by_stage _ _ _ _ c.in-Offering.is

pub returns-in-Waiting : goal.returns-in-Waiting
unfolding decide_in
returns-in-Waiting c = c.hears-in-Waiting.ensures ∙ by_stage _ _ _ _ c.in-Waiting.is

pub returns-in-Sending : goal.returns-in-Sending
unfolding decide_in
returns-in-Sending c = c.hears_block.ensures ∙ by_stage _ _ _ _ c.in-Sending.is

pub returns-in-Closing : goal.returns-in-Closing
unfolding decide_in
returns-in-Closing c = c.hears-in-Closing.ensures ∙ by_stage _ _ _ _ c.in-Closing.is

pub returns-in-Ended : goal.returns-in-Ended
unfolding decide_in
returns-in-Ended c = by_stage _ _ _ _ c.in-Ended.is
