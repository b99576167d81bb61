-- `fits::stage_breaks`: by the stage. Assumes nothing.
use mathlib.Core.Logic.{inl, inr}
use Rattle.host_record.proofs.fits.stage_breaks.Goals as goal

pub returns-in-Offering : goal.returns-in-Offering
returns-in-Offering c = elim c.in-Offering.is [ inl e ↦ rw e c.turn_breaks.ensures | inr e ↦ rw e c.turn_breaks.ensures ]

pub returns-in-Sending : goal.returns-in-Sending
returns-in-Sending c = rw c.in-Sending.is c.place_breaks.ensures
