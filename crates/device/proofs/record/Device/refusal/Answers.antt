-- `Device::refusal` meets its contract: D1, then D2, then D3. Assumes nothing.
use borrow.Author.Tests.{eq-eqb, ne_eqb}
use Rattle.wire.specs.Checks.{first_of}
use Rattle.device.specs.Refusals.{refusal_of}
use Rattle.wire.proofs.Chain.{by}
use Rattle.device.proofs.record.Device.refusal.Goals as goal

pub returns-then-breaks_d1 : goal.returns-then-breaks_d1
unfolding refusal_of first_of
returns-then-breaks_d1 c = rw (by c.breaks_d1.ensures c.if-breaks_d1.true)

pub returns-then-n-self : goal.returns-then-n-self
unfolding refusal_of first_of
returns-then-n-self c = rw (by c.breaks_d1.ensures c.if-breaks_d1.false, ne_eqb _ _ c.if-n-self.true)

pub returns-then-m-size : goal.returns-then-m-size
unfolding refusal_of first_of
returns-then-m-size c = rw (by c.breaks_d1.ensures c.if-breaks_d1.false, eq-eqb _ _ c.if-n-self.false, ne_eqb _ _ c.if-m-size.true)

pub returns : goal.returns
unfolding refusal_of first_of
returns c = rw (by c.breaks_d1.ensures c.if-breaks_d1.false, eq-eqb _ _ c.if-n-self.false, eq-eqb _ _ c.if-m-size.false)
