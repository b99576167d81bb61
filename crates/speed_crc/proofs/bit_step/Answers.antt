-- `speed_crc::bit_step` meets its contract: the bit that is shifted out is clear, or set. Assumes nothing.
use borrow.Author.Tests.{lt-ltb, le-ltb}
use Rattle.crc16.specs.Crc.{bit_step}
use Rattle.speed_crc.proofs.bit_step.Goals as goal

pub returns-then-r-lt32768 : goal.returns-then-r-lt32768
unfolding bit_step
returns-then-r-lt32768 c = simp (lt-ltb _ _ c.if-r-lt32768.true)

pub returns-else-r-lt32768 : goal.returns-else-r-lt32768
unfolding bit_step
returns-else-r-lt32768 c = simp (le-ltb _ _ c.if-r-lt32768.false)
