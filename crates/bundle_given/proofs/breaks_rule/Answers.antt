-- `breaks_rule`: each rule's test. Assumes nothing.
use Rattle.bundle_given.proofs.breaks_rule.Goals as goal

pub returns-in-Offer : goal.returns-in-Offer
returns-in-Offer c = rw c.in-Offer.is c.bad_offer.ensures

pub returns-in-Lent : goal.returns-in-Lent
returns-in-Lent c = rw c.in-Lent.is c.bad_lent.ensures

pub returns-in-Crc : goal.returns-in-Crc
returns-in-Crc c = rw (c.in-Crc.is, c.is_right.ensures, c.image_at.ensures)

pub returns-in-Bears : goal.returns-in-Bears
returns-in-Bears c = rw (c.in-Bears.is, c.bears_offer.ensures, c.image_at-in-Bears.ensures)
