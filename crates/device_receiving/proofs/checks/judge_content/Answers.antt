-- `checks::judge_content` meets its contract: each answer from the checks that lead to it. Assumes nothing.
use Rattle.wire.specs.Checks.{first_of}
use Rattle.device_receiving.specs.Content.{content_verdict}
use Rattle.wire.proofs.Chain.{chain, by}
use Rattle.device_receiving.proofs.checks.judge_content.Goals.{Else-bad_address, Else-bad_first, Else-bad_sequence, Else-bad_shape, Else-sent_again}
use Rattle.device_receiving.proofs.checks.judge_content.Goals as goal

pub returns-then-no_offer : goal.returns-then-no_offer
unfolding content_verdict first_of
returns-then-no_offer c = search chain

pub returns-then-bad_shape : goal.returns-then-bad_shape
unfolding content_verdict first_of
returns-then-bad_shape c = search chain

pub returns-then-bad_first : goal.returns-then-bad_first
unfolding content_verdict first_of
returns-then-bad_first c = search chain

pub returns-then-sent_again : goal.returns-then-sent_again
unfolding content_verdict first_of
returns-then-sent_again c = search chain

pub returns-then-bad_sequence : goal.returns-then-bad_sequence
unfolding content_verdict first_of
returns-then-bad_sequence c = search chain depth 6

pub returns-then-bad_address : goal.returns-then-bad_address
unfolding content_verdict first_of
returns-then-bad_address c = search chain depth 7

pub returns : goal.returns
unfolding content_verdict first_of
returns c =
    let k6 = (goal.at.returns c).Else-bad_address in
    let k5 = (goal.at.returns c).Else-bad_sequence in
    let k4 = (goal.at.returns c).Else-sent_again in
    let k3 = (goal.at.returns c).Else-bad_first in
    let k2 = (goal.at.returns c).Else-bad_shape in
    let k1 = k2 in
    rw (
      by k1.no_offer.ensures k1.if-no_offer.false,
      by k2.bad_shape.ensures k2.if-bad_shape.false,
      by k3.bad_first.ensures k3.if-bad_first.false,
      by k4.sent_again.ensures k4.if-sent_again.false,
      by k5.bad_sequence.ensures k5.if-bad_sequence.false,
      by k6.bad_address.ensures k6.if-bad_address.false,
      c.slot.ensures,
    )
