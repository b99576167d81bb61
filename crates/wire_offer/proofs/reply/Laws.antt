-- The offer reply reads back. Assumes nothing.
use mathlib.Core.Path.{refl}
use Rattle.wire_offer.specs.Reply.{read_reply_of}
use Rattle.wire_offer.specs.RoundTrip.{OfferReplyR1, OfferReplyR2, OfferReplyR3}

-- what is built reads back
pub offer_reply_r1 : OfferReplyR1
unfolding read_reply_of
offer_reply_r1 r f = refl

-- what was read and is built again is the packet with its reserved bytes zero
pub offer_reply_r2 : OfferReplyR2
unfolding read_reply_of
offer_reply_r2 p k = simp k.size

-- those bytes change nothing that is read
pub offer_reply_r3 : OfferReplyR3
unfolding read_reply_of
offer_reply_r3 p k = simp k.size
