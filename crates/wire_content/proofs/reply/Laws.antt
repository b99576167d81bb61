-- The content reply reads back: the round trips. Assumes nothing.
use mathlib.Core.Path.{ap}
use mathlib.Core.List.{◌∷◌, ◌++◌}
use lib.ListN.{get_or, replicate}
use Rattle.wire.proofs.words.Laws.{round, back}
use Rattle.wire_content.specs.Reply.{read_reply_of}
use Rattle.wire_content.specs.RoundTrip.{ContentReplyR1, ContentReplyR2, ContentReplyR3}

-- what is built reads back
pub content_reply_r1 : ContentReplyR1
unfolding read_reply_of
content_reply_r1 r f = simp (round 2 r.sequence f.sequence)

-- what is read and built again is the packet with its reserved bytes zero
pub content_reply_r2 : ContentReplyR2
unfolding read_reply_of
content_reply_r2 p k = simp k.size (ap (λ s. s ++ 0 ∷ 0 ∷ get_or p 4 0 ∷ replicate 11 0) (back 2 0 p k.bytes))

-- the reserved bytes change nothing that is read
pub content_reply_r3 : ContentReplyR3
unfolding read_reply_of
content_reply_r3 p k = simp k.size
