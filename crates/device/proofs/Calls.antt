-- A call that no row refuses: the codes of the offer channel, and how many replies a plain packet gets. Assumes nothing.
use Prim.Native.Nat.{ℕ, ◌≤◌}
use mathlib.Core.Path.{◌≡◌, refl, ◌∙◌}
use mathlib.Core.Bool.{Bool, true, false, cond}
use mathlib.Core.List.{List, ◌∷◌}
use native.Mathlib.Omega.{arith}
use borrow.Author.Tests.{eq-eqb, ne_eqb, le-leb}
use lib.Dec.{leb, eqb}
use lib.ListN.{length}
use Rattle.wire.specs.Checks.{first_of}
use Rattle.wire.specs.Codes.{offer_accept, offer_unsupported}
use Rattle.wire.proofs.Chain.{either}
use Rattle.wire_offer.specs.Reply.{reply_bytes}
use Rattle.wire_offer.specs.Signal.{information_bytes}
use Rattle.wire_offer.specs.Kind.{Kind, offer, information, kind_in}
use Rattle.wire_offer.specs.declared.offer.OfferFields.{OfferFields}
use Rattle.wire_offer.specs.declared.signal.Signal.{Signal}
use Rattle.wire_content.specs.Head.{head_in}
use Rattle.device_session.specs.Effect.{idle, one_reply}
use Rattle.std.specs.Prelude.{Option, None}
use Rattle.device_offering.specs.Offer.{on_offer}
use Rattle.device_offering.specs.Signal as signal
use Rattle.device_offering.specs.Signal.{on_information}
use Rattle.device_receiving.specs.Content.{is_last}
use Rattle.device_receiving.specs.Receive.{on_block, on_verdict}
use Rattle.device_receiving.specs.declared.checks.ContentVerdict.{ContentVerdict}
use Rattle.device_receiving.specs.declared.checks.ContentVerdict.TheVariants.{Answer, Take}
use Rattle.device_receiving.specs.declared.content.Taken.{Taken}
use Rattle.device.specs.declared.record.Device.{Device}
use Rattle.device.specs.declared.answer.Channel.TheVariants.{Offer, Content}
use Rattle.device.specs.Record.{to_idle}
use Rattle.device.specs.Refusals.{served, breaks_d1, refusal_of, Outcome, served_with, ready_sent}
use Rattle.device.specs.Offer.{on_kind, offer_entry}
use Rattle.device.specs.Content.{session_component, content_verdict, received, content_entry}
use Rattle.device.specs.Entries.{serve_entry}

-- a served call with one reply, and then the READY that was owed
abbrev pub answered_with : List ℕ → Option ℕ → Device → Outcome
answered_with bytes ready d = record { row = served; replies = one_reply bytes ready; sent = bytes ∷ ready_sent ready; device = d }

-- one reply with this status, and no reason
abbrev pub plain_reply : (token status : ℕ) → Device → Outcome
plain_reply token status d = answered_with (reply_bytes (record { token = token; reason = 0; status = status })) None d

-- D1 and D2 let pass
pub record Sound (d : Device) (s : List ℕ) : Type 0 where
  pub d1 : breaks_d1 d ≡ false
  pub d2 : length s ≡ d.staging_len

-- D3 lets pass too
pub rows_pass : (size : ℕ) (d : Device) (s : List ℕ) (m : ℕ) → Sound d s → m ≡ size → refusal_of size d (length s) m ≡ served
unfolding refusal_of first_of
rows_pass size d s m h e = simp (h.d1, eq-eqb (length s) d.staging_len h.d2, eq-eqb m size e)

-- a packet on the offer channel is served by its kind
pub serves_kind : (d : Device) (s p : List ℕ) (k : Kind) → Sound d s → length p ≡ 16 → kind_in p ≡ k → serve_entry d Offer s p ≡ on_kind d k
unfolding serve_entry offer_entry
serves_kind d s p k h l e = simp (rows_pass 16 d s (length p) h l, e)

-- code 0: ACCEPT with the sender's token; the session is idle, and nothing is owed
pub code_opens : (d : Device) (s : List ℕ) (token : ℕ) → Sound d s
    → serve_entry d Offer s (information_bytes (record { code = 0; token = token })) ≡ plain_reply token offer_accept (to_idle d)
unfolding kind_in on_information
code_opens d s token h = serves_kind d s _ _ h refl refl

-- codes 1 and 2: ACCEPT with the sender's token; nothing changes
pub code_accepted : (d : Device) (s : List ℕ) (code token : ℕ) → Sound d s → 1 ≤ code → code ≤ 2
    → serve_entry d Offer s (information_bytes (record { code = code; token = token })) ≡ plain_reply token offer_accept d
unfolding kind_in on_information
code_accepted d s code token h low high = serves_kind d s _ _ h refl refl ∙ rw (ne_eqb code 0 (λ z. omega arith), le-leb code 2 high)

-- served, with exactly one reply
abbrev pub Answered : Outcome → Type 0
Answered x = (x.row ≡ served) × (length x.sent ≡ 1)

-- an offer or a code is served with exactly one reply
pub answers_offer : (d : Device) (s p : List ℕ) (o : OfferFields) → Sound d s → length p ≡ 16 → kind_in p ≡ offer o → Answered (serve_entry d Offer s p)
unfolding on_offer
answers_offer d s p o h l e = rw (serves_kind d s p (offer o) h l e) (refl, refl)

-- so is a code
pub answers_code : (d : Device) (s p : List ℕ) (x : Signal) → Sound d s → length p ≡ 16 → kind_in p ≡ information x → Answered (serve_entry d Offer s p)
unfolding on_information
answers_code d s p x h l e = rw (serves_kind d s p (information x) h l e) (go (eqb x.code 0) (leb x.code 2))
  where
    go : (a b : Bool)
        → Answered (served_with d d.components (cond a (signal.plain_reply x.token offer_accept idle)
        (cond b (signal.plain_reply x.token offer_accept d.session) (signal.plain_reply x.token offer_unsupported d.session))))
    go true b = (refl, refl)
    go false true = (refl, refl)
    go false false = (refl, refl)

-- so is a block, where nothing is owed
pub answers_block : (d : Device) (s p : List ℕ) → Sound d s → d.session.owed ≡ None → length p ≡ 60 → Answered (serve_entry d Content s p)
unfolding serve_entry content_entry on_block
answers_block d s p h o l = rw (rows_pass 60 d s (length p) h l) (go (content_verdict d p))
  where
    go : (v : ContentVerdict) → Answered (received d (on_verdict (session_component d) d.session p s v))
    go (Answer status) = (refl, refl)
    go (Take slot) = either (λ (t : Taken). Answered (received d t)) (is_last (head_in p)) _ _ (rw o (refl, refl)) (refl, refl)
