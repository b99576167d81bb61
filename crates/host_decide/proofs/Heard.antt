-- What the host decides on each reply with our token or sequence and a status that the table has a step for, and on the reply just taken once more. Assumes
-- nothing.
use Prim.Native.Nat.{ℕ, ◌+◌, ◌-◌, ◌≤◌}
use mathlib.Core.Path.{◌≡◌, refl}
use mathlib.Core.Bool.{Bool, true, false, not, cond, ◌&&◌}
use mathlib.Core.List.{List}
use native.Mathlib.Nat.{mod-lt}
use native.Mathlib.Omega.{arith}
use borrow.Author.Tests.{leb-true, le-leb, eq-eqb, ne_eqb}
use lib.Dec.{leb, eqb}
use Rattle.wire.specs.Codes.{offer_skip, offer_accept, offer_reject, success_status}
use Rattle.wire.proofs.words.Laws.{round}
use Rattle.wire_offer.specs.Reply as offer_reply
use Rattle.wire_content.specs.Reply as content_reply
use Rattle.host_record.specs.declared.record.Host.{Host}
use Rattle.host_record.specs.declared.record.Turn.{Turn}
use Rattle.host_record.specs.declared.record.Place.{Place}
use Rattle.host_record.specs.declared.record.Awaited.{Awaited}
use Rattle.host_record.specs.declared.record.HostStage.TheVariants.{Opening, Listing, Offering, Sending, Closing}
use Rattle.host_record.specs.declared.record.End.TheVariants.{Done}
use Rattle.host_table.specs.Table.{table, cell}
use Rattle.host_record.specs.Record.{sent_at, sequence_of}
use Rattle.host_decide.specs.Decide.{ends, list, offer_from, noted, replays, send_block, act, hears, repeats_taken, pass_over, goes_on, hears_block, decide_in}

-- the reply to an offer or a code, with the host's token
abbrev pub ours : Host → (reason status : ℕ) → List ℕ
ours h reason status = offer_reply.reply_bytes (record { token = h.token; reason = reason; status = status })

-- H2 does not apply: the table's step
hears_ours : (row n : ℕ) (t : Turn) (h : Host) (reason status : ℕ) → hears row n t h (ours h reason status) ≡ act (cell row status) n t status h
unfolding hears
hears_ours row n t h reason status = rw (eq-eqb h.token h.token refl)

-- two blocks in a row differ in their sequence
pub next_differs : (k : ℕ) → 1 ≤ k → sequence_of k ≡ sequence_of (k - 1) → ⊥
next_differs k l e = omega arith

-- the reply to a block never repeats the one before it
no_repeat : (a : Awaited) → repeats_taken a (record { sequence = sequence_of a.place.block; status = success_status }) ≡ false
no_repeat a = let k = a.place.block in go k (leb 1 k) a.passed refl
  where
    go : (k : ℕ) (t passed : Bool) → leb 1 k ≡ t → ((t && not passed) && (eqb (sequence_of k) (sequence_of (k - 1)) && true)) ≡ false
    go k false passed e = refl
    go k true true e = refl
    go k true false e = rw (ne_eqb _ _ (next_differs k (leb-true 1 k e)))

module _ (n : ℕ) (last : Bool) (h : Host) where
  -- ACCEPT to code 0: a pass
  pub hears_opening : decide_in Opening n last h (ours h 0 offer_accept) ≡ list h
  unfolding decide_in act table
  hears_opening = hears_ours 0 n _ h 0 offer_accept

  -- ACCEPT to code 1: the first offer
  pub hears_listing : decide_in Listing n last h (ours h 0 offer_accept) ≡ offer_from n 0 h
  unfolding decide_in act table
  hears_listing = hears_ours 1 n _ h 0 offer_accept

  -- ACCEPT to an offer: its first block
  pub hears_accept : (t : Turn)
      → decide_in (Offering t) n last h (ours h 0 offer_accept) ≡ send_block (record { entry = t.entry; block = 0 }) h
  unfolding decide_in act table
  hears_accept t = hears_ours 2 n t h 0 offer_accept

  -- SKIP: noted, and the next offer
  pub hears_skip : (t : Turn) → decide_in (Offering t) n last h (ours h 0 offer_skip) ≡ offer_from n (t.entry + 1) (noted h offer_skip)
  unfolding decide_in act table
  hears_skip t = hears_ours 2 n t h 0 offer_skip

  -- REJECT, for whatever reason: the next offer
  pub hears_reject : (t : Turn) (reason : ℕ)
      → decide_in (Offering t) n last h (ours h reason offer_reject) ≡ offer_from n (t.entry + 1) (noted h offer_reject)
  unfolding decide_in act table
  hears_reject t reason = hears_ours 2 n t h reason offer_reject

  -- ACCEPT to code 2: another pass, or done
  pub hears_closing : decide_in Closing n last h (ours h 0 offer_accept) ≡ cond (replays n h) (list h) (ends h Done)
  unfolding decide_in act table
  hears_closing = hears_ours 4 n _ h 0 offer_accept

  -- status 0 to a block, whether or not a reply was passed over: the next block, or the next offer
  pub hears_taken : (a : Awaited)
      → decide_in (Sending a) n last h (content_reply.reply_bytes (record { sequence = sequence_of a.place.block; status = success_status }))
      ≡ goes_on n last a.place h
  unfolding decide_in hears_block
  hears_taken a =
      let k = a.place.block in
      rw (round 2 (sequence_of k) (mod-lt k (omega arith)), no_repeat a, eq-eqb (sequence_of k) (sequence_of k) refl)

  -- status 0 to the block before, the first time: it is passed over
  pub hears_again : (p : Place) → 1 ≤ p.block
      → decide_in (Sending (sent_at p)) n last h (content_reply.reply_bytes (record { sequence = sequence_of (p.block - 1); status = success_status })) ≡ pass_over p h
  unfolding decide_in hears_block
  hears_again p l =
      let k = p.block - 1 in
      rw (round 2 (sequence_of k) (mod-lt k (omega arith)), le-leb 1 p.block l, eq-eqb (sequence_of k) (sequence_of k) refl)
