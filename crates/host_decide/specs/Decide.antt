-- What the host decides on a reply (document 01, "The host"; document 02, A4): the table of rows by stage and reply, the ends H1 to H4, the replay rule, and
-- the copy of a reply that is passed over. No byte of a bundle is looked at: only how many offers it has, and whether the block in hand is the last of its body.
use Rattle.std.specs.Prelude.{Option, Some, None, ℕ, ◌+◌, ◌-◌, ◌≡◌, Bool, true, false, not, cond, ◌&&◌, ◌||◌, List, ltb, leb, eqb, length}
use Rattle.wire.specs.Codes.{info_start_entire_transaction, info_start_offer_list, info_end_offer_list, offer_skip, success_status, short_size}
use Rattle.wire_offer.specs.Reply as offer_reply
use Rattle.wire_content.specs.Reply as content_reply
use Rattle.wire_content.specs.declared.reply.ContentReply.{ContentReply}
use Rattle.host_table.specs.Table.{step_list, step_offer, step_send, step_next_offer, step_wait, step_same, step_decide, opening_row, listing_row, offering_row, waiting_row, closing_row, cell}
use Rattle.host_record.specs.declared.record.Host.{Host}
use Rattle.host_record.specs.declared.record.Turn.{Turn}
use Rattle.host_record.specs.declared.record.Place.{Place}
use Rattle.host_record.specs.declared.record.Awaited.{Awaited}
use Rattle.host_record.specs.declared.record.HostStage.{HostStage}
use Rattle.host_record.specs.declared.record.HostStage.TheVariants.{Fresh, Opening, Listing, Offering, Waiting, Sending, Closing, Ended}
use Rattle.host_record.specs.declared.record.End.{End}
use Rattle.host_record.specs.declared.record.End.TheVariants.{Done, Status, Foreign, Unexpected, Busy}
use Rattle.host_record.specs.Record.{sent_at, passed_at, with_bit, sequence_of}
use Rattle.host_record.specs.Fits.{busy_limit, record_breaks, last_of, in_hand}
use Rattle.host_decide.specs.declared.Action.{Action}
use Rattle.host_decide.specs.declared.Action.TheVariants.{Nothing, Information, Notify, Offer, Block}
use Rattle.host_decide.specs.declared.Move.{Move}

-- the record in another stage
abbrev pub at : Host → HostStage → Host
at h stage = record {
  token = h.token;
  stage = stage;
  mask = h.mask;
  packets = h.packets;
  passes = h.passes;
  skipped = h.skipped;
  landed = h.landed;
}

-- a packet is sent, and its reply awaited
abbrev pub sends : Host → HostStage → Action → Move
sends h stage action = record {
  action = action;
  host = record {
    token = h.token;
    stage = stage;
    mask = h.mask;
    packets = h.packets + 1;
    passes = h.passes;
    skipped = h.skipped;
    landed = h.landed;
  };
}

-- an end sends nothing
abbrev pub ends : Host → End → Move
ends h e = record { action = Nothing; host = at h (Ended e) }

-- code 1 opens a pass
abbrev pub new_pass : Host → Host
new_pass h = record {
  token = h.token;
  stage = h.stage;
  mask = h.mask;
  packets = h.packets;
  passes = h.passes + 1;
  skipped = false;
  landed = false;
}

abbrev pub list : Host → Move
list h = sends (new_pass h) Listing (Information info_start_offer_list)

-- the offer of an entry, or code 2 after the last
abbrev pub offer_from : (n entry : ℕ) → Host → Move
offer_from n entry h =
    cond (ltb entry n) (sends h (Offering (record { entry = entry; busy = 0 })) (Offer entry)) (sends h Closing (Information info_end_offer_list))

-- whether this pass had a SKIP, this status included
abbrev pub noted : Host → ℕ → Host
noted h status = record {
  token = h.token;
  stage = h.stage;
  mask = h.mask;
  packets = h.packets;
  passes = h.passes;
  skipped = h.skipped || eqb status offer_skip;
  landed = h.landed;
}

-- this pass had a completed image, and the entry's bit is set
abbrev pub completes : Host → ℕ → Host
completes h entry = record {
  token = h.token;
  stage = h.stage;
  mask = with_bit h.mask entry;
  packets = h.packets;
  passes = h.passes;
  skipped = h.skipped;
  landed = true;
}

-- after code 2: another pass exactly when this one had a SKIP and a completed image and fewer passes than offers have run
abbrev pub replays : ℕ → Host → Bool
replays n h = (h.skipped && h.landed) && ltb h.passes n

-- a block is sent, and its reply awaited
abbrev pub send_block : Place → Host → Move
send_block p h = sends h (Sending (sent_at p)) (Block p)

-- what a step code does, with the offer in hand and the status of its reply
unfoldable pub act : (code n : ℕ) → Turn → (status : ℕ) → Host → Move
act code n t status h =
    cond (eqb code step_list) (list h)
    (cond (eqb code step_offer) (offer_from n 0 h)
    (cond (eqb code step_send) (send_block (record { entry = t.entry; block = 0 }) h)
    (cond (eqb code step_next_offer) (offer_from n (t.entry + 1) (noted h status))
    (cond (eqb code step_wait) (cond (ltb t.busy busy_limit) (sends h (Waiting (record { entry = t.entry; busy = t.busy + 1 })) Notify) (ends h Busy))
    (cond (eqb code step_same) (sends h (Offering t) (Offer t.entry))
    (cond (eqb code step_decide) (cond (replays n h) (list h) (ends h Done))
    (ends h Unexpected)))))))

-- no offer in hand
abbrev pub no_turn : Turn
no_turn = record { entry = 0; busy = 0 }

-- H2 for a reply of the offer kinds: not 16 bytes, or not our token
abbrev pub foreign_offer : Host → List ℕ → Bool
foreign_offer h reply = not (eqb (length reply) short_size) || not (eqb (offer_reply.reply_in reply).token h.token)

-- on a reply of the offer kinds: H2 first, then the table
unfoldable pub hears : (row n : ℕ) → Turn → Host → (reply : List ℕ) → Move
hears row n t h reply =
    cond (foreign_offer h reply) (ends h Foreign)
    (act (cell row (offer_reply.reply_in reply).status) n t (offer_reply.reply_in reply).status h)

-- a reply to a block reads as the one just taken, once more: the first such while the next block's is awaited, with the sequence of the block before and status
-- 0 (document 02, A4)
abbrev pub repeats_taken : Awaited → ContentReply → Bool
repeats_taken a r =
    (leb 1 a.place.block && not a.passed) && (eqb r.sequence (sequence_of (a.place.block - 1)) && eqb r.status success_status)

-- it is passed over: nothing is sent, and nothing changes but the note that one was passed over
abbrev pub pass_over : Place → Host → Move
pass_over p h = record { action = Nothing; host = at h (Sending (passed_at p)) }

-- after a block is taken: the next one, or the offer is completed and the next offer is due
abbrev pub goes_on : (n : ℕ) → Bool → Place → Host → Move
goes_on n true p h = offer_from n (p.entry + 1) (completes h p.entry)
goes_on n false p h = send_block (record { entry = p.entry; block = p.block + 1 }) h

-- on a 16-byte reply to a block: the reply just taken once more, H2 by its sequence, H1
abbrev pub hears_reply : (n : ℕ) → (last : Bool) → Awaited → Host → ContentReply → Move
hears_reply n last a h r =
    cond (repeats_taken a r) (pass_over a.place h)
    (cond (not (eqb r.sequence (sequence_of a.place.block))) (ends h Foreign)
    (cond (eqb r.status success_status) (goes_on n last a.place h) (ends h (Status r.status))))

-- on a reply to a block: H2 by its length first
unfoldable pub hears_block : (n : ℕ) → (last : Bool) → Awaited → Host → (reply : List ℕ) → Move
hears_block n last a h reply = cond (not (eqb (length reply) short_size)) (ends h Foreign) (hears_reply n last a h (content_reply.reply_in reply))

-- what the host does, by its stage; a fresh host and an ended one await no reply
unfoldable pub decide_in : HostStage → (n : ℕ) → (last : Bool) → Host → (reply : List ℕ) → Move
decide_in Fresh n last h reply = sends h Opening (Information info_start_entire_transaction)
decide_in Opening n last h reply = hears opening_row n no_turn h reply
decide_in Listing n last h reply = hears listing_row n no_turn h reply
decide_in (Offering t) n last h reply = hears offering_row n t h reply
decide_in (Waiting t) n last h reply = hears waiting_row n t h reply
decide_in (Sending a) n last h reply = hears_block n last a h reply
decide_in Closing n last h reply = hears closing_row n no_turn h reply
decide_in (Ended e) n last h reply = record { action = Nothing; host = h }

abbrev pub decide_of : (n : ℕ) → (last : Bool) → Host → (reply : List ℕ) → Move
decide_of n last h reply = decide_in h.stage n last h reply

-- what is decided over a bundle of n offers, where the body in hand has k records: a move, or none where N1 refuses the record
unfoldable pub decision_of : (n k : ℕ) → Host → (reply : List ℕ) → Option Move
decision_of n k h reply = cond (record_breaks n k h) None (Some (decide_of n (last_of k h.stage) h reply))

-- a block that is sent is of the entry in hand
abbrev pub BlocksInHand : Type 0
BlocksInHand = (n k : ℕ) (h : Host) (reply : List ℕ) (m : Move) (p : Place)
    → decision_of n k h reply ≡ Some m → m.action ≡ Block p → p.entry ≡ in_hand h.stage
