-- One turn of both ends is one exchange of the run, and the run is at its last where the host has ended. Assumes nothing.
use Prim.Native.Nat.{ℕ, suc, ◌≤◌, ◌<◌}
use mathlib.Core.Path.{◌≡◌, refl, sym, ap, subst, ◌∙◌}
use mathlib.Core.Logic.{◌⊎◌, inl, inr}
use mathlib.Core.Bool.{Bool, true, false, cond, true≢false}
use mathlib.Core.List.{List, [], ◌∷◌}
use native.Mathlib.Omega.{arith}
use lib.Dec.{eqb, leb}
use lib.ListN.{length, take, drop, length-take}
use lib.Seq.{take_all}
use Rattle.wire.specs.Bytes.{Bytes}
use Rattle.wire.specs.Codes.{notify_on_ready, info_start_entire_transaction, info_end_offer_list}
use Rattle.wire_offer.specs.Kind.{Kind, offer, information, extended, kind_in}
use Rattle.wire_content.specs.Head.{head_in}
use Rattle.bundle_layout.specs.Layout.{offer_limit, count_in}
use Rattle.bundle_layout.specs.Rows as rows
use Rattle.bundle_layout.specs.declared.Checked.{Checked}
use Rattle.bundle.specs.Contents.{Contents, check_of, told_checked}
use Rattle.bundle.proofs.Accepted.{accepted}
use Rattle.bundle.proofs.Told.{check_row}
use Rattle.device_session.specs.Stage.{is_open}
use Rattle.device_session.specs.Effect.{no_replies}
use Rattle.device_session.specs.declared.effect.Replies.{Replies}
use Rattle.device_session.specs.declared.effect.Effect.{Effect}
use Rattle.device_offering.specs.Offer.{on_offer}
use Rattle.device_offering.specs.Signal.{on_information, on_notify, on_extended}
use Rattle.device_receiving.specs.Content.{is_last}
use Rattle.device_receiving.specs.Receive.{on_block, on_verdict}
use Rattle.device.specs.Refusals.{Row, served, row_d, Outcome, told, refusal_of, unless_refused, served_with}
use Rattle.device.specs.Offer.{on_kind, offer_entry}
use Rattle.device.specs.Content.{session_component, content_verdict, received, content_entry}
use Rattle.device.specs.Entries.{serve_entry, serve_staging}
use Rattle.device.specs.declared.record.Device.{Device}
use Rattle.std.specs.Prelude.{Option, Some, None, Result, Ok, Err}
use Rattle.std.specs.Result.{result_unwrap_or}
use Rattle.device.specs.declared.answer.Answer.{Answer}
use Rattle.device.specs.declared.answer.Refusal.{Refusal}
use Rattle.device.specs.declared.answer.Channel.{Channel}
use Rattle.device.specs.declared.answer.Channel.TheVariants.{Offer, Content}
use Rattle.device_receiving.specs.declared.checks.ContentVerdict.{ContentVerdict}
use Rattle.device_receiving.specs.declared.checks.ContentVerdict.TheVariants as verdict
use Rattle.device_receiving.specs.declared.content.Taken.{Taken}
use Rattle.wire.proofs.Chain.{either}
use Rattle.host_record.specs.Record.{fresh_host, has_ended}
use Rattle.host_record.specs.Fits.{body_of, in_hand}
use Rattle.host_decide.specs.Decide.{decide_of}
use Rattle.host_packet.specs.Packet.{packet_size}
use Rattle.host_packet.specs.Answer.{Step, sent_by}
use Rattle.host_packet.specs.declared.answer.Sent.TheVariants as sent
use Rattle.host_packet.specs.declared.answer.Stepped.{Stepped}
use Rattle.host_packet.specs.declared.answer.StepRefusal.{StepRefusal}
use Rattle.host_packet.specs.Made.{InnerStep, told_inner}
use Rattle.host.specs.Step.{last_in, step_of}
use Rattle.host.specs.Inner.{inner_of, lent, CursorIn}
use Rattle.host_record.specs.declared.record.Host.{Host}
use Rattle.host_record.specs.declared.record.HostStage.{HostStage}
use Rattle.host_record.specs.declared.record.HostStage.TheVariants as stage
use Rattle.host_record.specs.declared.fits.Body.{Body}
use Rattle.host_decide.specs.declared.Move.{Move}
use Rattle.host.proofs.inner.IsStep.{inner_is_step}
use Rattle.update.specs.declared.turn.BothEnds.{BothEnds}
use Rattle.update.specs.Trace.{Exchange}
use Rattle.update.specs.Heard.{trace_after, awaited_after}
use Rattle.update.specs.Run as run
use Rattle.update.specs.Run.{System, once, is_middle, channel_of, heard, delivered, turned, exchange, start, last_of}
use Rattle.update.specs.Ends.{HostRun}
use Rattle.update.specs.Turn.{way_of, reply_of, system_of, Comes, step_from, after_of, Delivered, Turned}
use Rattle.update_passes.proofs.Tests.{and_false}
use Rattle.update.proofs.Ready.{InStage, Ready, Goes, steps_left, goes, step_moves, fresh_ready}
use Rattle.update.proofs.Talks.{turned_host, run_next, ended_last}

-- the first that is sent is the reply, where one is due; a READY follows only a reply
abbrev First : Outcome → Type 0
First a = take 1 a.sent ≡ cond a.replies.due (a.replies.reply ∷ []) []

module _ (d : Device) where
  -- of what a packet on the offer channel does
  abbrev EffectFirst : Effect → Type 0
  EffectFirst e = First (served_with d d.components e)

  -- of a notify on ready
  notify_first : (token : ℕ) (b : Bool) (o : Option ℕ) → EffectFirst (on_notify d.session token b o)
  notify_first token false o = refl
  notify_first token true None = refl
  notify_first token true (Some t) = refl

  -- of an offer packet
  kind_first : (x : Kind) → First (on_kind d x)
  unfolding on_offer on_information on_extended
  kind_first (offer o) = refl
  kind_first (information s) =
      either EffectFirst (eqb s.code info_start_entire_transaction) _ _ refl (either EffectFirst (leb s.code info_end_offer_list) _ _ refl refl)
  kind_first (extended s) = either EffectFirst (eqb s.code notify_on_ready) _ _ (notify_first s.token (is_open d.session.stage) d.session.owed) refl

  -- of a content packet
  content_first : (p s : List ℕ) (v : ContentVerdict) → First (received d (on_verdict (session_component d) d.session p s v))
  unfolding on_block
  content_first p s (verdict.Answer status) = refl
  content_first p s (verdict.Take k) = either (λ (t : Taken). First (received d t)) (is_last (head_in p)) _ _ refl refl

  -- of a refused call
  unless_first : (row : Row) (a : Outcome) → First a → First (unless_refused row d a)
  unless_first served a h = h
  unless_first (row_d k) a h = refl

  -- of every call
  serve_first : (channel : Channel) (staging p : List ℕ) → First (serve_entry d channel staging p)
  unfolding serve_entry offer_entry content_entry
  serve_first Offer staging p = unless_first (refusal_of 16 d (length staging) (length p)) (on_kind d (kind_in p)) (kind_first (kind_in p))
  serve_first Content staging p =
      let v = content_verdict d p in
      unless_first (refusal_of 60 d (length staging) (length p)) (received d (on_verdict (session_component d) d.session p staging v)) (content_first p staging v)

-- the first n bytes of a list
pub first_length : (n : ℕ) (p : List ℕ) → n ≤ length p → n ≡ length (take n p)
first_length n p l = simp length-take (omega arith)

-- what is received of a reply of 16 bytes
pub heard_most : (due : Bool) (reply : List ℕ) → length reply ≡ 16 → cond due 16 0 ≤ length reply
heard_most true reply l = omega arith
heard_most false reply l = omega arith

heard_is : (due : Bool) (reply : List ℕ) → length reply ≡ 16 → take (cond due 16 0) reply ≡ cond due reply []
heard_is true reply l = take_all 16 reply (omega arith)
heard_is false reply l = refl

-- the step on it, written into 60 lent bytes
pub stepped : (b p : List ℕ) (count : ℕ) (hand : Body) (e : BothEnds) (n : ℕ) (i : InnerStep) → length p ≡ packet_size → length e.replies.reply ≡ 16
    → n ≡ cond e.replies.due 16 0
    → i ≡ lent p e.host e.cursor (inner_of b rows.served count hand e.cursor e.host (take n e.replies.reply))
    → i ≡ step_from b count hand e
stepped b p count hand e n i l m z h = h ∙ rw (l, z, heard_is e.replies.due e.replies.reply m)

-- a step, with what it sends answered
pub step_turned : (b : List ℕ) (count : ℕ) (hand : Body) (e : BothEnds) (i : InnerStep) (staging staging' : List ℕ) (a : Answer)
    → i ≡ step_from b count hand e → Delivered i.step.sent e staging a staging' → Turned b count hand e staging (after_of i.step.host i.cursor a) staging'
step_turned b count hand e i staging staging' a z d =
    subst (λ (x : InnerStep). (i.cursor ≡ x.cursor) × ((awaited : List (List ℕ)) → (trace : List Exchange) → Comes (turned once x.step (system_of e staging awaited trace)) (after_of i.step.host i.cursor a) staging')) z
    (refl, d i.step refl i.cursor)

-- the same over what the inner step answers: a refused step sends nothing, and leaves the record and the cursor
pub kept_turned : (b packet : List ℕ) (count : ℕ) (hand : Body) (e : BothEnds) (r : Result Stepped StepRefusal) (s : Stepped) (staging staging' : List ℕ) (a : Answer)
    → s ≡ result_unwrap_or r (record { sent = sent.Nothing; host = e.host; cursor = e.cursor }) → told_inner e.host e.cursor r packet ≡ step_from b count hand e
    → Delivered (sent_by s.sent packet) e staging a staging' → Turned b count hand e staging (after_of s.host s.cursor a) staging'
kept_turned b packet count hand e (Ok x) s staging staging' a z i d = rw z (step_turned b count hand e _ staging staging' a i (rw z at d))
kept_turned b packet count hand e (Err y) s staging staging' a z i d = rw z (step_turned b count hand e _ staging staging' a i (rw z at d))

-- the reply that is handed over is gone, and the next step is handed it
way_gone : (due : Bool) (reply : List ℕ) → drop 1 (cond {A = List (List ℕ)} due (reply ∷ []) []) ≡ []
way_gone true reply = refl
way_gone false reply = refl

way_heard : (due : Bool) (reply : List ℕ) → heard (cond due (reply ∷ []) []) ≡ cond due reply []
way_heard true reply = refl
way_heard false reply = refl

module _ (e : BothEnds) where
  -- the system after a step, before what it sends arrives
  abbrev after : Step → (staging : List ℕ) → (awaited : List (List ℕ)) → List Exchange → System
  after x staging awaited trace = record {
    host = x.host;
    device = e.device;
    staging = staging;
    replies = [];
    awaited = awaited_after x awaited;
    trace = trace_after x (heard (way_of e)) awaited trace;
  }

  after_is : (x : Step) (staging : List ℕ) (awaited : List (List ℕ)) (trace : List Exchange)
      → run.stepped x (system_of e staging awaited trace) ≡ after x staging awaited trace
  after_is x staging awaited trace = rw (way_gone e.replies.due e.replies.reply)

  -- nothing is sent
  pub nothing_delivered : (staging : List ℕ) (replies : Replies) → replies ≡ no_replies → Delivered [] e staging (record { replies = replies; device = e.device }) staging
  unfolding turned
  nothing_delivered staging replies n x z cursor awaited trace = (
    awaited_after x awaited,
    trace_after x (heard (way_of e)) awaited trace,
    ap (λ (ps : List (List ℕ)). delivered once ps (run.stepped x (system_of e staging awaited trace))) z ∙ after_is x staging awaited trace ∙ rw n,
  )

  -- what comes of a call: where a row refuses it, the device stays, and nothing is sent
  call_comes : (r : Result Answer Refusal) (replies : Replies) (o : Outcome) → replies ≡ no_replies → told e.device r ≡ o
      → let a = result_unwrap_or r (record { replies = replies; device = e.device }) in (a.replies ≡ o.replies) × (a.device ≡ o.device)
  call_comes (Ok a) replies o n t = (ap (λ (x : Outcome). x.replies) t, ap (λ (x : Outcome). x.device) t)
  call_comes (Err refusal) replies o n t = (n ∙ ap (λ (x : Outcome). x.replies) t, ap (λ (x : Outcome). x.device) t)

  -- a packet on its channel is answered
  pub answer_delivered : (p staging staging' : List ℕ) (channel : Channel) (r : Result Answer Refusal) (replies : Replies) (a : Answer) → channel_of p ≡ channel
      → replies ≡ no_replies → told e.device r ≡ serve_entry e.device channel staging p → a ≡ result_unwrap_or r (record { replies = replies; device = e.device })
      → staging' ≡ serve_staging e.device channel staging p → Delivered (p ∷ []) e staging a staging'
  unfolding turned
  answer_delivered p staging staging' channel r replies a c n t u s x z cursor awaited trace =
      let list = trace_after x (heard (way_of e)) awaited trace in
      let k = rw (← u) at (call_comes r replies (serve_entry e.device channel staging p) n t) in (
        awaited_after x awaited,
        list,
        ap (λ (ps : List (List ℕ)). delivered once ps (run.stepped x (system_of e staging awaited trace))) z
            ∙ ap (delivered once (p ∷ [])) (after_is x staging awaited trace)
            ∙ rw (and_false (is_middle p))
            (ap (λ (y : Channel). record {
              host = x.host;
              device = (serve_entry e.device y staging p).device;
              staging = serve_staging e.device y staging p;
              replies = take 1 (serve_entry e.device y staging p).sent;
              awaited = awaited_after x awaited;
              trace = list;
            }) c
            ∙ rw (serve_first e.device channel staging p, ← k.0, ← k.1, ← s)),
      )

-- the host's step and a turn, with the count and the body in hand that the check answers
module _ (b : List ℕ) (e : BothEnds) where
  abbrev hand_of : Contents → Body
  hand_of c = body_of c (in_hand e.host.stage)

  abbrev step_on : InnerStep
  step_on = step_from b (check_of b).count (hand_of (check_of b)) e

  abbrev pub TurnedOn : (s : List ℕ) → BothEnds → (s : List ℕ) → Type 0
  TurnedOn s e' s' = Turned b (check_of b).count (hand_of (check_of b)) e s e' s'

  pub turned_on : (c : Checked) (hand : Body) (s : List ℕ) (e' : BothEnds) (s' : List ℕ) → told_checked (Ok c) ≡ check_of b → hand ≡ hand_of (told_checked (Ok c))
      → Turned b c.count hand e s e' s' → TurnedOn s e' s'
  turned_on c hand s e' s' z h t =
      subst (λ (x : Contents). Turned b x.count (hand_of x) e s e' s') z (subst (λ (y : Body). Turned b c.count y e s e' s') h t)

-- what the turns keep: a run has come to these ends, the host is ready, and its cursor is right
pub record Reached (b : List ℕ) (token : ℕ) (d : Device) (staging : List ℕ) (e : BothEnds) (staging' : List ℕ) : Type 0 where
  pub turns : ℕ
  pub comes : Comes (run.run b once turns (start token d staging [])) e staging'
  pub ready : Ready b e.host
  pub cursor : CursorIn b e.host.stage e.cursor

-- a ready host has an entry of the table in hand
pub within_table : (b : List ℕ) → Bytes b → rows.bundle_row b ≡ rows.served → (h : Host) → Ready b h → in_hand h.stage < offer_limit
within_table b bytes accept h r = go h.stage r.stage
  where
    go : (g : HostStage) → InStage b h.passes g → in_hand g < offer_limit
    go stage.Fresh s = omega arith
    go stage.Opening s = omega arith
    go stage.Listing s = omega arith
    go (stage.Offering t) s = omega (arith, s.0, (accepted b bytes accept).few)
    go (stage.Waiting t) s = omega (arith, s.0, (accepted b bytes accept).few)
    go (stage.Sending p) s = omega (arith, s.0, (accepted b bytes accept).few)
    go stage.Closing s = omega arith
    go (stage.Ended e) s = omega arith

-- the turns that are left, and one more until the host has ended
abbrev pub left_of : (b : List ℕ) → Host → ℕ
left_of b h = cond (has_ended h.stage) 0 (suc (steps_left b h.passes h.stage))

module _ (b : List ℕ) (token : ℕ) (d : Device) (staging : List ℕ) (bytes : Bytes b) (accept : rows.bundle_row b ≡ rows.served) (small : token < 256) where
  -- at the start
  pub reached_start : (h : Host) (replies : Replies) (cursor : ℕ) → h ≡ fresh_host token → replies ≡ no_replies
      → Reached b token d staging (record { host = h; device = d; replies = replies; cursor = cursor }) staging
  unfolding run.run
  reached_start h replies cursor z n =
      record {
        turns = 0;
        comes = ([], [], rw (z, n));
        ready = rw z (fresh_ready b (accepted b bytes accept) token small);
        cursor = rw z tt;
      }

  module _ (e e' : BothEnds) (s s' : List ℕ) (ready : Ready b e.host) (place : CursorIn b e.host.stage e.cursor) (t : TurnedOn b e s e' s') where
    -- the inner step is the step
    inner : ((step_on b e).step ≡ step_of b e.host (reply_of e)) × CursorIn b (step_of b e.host (reply_of e)).host.stage (step_on b e).cursor
    inner =
        subst (λ (row : rows.Row). let i = inner_of b row (check_of b).count (hand_of b e (check_of b)) e.cursor e.host (reply_of e) in
        (i.step ≡ step_of b e.host (reply_of e)) × CursorIn b (step_of b e.host (reply_of e)).host.stage i.cursor) (check_row b ∙ accept)
        (inner_is_step b e.host e.cursor (reply_of e) bytes place)

    -- so a turn is an exchange
    turn_comes : has_ended e.host.stage ≡ false → (awaited : List (List ℕ)) (trace : List Exchange) → Comes (exchange b once (system_of e s awaited trace)) e' s'
    unfolding exchange
    turn_comes f awaited trace =
        rw (f, way_heard e.replies.due e.replies.reply)
        (subst (λ (x : Step). Comes (turned once x (system_of e s awaited trace)) e' s') inner.0 (t.1 awaited trace))

    -- the next record is the step's
    host_is : e'.host ≡ (step_of b e.host (reply_of e)).host
    host_is =
        sym (ap (λ (x : System). x.host) (t.1 [] []).2)
        ∙ ap (λ (r : HostRun). r.host) (turned_host once (step_on b e).step (system_of e s [] []))
        ∙ ap (λ (x : Step). x.host) inner.0

    -- the host's move
    abbrev move : Move
    move = decide_of (count_in b) (last_in b e.host.stage) e.host (reply_of e)

    -- the next record is the move's
    moved_is : e'.host ≡ move.host
    moved_is = host_is ∙ ap (λ (x : Step). x.host) (step_moves b (accepted b bytes accept) accept e.host (reply_of e) ready)

    -- an end, or fewer steps
    went : Goes b (steps_left b e.host.passes e.host.stage) move
    went = goes b (accepted b bytes accept) e.host (reply_of e) ready

    -- so a turn leaves less to do
    pub turn_less : has_ended e.host.stage ≡ false → left_of b e'.host < left_of b e.host
    turn_less f = rw f (go (has_ended e'.host.stage) refl (subst Fewer (sym moved_is) went.fewer))
      where
        Fewer : Host → Type 0
        Fewer h = (has_ended h.stage ≡ true) ⊎ (steps_left b h.passes h.stage < steps_left b e.host.passes e.host.stage)

        go : (x : Bool) → x ≡ has_ended e'.host.stage
            → (has_ended e'.host.stage ≡ true) ⊎ (steps_left b e'.host.passes e'.host.stage < steps_left b e.host.passes e.host.stage)
            → cond x 0 (suc (steps_left b e'.host.passes e'.host.stage)) < suc (steps_left b e.host.passes e.host.stage)
        go true q k = omega arith
        go false q (inl k) = absurd (true≢false (sym k ∙ sym q))
        go false q (inr k) = omega arith

    -- the next record is ready
    next_ready : Ready b e'.host
    next_ready = subst (Ready b) (sym moved_is) went.ready

    -- and its cursor is right
    next_cursor : CursorIn b e'.host.stage e'.cursor
    next_cursor = rw t.0 (subst (λ (x : Host). CursorIn b x.stage (step_on b e).cursor) (sym host_is) inner.1)

  -- after a turn
  pub reached_turn : (e e' : BothEnds) (s s' : List ℕ) → Reached b token d staging e s → has_ended e.host.stage ≡ false → TurnedOn b e s e' s'
      → Reached b token d staging e' s'
  reached_turn e e' s s' r f t =
      let w = turn_comes e e' s s' r.ready r.cursor t f r.comes.0 r.comes.1 in
      record {
        turns = suc r.turns;
        comes = (w.0, w.1, run_next b once r.turns (start token d staging []) ∙ ap (exchange b once) r.comes.2 ∙ w.2);
        ready = next_ready e e' s s' r.ready r.cursor t;
        cursor = next_cursor e e' s s' r.ready r.cursor t;
      }

  -- where the host has ended
  pub reached_end : (e : BothEnds) (s : List ℕ) → Reached b token d staging e s → has_ended e.host.stage ≡ true
      → Comes (last_of b once token d staging []) e s
  reached_end e s r z = (
    r.comes.0,
    r.comes.1,
    ended_last b once token d staging [] bytes accept small r.turns (ap (λ (x : System). has_ended x.host.stage) r.comes.2 ∙ z) ∙ r.comes.2,
  )
