-- One turn of a run of both ends, of each kind but blocks: codes and offers. Assumes nothing.
use Prim.Native.Nat.{ℕ, suc, ◌+◌, ◌<◌}
use mathlib.Core.Path.{◌≡◌, refl, ap, subst, ◌∙◌}
use mathlib.Core.Bool.{Bool, true, false, cond, ◌&&◌}
use mathlib.Core.List.{List, [], ◌∷◌, ◌++◌}
use native.Mathlib.Numerals.{add-one}
use native.Mathlib.Omega.{arith}
use borrow.Author.Tests.{eq-eqb, ltb-true, lt-ltb}
use lib.Dec.{ltb}
use lib.ListN.{length}
use Rattle.wire.specs.Codes.{offer_skip, offer_accept, offer_reject, info_end_offer_list}
use Rattle.wire_offer.specs.Signal.{information_bytes}
use Rattle.wire_offer.specs.Kind.{kind_in}
use Rattle.wire_offer.specs.Reply.{reply_bytes}
use Rattle.device_component.specs.declared.record.Component.{Component}
use Rattle.update_passes.proofs.Tests.{or_true, or_false}
use Rattle.bundle_layout.specs.Layout.{count_in}
use Rattle.bundle.proofs.Accepted.{Accepted}
use Rattle.device.specs.Entries.{serve_entry, serve_staging}
use Rattle.device.specs.declared.answer.Channel.TheVariants.{Offer as OfferChannel}
use Rattle.device_offering.specs.Offer.{status_of, reason_of}
use Rattle.device.specs.Record.{to_idle, idle_with}
use Rattle.device.proofs.Calls.{answered_with}
use Rattle.device_offering.specs.declared.verdict.OfferVerdict.{OfferVerdict}
use Rattle.device_offering.specs.declared.verdict.OfferVerdict.TheVariants.{Reject, Skip, Accept}
use Rattle.device.specs.declared.record.Device.{Device}
use Rattle.std.specs.Prelude.{None}
use Rattle.device.proofs.Calls.{Sound, Answered, code_opens, code_accepted, answers_offer, answers_code}
use Rattle.device.proofs.Offering.{offer_verdict, after_offer, answers}
use Rattle.device.proofs.Blocks.{held, awaits}
use Rattle.device_session.specs.Effect.{blank_packet}
use Rattle.host_record.specs.Record.{sent_at}
use Rattle.host_decide.specs.Decide.{sends, offer_from, noted, decide_in, decide_of}
use Rattle.host.specs.Step.{moved, packet_of, block_packet}
use Rattle.host_record.specs.declared.record.Host.{Host}
use Rattle.host_record.specs.declared.record.HostStage.{HostStage}
use Rattle.host_record.specs.declared.record.HostStage.TheVariants.{Opening, Listing, Offering, Sending, Closing, Ended}
use Rattle.host_record.specs.declared.record.End.TheVariants.{Done}
use Rattle.host_decide.specs.declared.Action.TheVariants.{Information, Offer}
use Rattle.host_decide.specs.declared.Move.{Move}
use Rattle.host_decide.proofs.Heard.{hears_opening, hears_listing, hears_accept, hears_skip, hears_reject, hears_closing}
use Rattle.update.specs.Trace.{Exchange}
use Rattle.update.specs.Run.{System, Schedule, is_middle, answer_to, left_by, turned, start}
use Rattle.update.proofs.Leads.{said, arriving, arrives_once, Serves, serves_plain, goes, Goes, turn, stop}
use Rattle.update.proofs.Packets.{offer_packet, offer_packet_lem}
use Rattle.update.proofs.Sent.{with_token, offer_reads}
use Rattle.update.specs.Claim.{offer_at}

-- a host by its fields
abbrev pub host_as : (token : ℕ) → HostStage → (mask packets passes : ℕ) → (skipped landed : Bool) → Host
host_as token stage mask packets passes skipped landed = record {
  token = token;
  stage = stage;
  mask = mask;
  packets = packets;
  passes = passes;
  skipped = skipped;
  landed = landed;
}

-- the reply to an offer or a code
abbrev pub replied : (token reason status : ℕ) → List ℕ
replied token reason status = reply_bytes (record { token = token; reason = reason; status = status })

-- the packet of a code
abbrev pub code_bytes : (code token : ℕ) → List ℕ
code_bytes code token = information_bytes (record { code = code; token = token })

module _ (b : List ℕ) (twice : Schedule) (α : Accepted b) (t : ℕ) (small : t < 256) where
  -- the offer of an entry, or code 2 past the last
  abbrev pub turn_packet : ℕ → List ℕ
  turn_packet e = cond (ltb e (count_in b)) (offer_packet b α t e) (code_bytes 2 t)

  -- what the host awaits after it
  abbrev pub turn_stage : ℕ → HostStage
  turn_stage e = cond (ltb e (count_in b)) (Offering (record { entry = e; busy = 0 })) Closing

  -- that packet is sent
  pub turn_sent : (e : ℕ) (stage : HostStage) (m p q : ℕ) (sk la : Bool) → (moved b (offer_from (count_in b) e (host_as t stage m p q sk la))).sent ≡ turn_packet e ∷ []
  unfolding packet_of
  turn_sent e stage m p q sk la = go (ltb e (count_in b))
    where
      go : (x : Bool)
          → (moved b (cond x (sends (host_as t stage m p q sk la) (Offering (record { entry = e; busy = 0 })) (Offer e)) (sends (host_as t stage m p q sk la) Closing (Information info_end_offer_list)))).sent
          ≡ cond x (offer_packet b α t e) (code_bytes 2 t) ∷ []
      go true = refl
      go false = refl

  -- and the record counts it
  pub turn_host : (e : ℕ) (stage : HostStage) (m p q : ℕ) (sk la : Bool)
      → (offer_from (count_in b) e (host_as t stage m p q sk la)).host ≡ host_as t (turn_stage e) m (p + 1) q sk la
  turn_host e stage m p q sk la = go (ltb e (count_in b))
    where
      go : (x : Bool)
          → (cond x (sends (host_as t stage m p q sk la) (Offering (record { entry = e; busy = 0 })) (Offer e)) (sends (host_as t stage m p q sk la) Closing (Information info_end_offer_list))).host
          ≡ host_as t (cond x (Offering (record { entry = e; busy = 0 })) Closing) m (p + 1) q sk la
      go true = refl
      go false = refl

  -- an offer goes to the offer entry
  offer_channel : (e : ℕ) → e < count_in b → (d : Device) (s : List ℕ)
      → answer_to (offer_packet b α t e) d s ≡ serve_entry d OfferChannel s (offer_packet b α t e)
  offer_channel e l d s = rw (eq-eqb (length (offer_packet b α t e)) 16 (offer_packet_lem b α t e small l).size)

  -- which leaves the staging buffer
  offer_staging : (e : ℕ) → e < count_in b → (d : Device) (s : List ℕ) → left_by (offer_packet b α t e) d s ≡ s
  unfolding serve_staging
  offer_staging e l d s = rw (eq-eqb (length (offer_packet b α t e)) 16 (offer_packet_lem b α t e small l).size)

  -- it is no block
  offer_plain : (e : ℕ) → e < count_in b → is_middle (offer_packet b α t e) ≡ false
  offer_plain e l = rw (offer_packet_lem b α t e small l).size

  -- nor is the packet of a turn
  pub turn_plain : (e : ℕ) → is_middle (turn_packet e) ≡ false
  turn_plain e = go (ltb e (count_in b)) refl
    where
      go : (x : Bool) → ltb e (count_in b) ≡ x → is_middle (cond x (offer_packet b α t e) (code_bytes 2 t)) ≡ false
      go true z = offer_plain e (ltb-true e (count_in b) z)
      go false z = refl

  -- a code is answered
  code_answered : (code : ℕ) (d : Device) (s : List ℕ) → Sound d s → Answered (answer_to (code_bytes code t) d s)
  unfolding kind_in
  code_answered code d s h = answers_code d s (code_bytes code t) (record { code = code; token = t }) h refl refl

  -- so is an offer, or code 2
  pub turn_answered : (e : ℕ) (d : Device) (s : List ℕ) → Sound d s → Answered (answer_to (turn_packet e) d s)
  turn_answered e d s h = go (ltb e (count_in b)) refl
    where
      go : (x : Bool) → ltb e (count_in b) ≡ x → Answered (answer_to (cond x (offer_packet b α t e) (code_bytes 2 t)) d s)
      go true z =
          let l = ltb-true e (count_in b) z in
          rw (offer_channel e l d s) (answers_offer d s (offer_packet b α t e) _ h (offer_packet_lem b α t e small l).size (offer_reads b α t e small l))
      go false z = code_answered 2 d s h

  -- it is served
  pub turn_serves : (e : ℕ) (d : Device) (s : List ℕ) → Sound d s → Serves b twice (turn_packet e) d s
  turn_serves e d s h = serves_plain b twice (turn_plain e) (turn_answered e d s h)

  code_serves : (code : ℕ) (d : Device) (s : List ℕ) → Sound d s → Serves b twice (code_bytes code t) d s
  code_serves code d s h = serves_plain b twice refl (code_answered code d s h)

  module _ (d : Device) where
    -- the offer of entry e, or code 2, arrives at an idle device with these components
    abbrev pub turning : (e mask packets passes : ℕ) → (skipped landed : Bool) → List Component → (s : List ℕ) → List Exchange → System
    turning e m p q sk la ps s trace = arriving false (turn_packet e) (host_as t (turn_stage e) m p q sk la) (idle_with d ps) s [] trace

    -- code 1 arrives
    abbrev pub listing : (mask packets passes : ℕ) → List Component → (s : List ℕ) → List Exchange → System
    listing m p q ps s trace = arriving false (code_bytes 1 t) (host_as t Listing m p q false false) (idle_with d ps) s [] trace

    -- code 0 is sent
    pub x_open : (s r : List ℕ) → Sound d s → Goes b twice (start t d s r) (arriving false (code_bytes 0 t) (host_as t Opening 0 1 0 false false) d s [] [])
    unfolding goes turned decide_in packet_of
    x_open s r h = record { comes = go r; fine = λ p z. let y : code_bytes 0 t ≡ p = cc in subst (λ (x : List ℕ). Serves b twice x d s) y (code_serves 0 d s h) }
      where
        go : (r : List ℕ) → goes b twice (start t d s r) ≡ arriving false (code_bytes 0 t) (host_as t Opening 0 1 0 false false) d s [] []
        go [] = refl
        go (x ∷ r) = refl

    -- its answer opens the first pass
    pub x_list : (m p q : ℕ) (sk la : Bool) (s : List ℕ) (trace : List Exchange) → Sound d s → Sound (to_idle d) s
        → Goes b twice (arriving false (code_bytes 0 t) (host_as t Opening m p q sk la) d s [] trace)
        (listing m (p + 1) (q + 1) d.components s (trace ++ (said (code_bytes 0 t) (replied t 0 offer_accept) ∷ [])))
    unfolding packet_of serve_staging
    x_list m p q sk la s trace h k =
        let e = hears_opening (count_in b) false (host_as t Opening m p q sk la) in
        turn b twice false false (code_bytes 0 t) (code_bytes 1 t) (host_as t Opening m p q sk la) (host_as t Listing m (p + 1) (q + 1) false false) d (to_idle d) s s
        (replied t 0 offer_accept) trace (arrives_once (code_opens d s t h) refl) refl
        (ap (λ (x : Move). (moved b x).sent) e) (ap (λ (x : Move). x.host) e) refl (code_serves 1 (to_idle d) s k)

    module _ (ps : List Component) (s : List ℕ) (sound : Sound (idle_with d ps) s) (trace : List Exchange) where
      -- the answer to code 1 leads to the first offer
      pub x_first : (m p q : ℕ)
          → Goes b twice (listing m p q ps s trace) (turning 0 m (p + 1) q false false ps s (trace ++ (said (code_bytes 1 t) (replied t 0 offer_accept) ∷ [])))
      unfolding serve_staging
      x_first m p q =
          let h = host_as t Listing m p q false false in
          let e = hears_listing (count_in b) false h in
          turn b twice false false (code_bytes 1 t) (turn_packet 0) h (host_as t (turn_stage 0) m (p + 1) q false false) (idle_with d ps) (idle_with d ps) s s
          (replied t 0 offer_accept) trace (arrives_once (code_accepted (idle_with d ps) s 1 t sound (omega arith) (omega arith)) refl) refl
          (ap (λ (x : Move). (moved b x).sent) e ∙ turn_sent 0 Listing m p q false false)
          (ap (λ (x : Move). x.host) e ∙ turn_host 0 Listing m p q false false)
          (rw (turn_plain 0)) (turn_serves 0 (idle_with d ps) s sound)

      module _ (e : ℕ) (l : e < count_in b) (m p q : ℕ) (sk la : Bool) where
        -- the reply to the offer of entry e is awaited
        abbrev waits : HostStage
        waits = Offering (record { entry = e; busy = 0 })

        -- the host that awaits it
        abbrev h : Host
        h = host_as t waits m p q sk la

        -- an entry of the bundle is offered
        is_offering : turning e m p q sk la ps s trace ≡ arriving false (offer_packet b α t e) h (idle_with d ps) s [] trace
        is_offering = rw (lt-ltb e (count_in b) l)

        -- the answer of a verdict
        told : (v : OfferVerdict) → offer_verdict (idle_with d ps) (with_token (offer_at b e) t) ≡ v
            → answer_to (offer_packet b α t e) (idle_with d ps) s ≡ answered_with (replied t (reason_of v) (status_of v)) None (after_offer (idle_with d ps) t v)
        told v z =
            offer_channel e l (idle_with d ps) s
            ∙ answers (idle_with d ps) s (offer_packet b α t e) (with_token (offer_at b e) t) v sound (offer_packet_lem b α t e small l).size (offer_reads b α t e small l) z

        -- REJECT and SKIP: the next offer
        next : (r : List ℕ) (noted : Bool) → answer_to (offer_packet b α t e) (idle_with d ps) s ≡ answered_with r None (idle_with d ps)
            → decide_of (count_in b) false h r ≡ offer_from (count_in b) (e + 1) (host_as t waits m p q noted la)
            → Goes b twice (turning e m p q sk la ps s trace) (turning (suc e) m (p + 1) q noted la ps s (trace ++ (said (offer_packet b α t e) r ∷ [])))
        next r noted a k =
            rw is_offering
            (turn b twice false false (offer_packet b α t e) (turn_packet (suc e)) h (host_as t (turn_stage (suc e)) m (p + 1) q noted la) (idle_with d ps) (idle_with d ps) s s
            r trace (arrives_once a (offer_staging e l (idle_with d ps) s)) refl
            (ap (λ (x : Move). (moved b x).sent) k ∙ turn_sent (e + 1) waits m p q noted la ∙ rw (add-one e))
            (ap (λ (x : Move). x.host) k ∙ turn_host (e + 1) waits m p q noted la ∙ rw (add-one e))
            (rw (turn_plain (suc e))) (turn_serves (suc e) (idle_with d ps) s sound))

        -- REJECT: the next offer
        pub x_reject : (r : ℕ) → offer_verdict (idle_with d ps) (with_token (offer_at b e) t) ≡ Reject r
            → Goes b twice (turning e m p q sk la ps s trace)
            (turning (suc e) m (p + 1) q sk la ps s (trace ++ (said (offer_packet b α t e) (replied t r offer_reject) ∷ [])))
        x_reject r z = next (replied t r offer_reject) sk (told (Reject r) z) (hears_reject (count_in b) false h (record { entry = e; busy = 0 }) r ∙ rw (or_false sk))

        -- SKIP: noted, and the next offer
        pub x_skip : offer_verdict (idle_with d ps) (with_token (offer_at b e) t) ≡ Skip
            → Goes b twice (turning e m p q sk la ps s trace)
            (turning (suc e) m (p + 1) q true la ps s (trace ++ (said (offer_packet b α t e) (replied t 0 offer_skip) ∷ [])))
        x_skip z = next (replied t 0 offer_skip) true (told Skip z) (hears_skip (count_in b) false h (record { entry = e; busy = 0 }) ∙ rw (or_true sk))

        -- ACCEPT: the first block
        pub x_accept : (k : ℕ) → offer_verdict (idle_with d ps) (with_token (offer_at b e) t) ≡ Accept k
            → Serves b twice (block_packet b (record { entry = e; block = 0 })) (held d ps (awaits k t 0) blank_packet) s
            → Goes b twice (turning e m p q sk la ps s trace)
            (arriving (is_middle (block_packet b (record { entry = e; block = 0 })) && twice (length (trace ++ (said (offer_packet b α t e) (replied t 0 offer_accept) ∷ []))))
            (block_packet b (record { entry = e; block = 0 })) (host_as t (Sending (sent_at (record { entry = e; block = 0 }))) m (p + 1) q sk la)
            (held d ps (awaits k t 0) blank_packet) s [] (trace ++ (said (offer_packet b α t e) (replied t 0 offer_accept) ∷ [])))
        unfolding packet_of
        x_accept k z f =
            let g = hears_accept (count_in b) false h (record { entry = e; busy = 0 }) in
            rw is_offering
            (turn b twice false _ (offer_packet b α t e) (block_packet b (record { entry = e; block = 0 })) h
            (host_as t (Sending (sent_at (record { entry = e; block = 0 }))) m (p + 1) q sk la)
            (idle_with d ps) (held d ps (awaits k t 0) blank_packet) s s
            (replied t 0 offer_accept) trace (arrives_once (told (Accept k) z) (offer_staging e l (idle_with d ps) s)) refl
            (ap (λ (x : Move). (moved b x).sent) g) (ap (λ (x : Move). x.host) g) refl f)

      module _ (e : ℕ) (l : ltb e (count_in b) ≡ false) (m p q : ℕ) (sk la : Bool) where
        -- past the last entry code 2 is on its way
        closing : turning e m p q sk la ps s trace ≡ arriving false (code_bytes 2 t) (host_as t Closing m p q sk la) (idle_with d ps) s [] trace
        closing = rw l

        -- ACCEPT to code 2: another pass
        pub x_again : ((sk && la) && ltb q (count_in b)) ≡ true
            → Goes b twice (turning e m p q sk la ps s trace) (listing m (p + 1) (q + 1) ps s (trace ++ (said (code_bytes 2 t) (replied t 0 offer_accept) ∷ [])))
        unfolding packet_of serve_staging
        x_again z =
            let c = host_as t Closing m p q sk la in
            let g = rw z at (hears_closing (count_in b) false c) in
            rw closing
            (turn b twice false false (code_bytes 2 t) (code_bytes 1 t) c (host_as t Listing m (p + 1) (q + 1) false false) (idle_with d ps) (idle_with d ps) s s
            (replied t 0 offer_accept) trace (arrives_once (code_accepted (idle_with d ps) s 2 t sound (omega arith) (omega arith)) refl) refl
            (ap (λ (x : Move). (moved b x).sent) g) (ap (λ (x : Move). x.host) g) refl (code_serves 1 (idle_with d ps) s sound))

        -- ACCEPT to code 2: done
        pub x_done : ((sk && la) && ltb q (count_in b)) ≡ false
            → Goes b twice (turning e m p q sk la ps s trace)
            (record {
              host = host_as t (Ended Done) m p q sk la;
              device = idle_with d ps;
              staging = s;
              replies = [];
              awaited = [];
              trace = trace ++ (said (code_bytes 2 t) (replied t 0 offer_accept) ∷ []);
            })
        unfolding packet_of serve_staging
        x_done z =
            let c = host_as t Closing m p q sk la in
            let g = rw z at (hears_closing (count_in b) false c) in
            rw closing
            (stop b twice (code_bytes 2 t) c (host_as t (Ended Done) m p q sk la) (idle_with d ps) (idle_with d ps) s s
            (replied t 0 offer_accept) trace (arrives_once (code_accepted (idle_with d ps) s 2 t sound (omega arith) (omega arith)) refl) refl
            (ap (λ (x : Move). (moved b x).sent) g) (ap (λ (x : Move). x.host) g) refl)
