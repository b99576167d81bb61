-- The counts of a record are those of the list sent, whatever it is handed: packets and passes, and in its mask the completed offers by the replies that it
-- took. Assumes nothing.
use mathlib.Core.Path.{◌≡◌, refl, sym, ap, ap₂, subst, ◌∙◌}
use mathlib.Core.Bool.{Bool, true, false, cond, ◌&&◌, ◌||◌, false≢true}
use mathlib.Core.List.{List, [], ◌∷◌, ◌++◌, append-nil}
use Prim.Native.Nat.{ℕ, zero, suc, ◌+◌, ◌-◌, ◌≤◌, ◌<◌}
use native.Mathlib.Omega.{arith}
use borrow.Author.Tests.{eqb-true, eqb-false, eq-eqb, ne_eqb}
use lib.Dec.{eqb}
use lib.ListN.{length}
use Rattle.wire.specs.Codes.{success_status}
use Rattle.wire.proofs.Tests.{both}
use Rattle.wire_content.specs.Reply.{reply_in}
use Rattle.bundle_layout.specs.Layout.{count_in, id_in}
use Rattle.bundle_layout.specs.Rows as bundle
use Rattle.bundle.proofs.Accepted.{Accepted, accepted}
use Rattle.host_record.specs.Record.{has_bit, with_bit, sequence_of, has_ended}
use Rattle.host_decide.specs.Decide.{sends, ends, list, offer_from, send_block, noted, completes, decide_in}
use Rattle.host_packet.specs.Answer.{Step}
use Rattle.host.specs.Step.{entry_at, blocks_at, is_last, last_in, block_packet, packet_of, moved}
use Rattle.host_record.specs.declared.record.Host.{Host}
use Rattle.host_record.specs.declared.record.Turn.{Turn}
use Rattle.host_record.specs.declared.record.Place.{Place}
use Rattle.host_record.specs.declared.record.Awaited.{Awaited}
use Rattle.host_record.specs.declared.record.HostStage.{HostStage}
use Rattle.host_record.specs.declared.record.HostStage.TheVariants.{Fresh, Opening, Listing, Offering, Waiting, Sending, Closing, Ended}
use Rattle.host_record.specs.declared.record.End.{End}
use Rattle.host_decide.specs.declared.Action.{Action}
use Rattle.host_decide.specs.declared.Action.TheVariants.{Nothing, Information, Notify, Offer, Block}
use Rattle.host_decide.specs.declared.Move.{Move}
use Rattle.update.specs.Trace as trace
use Rattle.update.specs.Trace.{Exchange, opens_pass, passes_in, completed_in}
use Rattle.update.specs.Heard.{passes_over, taken_for, trace_after, awaited_after, last_taken}
use Rattle.update.specs.Ends.{HostRun, host_steps, completed_of, HostMasks, HostCounts, HostTallies}
use Rattle.host_decide.proofs.Moves.{is_taken, opening_cases, listing_cases, offering_cases, waiting_cases, closing_cases, sending_cases, offer_cases}
use Rattle.update.proofs.Mask.{no_bit, with_bit_lem, ones_below, ones_below_lem}
use Rattle.update.proofs.Packets.{offer_opens, offer_completes, offer_about, block_opens, block_about, block_completes}
use Rattle.update.proofs.Ready.{ReadyAt}
use Rattle.update.proofs.Ends.{host_at, move_at, ready_at, step_at}
use Rattle.update.proofs.Trace.{about_in, length_more, passes_more, about_more, completed_more}

-- the id of an entry
abbrev pub id_at : (b : List ℕ) → ℕ → ℕ
id_at b i = id_in (entry_at b i)

-- a mask is what a list shows
abbrev pub Marks : (b : List ℕ) → List Exchange → (mask : ℕ) → Type 0
Marks b xs mask = (i : ℕ) → i < count_in b → has_bit mask i ≡ completed_in 0 xs (id_at b i)

-- counts and a mask are those of a list, of which no reply is awaited
record Tells (b : List ℕ) (xs : List Exchange) (sent opened mask : ℕ) : Type 0 where
  packets : sent ≡ length xs
  passes : opened ≡ passes_in xs
  marks : Marks b xs mask

-- those of a record
abbrev Heard : (b : List ℕ) → Host → List Exchange → Type 0
Heard b h xs = Tells b xs h.packets h.passes h.mask

-- whether a packet whose reply is awaited opens a pass
abbrev pub opens : (awaited : List (List ℕ)) → ℕ
opens [] = 0
opens (p ∷ ps) = cond (opens_pass p) 1 0

-- the awaited reply completes nothing, whatever it is
abbrev pub Plain : (awaited : List (List ℕ)) → Type 0
Plain [] = Unit {0}
Plain (p ∷ ps) = (reply : List ℕ) → trace.completes p reply ≡ false

-- which entry the last offer of a list is for, once the awaited reply stands in it
abbrev pub About : (b : List ℕ) → (entry : ℕ) → List Exchange → (awaited : List (List ℕ)) → Type 0
About b entry xs ps = (reply : List ℕ) → about_in 0 (xs ++ taken_for ps reply) ≡ id_at b entry

-- where a block that is not the first of its body is awaited, the reply taken last is that to the block before
abbrev pub TookBefore : Place → (taken : List ℕ) → Type 0
TookBefore p taken = 1 ≤ p.block → reply_in taken ≡ record { sequence = sequence_of (p.block - 1); status = success_status }

-- what is awaited in each stage, and which entry the last offer was for
abbrev pub Shown : (b : List ℕ) → HostStage → List Exchange → (awaited : List (List ℕ)) → Type 0
Shown b Fresh xs ps = Plain ps
Shown b Opening xs ps = Plain ps
Shown b Listing xs ps = Plain ps
Shown b (Offering t) xs ps = Plain ps × About b t.entry xs ps
Shown b (Waiting t) xs ps = Plain ps × About b t.entry xs ps
Shown b (Sending a) xs ps = (ps ≡ block_packet b a.place ∷ []) × (about_in 0 xs ≡ id_at b a.place.entry) × TookBefore a.place (last_taken xs)
Shown b Closing xs ps = Plain ps
Shown b (Ended e) xs ps = ps ≡ []

-- what is known of a record in stage g, after a list of packets with their replies and one whose reply is awaited
pub record KnownAt (b : List ℕ) (h : Host) (g : HostStage) (xs : List Exchange) (ps : List (List ℕ)) : Type 0 where
  pub packets : h.packets ≡ length xs + length ps
  pub passes : h.passes ≡ passes_in xs + opens ps
  pub marks : Marks b xs h.mask
  pub shown : Shown b g xs ps

-- what is known after a move from a list of which no reply is awaited
abbrev Next : (b : List ℕ) → List Exchange → Move → Type 0
Next b xs m = KnownAt b m.host m.host.stage xs (packet_of b m.host.token m.action)

-- .. after a move on this reply
abbrev After : (b : List ℕ) → List Exchange → (awaited : List (List ℕ)) → (reply : List ℕ) → Move → Type 0
After b xs ps reply m = KnownAt b m.host m.host.stage (trace_after (moved b m) reply ps xs) (awaited_after (moved b m) ps)

-- a list with the awaited reply
taken_length : (xs : List Exchange) (ps : List (List ℕ)) (reply : List ℕ) → length ps ≤ 1 → length (xs ++ taken_for ps reply) ≡ length xs + length ps
taken_length xs [] reply l = ap length (append-nil xs) ∙ omega arith
taken_length xs (p ∷ []) reply l = length_more xs _
taken_length xs (p ∷ q ∷ ps) reply l = absurd (omega arith)

taken_passes : (xs : List Exchange) (ps : List (List ℕ)) (reply : List ℕ) → passes_in (xs ++ taken_for ps reply) ≡ passes_in xs + opens ps
taken_passes xs [] reply = ap passes_in (append-nil xs) ∙ omega arith
taken_passes xs (p ∷ ps) reply = passes_more xs _

-- the reply taken last
last_more : (xs : List Exchange) (x : Exchange) → last_taken (xs ++ (x ∷ [])) ≡ x.reply
last_more [] x = refl
last_more (y ∷ []) x = refl
last_more (y ∷ z ∷ xs) x = last_more (z ∷ xs) x

-- what is read in a reply that shows a block taken
taken_reads : (p : Place) (reply : List ℕ) → is_taken p reply ≡ true → reply_in reply ≡ record { sequence = sequence_of p.block; status = success_status }
taken_reads p reply e =
    let w = both (eqb (reply_in reply).sequence (sequence_of p.block)) (eqb (reply_in reply).status success_status) (both (eqb (length reply) 16) _ e).1 in
    ap₂ (λ (x y : ℕ). record { sequence = x; status = y }) (eqb-true _ _ w.0) (eqb-true _ _ w.1)

module _ (b : List ℕ) (α : Accepted b) where
  -- an exchange that completes nothing
  marks_same : (xs : List Exchange) (mask : ℕ) (x : Exchange) → trace.completes x.packet x.reply ≡ false → Marks b xs mask
      → Marks b (xs ++ (x ∷ [])) mask
  marks_same xs mask x z m i l =
      m i l ∙ sym (completed_more 0 xs x (id_at b i) ∙ ap (λ (y : Bool). (y && eqb (about_in 0 xs) (id_at b i)) || completed_in 0 xs (id_at b i)) z)

  -- an awaited reply that completes nothing
  marks_plain : (xs : List Exchange) (mask : ℕ) (ps : List (List ℕ)) (reply : List ℕ) → Plain ps → Marks b xs mask → Marks b (xs ++ taken_for ps reply) mask
  marks_plain xs mask [] reply z m = rw append-nil m
  marks_plain xs mask (p ∷ ps) reply z m = marks_same xs mask _ (z reply) m

  -- an end
  next_ends : (h : Host) (xs : List Exchange) → Heard b h xs → (e : End) → Next b xs (ends h e)
  unfolding packet_of
  next_ends h xs k e = record { packets = omega (arith, k.packets); passes = omega (arith, k.passes); marks = k.marks; shown = refl }

  -- code 1
  next_list : (h : Host) (xs : List Exchange) → Heard b h xs → Next b xs (list h)
  unfolding packet_of
  next_list h xs k = record { packets = omega (arith, k.packets); passes = omega (arith, k.passes); marks = k.marks; shown = λ reply. refl }

  -- the offer of a listed entry
  next_offer : (h : Host) (xs : List Exchange) (t : Turn) → Heard b h xs → h.token < 256 → t.entry < count_in b
      → Next b xs (sends h (Offering t) (Offer t.entry))
  unfolding packet_of
  next_offer h xs t k s l = record {
    packets = omega (arith, k.packets);
    passes = rw (offer_opens b α h.token t.entry s l) (omega (arith, k.passes));
    marks = k.marks;
    shown = (
      (λ reply. offer_completes b α h.token t.entry reply s l),
      (λ reply. about_more 0 xs _ ∙ offer_about b α h.token t.entry (about_in 0 xs) s l),
    );
  }

  -- notify on ready
  next_notify : (h : Host) (xs : List Exchange) (t : Turn) → Heard b h xs → about_in 0 xs ≡ id_at b t.entry → Next b xs (sends h (Waiting t) Notify)
  unfolding packet_of
  next_notify h xs t k a = record {
    packets = omega (arith, k.packets);
    passes = omega (arith, k.passes);
    marks = k.marks;
    shown = ((λ reply. refl), (λ reply. about_more 0 xs _ ∙ a));
  }

  -- a block of the entry that the last offer was for
  next_block : (h : Host) (xs : List Exchange) (p : Place) → Heard b h xs → p.entry < count_in b → p.block < length (blocks_at b p.entry)
      → about_in 0 xs ≡ id_at b p.entry → TookBefore p (last_taken xs) → Next b xs (send_block p h)
  unfolding packet_of
  next_block h xs p k l m a w = record {
    packets = omega (arith, k.packets);
    passes = rw (block_opens b α p l m) (omega (arith, k.passes));
    marks = k.marks;
    shown = (refl, a, w);
  }

  module _ (xs : List Exchange) (mask : ℕ) (p : Place) (reply : List ℕ) (l : p.entry < count_in b) (m : p.block < length (blocks_at b p.entry))
      (a : about_in 0 xs ≡ id_at b p.entry) (k : Marks b xs mask) where
    -- a block with its reply
    abbrev answered : List Exchange
    answered = xs ++ (record { packet = block_packet b p; reply = reply } ∷ [])

    -- what the list then shows of an entry
    shows : (i : ℕ) → i < count_in b → completed_in 0 answered (id_at b i) ≡ (((is_taken p reply && is_last b p) && eqb (id_at b p.entry) (id_at b i)) || has_bit mask i)
    shows i j = completed_more 0 xs _ (id_at b i) ∙ rw (block_completes b α p reply l m, a, k i j)

    -- the block was not taken, or is not the last: the mask stays
    due_same : (is_taken p reply && is_last b p) ≡ false → Marks b answered mask
    due_same z i j = sym (shows i j ∙ ap (λ (y : Bool). (y && eqb (id_at b p.entry) (id_at b i)) || has_bit mask i) z)

    -- the last block was taken: its entry's bit is set
    due_more : (is_taken p reply && is_last b p) ≡ true → Marks b answered (with_bit mask p.entry)
    due_more z i j =
        with_bit_lem mask p.entry i ∙ ap (λ (y : Bool). y || has_bit mask i) (same (eqb i p.entry) refl)
        ∙ sym (shows i j ∙ ap (λ (y : Bool). (y && eqb (id_at b p.entry) (id_at b i)) || has_bit mask i) z)
      where
        same : (x : Bool) → eqb i p.entry ≡ x → x ≡ eqb (id_at b p.entry) (id_at b i)
        same true e = sym (eq-eqb (id_at b p.entry) (id_at b i) (ap (id_at b) (sym (eqb-true i p.entry e))))
        same false e = sym (ne_eqb (id_at b p.entry) (id_at b i) (λ q. eqb-false i p.entry e (sym (α.ids p.entry i l j q))))

    -- it is about the same entry
    about_same : about_in 0 answered ≡ id_at b p.entry
    about_same = about_more 0 xs _ ∙ block_about b α p (about_in 0 xs) l m ∙ a

  -- the awaited reply is taken, with this mask
  takes : (h : Host) (g : HostStage) (xs : List Exchange) (ps : List (List ℕ)) (reply : List ℕ) (mask : ℕ) → KnownAt b h g xs ps → length ps ≤ 1
      → Marks b (xs ++ taken_for ps reply) mask → Tells b (xs ++ taken_for ps reply) h.packets h.passes mask
  takes h g xs ps reply mask k l m = record {
    packets = k.packets ∙ sym (taken_length xs ps reply l);
    passes = k.passes ∙ sym (taken_passes xs ps reply);
    marks = m;
  }

  -- .. in a stage in which it completes nothing
  takes_plain : (h : Host) (g : HostStage) (xs : List Exchange) (ps : List (List ℕ)) (reply : List ℕ) → KnownAt b h g xs ps → length ps ≤ 1 → Plain ps
      → Heard b h (xs ++ taken_for ps reply)
  takes_plain h g xs ps reply k l z = takes h g xs ps reply h.mask k l (marks_plain xs h.mask ps reply z k.marks)

  -- the offer of an entry, or code 2, on the awaited reply
  after_from : (h : Host) (xs : List Exchange) (ps : List (List ℕ)) (reply : List ℕ) (e : ℕ) → Heard b h (xs ++ taken_for ps reply) → h.token < 256
      → After b xs ps reply (offer_from (count_in b) e h)
  unfolding packet_of
  after_from h xs ps reply e k s =
      offer_cases (After b xs ps reply) (count_in b) e h (next_offer h _ (record { entry = e; busy = 0 }) k s)
      (record { packets = omega (arith, k.packets); passes = omega (arith, k.passes); marks = k.marks; shown = λ reply. refl })

  module _ (h : Host) (xs : List Exchange) (a : Awaited) (reply : List ℕ) (s : h.token < 256) (l : a.place.entry < count_in b)
      (m : a.place.block < length (blocks_at b a.place.entry)) (k : KnownAt b h (Sending a) xs (block_packet b a.place ∷ [])) where
    -- the block with its reply, with this mask
    took : (mask : ℕ) → Marks b (xs ++ taken_for (block_packet b a.place ∷ []) reply) mask
        → Tells b (xs ++ taken_for (block_packet b a.place ∷ []) reply) h.packets h.passes mask
    took mask w = takes h (Sending a) xs (block_packet b a.place ∷ []) reply mask k (omega arith) w

    -- .. where the mask stays
    took_same : (is_taken a.place reply && is_last b a.place) ≡ false → Heard b h (xs ++ taken_for (block_packet b a.place ∷ []) reply)
    took_same y = took h.mask (due_same xs h.mask a.place reply l m k.shown.1 k.marks y)

    -- every move on a reply to a block
    sending_after : After b xs (block_packet b a.place ∷ []) reply (decide_in (Sending a) (count_in b) (last_in b (Sending a)) h reply)
    unfolding decide_in packet_of
    sending_after =
        sending_cases (After b xs (block_packet b a.place ∷ []) reply) (count_in b) (is_last b a.place) a h reply
        (λ t. next_ends h _ (took_same (rw t)))
        (λ y f. record { packets = k.packets; passes = k.passes; marks = k.marks; shown = (refl, k.shown.1, k.shown.2) })
        (λ t f. after_from (completes h a.place.entry) xs (block_packet b a.place ∷ []) reply (a.place.entry + 1)
        (took (with_bit h.mask a.place.entry) (due_more xs h.mask a.place reply l m k.shown.1 k.marks (rw (t, f)))) s)
        (λ t f. next_block h _ (record { entry = a.place.entry; block = a.place.block + 1 }) (took_same (rw (t, f))) l
        (omega (arith, m, eqb-false (a.place.block + 1) (length (blocks_at b a.place.entry)) f))
        (about_same xs h.mask a.place reply l m k.shown.1 k.marks)
        (λ y. let c : a.place.block ≡ a.place.block + 1 - 1 = omega arith in
        ap reply_in (last_more xs _) ∙ taken_reads a.place reply t ∙ ap (λ (n : ℕ). record { sequence = sequence_of n; status = success_status }) c))

  -- every move, by its stage
  after_by : (h : Host) (xs : List Exchange) (ps : List (List ℕ)) (reply : List ℕ) (g : HostStage) → h.stage ≡ g → ReadyAt b h g → KnownAt b h g xs ps → length ps ≤ 1
      → After b xs ps reply (decide_in g (count_in b) (last_in b g) h reply)
  unfolding decide_in packet_of
  after_by h xs ps reply Fresh z r k l =
      let w = takes_plain h Fresh xs ps reply k l k.shown in
      record { packets = omega (arith, w.packets); passes = omega (arith, w.passes); marks = w.marks; shown = λ reply'. refl }
  after_by h xs ps reply Opening z r k l =
      let w = takes_plain h Opening xs ps reply k l k.shown in
      opening_cases (After b xs ps reply) (count_in b) h reply (next_ends h _ w) (next_list h _ w)
  after_by h xs ps reply Listing z r k l =
      let w = takes_plain h Listing xs ps reply k l k.shown in
      listing_cases (After b xs ps reply) (count_in b) h reply (next_ends h _ w) (after_from h xs ps reply 0 w r.token)
  after_by h xs ps reply (Offering t) z r k l =
      let w = takes_plain h (Offering t) xs ps reply k l k.shown.0 in
      offering_cases (After b xs ps reply) (count_in b) h reply (next_ends h _ w) t
      (next_block h _ (record { entry = t.entry; block = 0 }) w r.stage.0 (α.records t.entry r.stage.0) (k.shown.1 reply)
      (λ z. absurd (omega arith)))
      (λ s. after_from (noted h s) xs ps reply (t.entry + 1) w r.token)
      (λ q. next_notify h _ (record { entry = t.entry; busy = t.busy + 1 }) w (k.shown.1 reply))
  after_by h xs ps reply (Waiting t) z r k l =
      let w = takes_plain h (Waiting t) xs ps reply k l k.shown.0 in
      waiting_cases (After b xs ps reply) (count_in b) h reply (next_ends h _ w) t (next_offer h _ t w r.token r.stage.0)
  after_by h xs ps reply (Sending a) z r k l =
      rw k.shown.0 (sending_after h xs a reply r.token r.stage.0 r.stage.1 (rw k.shown.0 at k))
  after_by h xs ps reply Closing z r k l =
      let w = takes_plain h Closing xs ps reply k l k.shown in
      closing_cases (After b xs ps reply) (count_in b) h reply (next_ends h _ w) (λ e. next_list h _ w)
  after_by h xs ps reply (Ended e) z r k l =
      rw (z, k.shown, append-nil) (record { packets = rw k.shown at k.packets; passes = rw k.shown at k.passes; marks = k.marks; shown = refl })

-- the ones of a mask are the completed offers that a list shows
ones_shown : (b : List ℕ) (xs : List Exchange) (mask n : ℕ) → ((i : ℕ) → i < n → has_bit mask i ≡ completed_in 0 xs (id_at b i)) → ones_below mask n ≡ completed_of b xs n
unfolding ones_below completed_of
ones_shown b xs mask zero m = refl
ones_shown b xs mask (suc n) m =
    ap₂ (λ (x : Bool) (y : ℕ). cond x 1 0 + y) (m n (omega arith)) (ones_shown b xs mask n (λ i l. m i (omega arith)))

-- at most one packet's reply is awaited
one_sent : (b : List ℕ) (token : ℕ) (a : Action) → length (packet_of b token a) ≤ 1
unfolding packet_of
one_sent b token Nothing = omega arith
one_sent b token (Information code) = omega arith
one_sent b token Notify = omega arith
one_sent b token (Offer e) = omega arith
one_sent b token (Block p) = omega arith

one_awaited : (x : Bool) (ps qs : List (List ℕ)) → length ps ≤ 1 → length qs ≤ 1 → length (cond x ps qs) ≤ 1
one_awaited true ps qs l m = l
one_awaited false ps qs l m = m

module _ (b : List ℕ) (token : ℕ) (replies : ℕ → List ℕ) (α : Accepted b) (s : bundle.bundle_row b ≡ bundle.served) (t : token < 256) where
  -- the run of the host
  abbrev at : ℕ → HostRun
  at k = host_steps b token replies k

  -- every record is known
  pub known_at : (k : ℕ) → KnownAt b (at k).host (at k).host.stage (at k).trace (at k).awaited × (length (at k).awaited ≤ 1)
  unfolding host_steps passes_in completed_in
  known_at zero = (record { packets = refl; passes = refl; marks = λ i l. no_bit i; shown = tt }, omega arith)
  known_at (suc k) =
      let w = known_at k in
      subst (λ (x : Step). KnownAt b x.host x.host.stage (trace_after x (replies k) (at k).awaited (at k).trace) (awaited_after x (at k).awaited) × (length (awaited_after x (at k).awaited) ≤ 1))
      (sym (step_at b token replies α s t k)) (
        after_by b α (at k).host (at k).trace (at k).awaited (replies k) (at k).host.stage refl (ready_at b token replies α s t k) w.0 w.1,
        one_awaited (passes_over (moved b (move_at b token replies α s t k))) (at k).awaited _ w.1
            (one_sent b (move_at b token replies α s t k).host.token (move_at b token replies α s t k).action),
      )

  -- an ended record awaits no reply
  ended_known : (k : ℕ) (g : HostStage) → KnownAt b (at k).host g (at k).trace (at k).awaited → has_ended g ≡ true → (at k).awaited ≡ []
  ended_known k Fresh w e = absurd (false≢true e)
  ended_known k Opening w e = absurd (false≢true e)
  ended_known k Listing w e = absurd (false≢true e)
  ended_known k (Offering x) w e = absurd (false≢true e)
  ended_known k (Waiting x) w e = absurd (false≢true e)
  ended_known k (Sending a) w e = absurd (false≢true e)
  ended_known k Closing w e = absurd (false≢true e)
  ended_known k (Ended x) w e = w.shown

-- at every step the mask's bits and ones are the completed offers of the list
pub host_masks : HostMasks
host_masks b token replies k bytes s t =
    let α = accepted b bytes s in
    let m = (known_at b token replies α s t k).0.marks in
    let h = host_at b token replies α s t k in
    record { bits = m; ones = ones_below_lem h.mask (count_in b) (ready_at b token replies α s t k).mask ∙ ones_shown b (host_steps b token replies k).trace h.mask (count_in b) m }

-- at every step the packets and passes are those of the list sent
pub host_tallies : HostTallies
host_tallies b token replies k reply bytes s t =
    let w = known_at b token replies (accepted b bytes s) s t k in
    let run = host_steps b token replies k in
    (w.0.packets ∙ sym (taken_length run.trace run.awaited reply w.1), w.0.passes ∙ sym (taken_passes run.trace run.awaited reply))

-- once the host has ended, it awaits no reply, and the counts are those of the list sent
pub host_counts : HostCounts
host_counts b token replies k bytes s t e =
    let α = accepted b bytes s in
    let w = (known_at b token replies α s t k).0 in
    let z = ended_known b token replies α s t k (host_steps b token replies k).host.stage w e in
    (z, record { packets = rw z at w.packets ∙ omega arith; passes = rw z at w.passes ∙ omega arith; mask = host_masks b token replies k bytes s t })
