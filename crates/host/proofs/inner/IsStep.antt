-- Over what the check answers for a bundle, with the right cursor, the inner step is the step, and leaves the cursor right. Assumes nothing.
use mathlib.Core.Path.{◌≡◌, refl, sym, ap, ap₂, subst, ◌∙◌}
use mathlib.Core.Bool.{Bool, true, false, ◌||◌}
use mathlib.Core.List.{List, [], ◌∷◌, map}
use Prim.Native.Nat.{ℕ, zero, suc, ◌+◌, ◌-◌, ◌^◌, ◌<◌, ◌≤◌}
use native.Mathlib.Nat.{not-suc-le-zero, le_of_suc-le-suc}
use native.Mathlib.Numerals.{add-one}
use native.Mathlib.Omega.{arith}
use borrow.Author.Tests.{leb-false, le-leb, eqb-false, ne_eqb}
use lib.Dec.{leb, ltb, eqb}
use lib.ListN.{length, get_or, drop, replicate, length-map, get_or-append}
use lib.Seq.{drop-cons, take-take}
use Rattle.wire.specs.Bytes.{Bytes}
use Rattle.wire.proofs.Tests.{neither}
use Rattle.bundle_records.specs.Record.{Block}
use Rattle.bundle_records.specs.Parse.{Parsed, whole, broken, records_of, blocks_of}
use Rattle.bundle_records.specs.Walk.{between, next_of}
use Rattle.bundle_records.specs.declared.Next.{Next}
use Rattle.bundle_records.specs.declared.Next.TheVariants as next
use Rattle.bundle_layout.specs.Layout.{entry_size, offer_limit, count_in, table_end, entries_in, offset_in, length_in, body_in, blank_entry}
use Rattle.bundle_layout.specs.Rows as bundle
use Rattle.bundle_layout.specs.declared.Entry.{Entry}
use Rattle.bundle.specs.Contents.{Contents, entry_in, contents_by, check_of}
use Rattle.bundle.proofs.Accepted.{Accepted, accepted}
use Rattle.bundle.proofs.Told.{check_row}
use Rattle.host_record.specs.declared.record.Host.{Host}
use Rattle.host_record.specs.declared.record.Turn.{Turn}
use Rattle.host_record.specs.declared.record.Place.{Place}
use Rattle.host_record.specs.declared.record.HostStage.{HostStage}
use Rattle.host_record.specs.declared.record.HostStage.TheVariants.{Fresh, Opening, Listing, Offering, Waiting, Sending, Closing, Ended}
use Rattle.host_record.specs.declared.record.End.{End}
use Rattle.host_decide.specs.declared.Action.{Action}
use Rattle.host_decide.specs.declared.Action.TheVariants as action
use Rattle.host_decide.specs.declared.Move.{Move}
use Rattle.host_record.specs.declared.fits.Body.{Body}
use Rattle.host_record.specs.Record.{sent_at}
use Rattle.host_record.specs.Fits.{busy_limit, packet_limit, turn_breaks, place_breaks, stage_breaks, record_breaks, last_of, listed_at, records_on, body_of, in_hand}
use Rattle.host_decide.specs.Decide.{ends, offer_from, noted, completes, decide_in, decide_of, decision_of}
use Rattle.host_packet.specs.Packet.{block_bytes}
use Rattle.host.specs.Step.{entry_at, blocks_at, records_at, bad_stage, breaks_n1, is_last, last_in, no_block, block_at, packet_of, moved, step_on, step_of}
use Rattle.host_packet.specs.Answer.{row_b, row_n, refused_by}
use Rattle.host_packet.specs.Made.{sending, record_start, laid_record, laid_block, laid_of, InnerStep, step_of_laid, made_of}
use Rattle.host.specs.Inner.{inner_of, inner_for, CursorIn, InnerIsStep}
use Rattle.host_decide.proofs.Hands.{OfEntry, decided_in_hand}
use Rattle.host_decide.proofs.Moves.{opening_cases, listing_cases, offering_cases, waiting_cases, closing_cases, sending_cases, offer_cases}
use Rattle.bundle_records.proofs.Walks.{Goes, goes}

-- a member of a list that is mapped
map_at : {A row_b : Type 0} (f : A → row_b) (l : List A) (i : ℕ) (d : row_b) (e : A) → i < length l → get_or (map f l) i d ≡ f (get_or l i e)
map_at f [] i d e h = absurd (not-suc-le-zero h)
map_at f (x ∷ l) zero d e h = refl
map_at f (x ∷ l) (suc i) d e h = map_at f l i d e (le_of_suc-le-suc h)

-- a body with a record is whole
whole_blocks : (p : Parsed) → 1 ≤ length (blocks_of p) → p ≡ whole (blocks_of p)
whole_blocks (whole rs) h = refl
whole_blocks broken h = absurd (omega arith)

-- N1 of a stage depends only on the records of the bundle's entries
module _ (n : ℕ) (f g : ℕ → ℕ) (same : (i : ℕ) → i < n → f i ≡ g i) where
  place_same : (p : Place) → place_breaks n (f p.entry) p ≡ place_breaks n (g p.entry) p
  place_same p = go (leb n p.entry) refl
    where
      go : (t : Bool) → leb n p.entry ≡ t
          → (t || (leb offer_limit p.entry || leb (f p.entry) p.block)) ≡ (t || (leb offer_limit p.entry || leb (g p.entry) p.block))
      go true e = refl
      go false e = rw (same p.entry (leb-false n p.entry e))

  stage_same : (s : HostStage) → stage_breaks n (f (in_hand s)) s ≡ stage_breaks n (g (in_hand s)) s
  stage_same Fresh = refl
  stage_same Opening = refl
  stage_same Listing = refl
  stage_same (Offering t) = refl
  stage_same (Waiting t) = refl
  stage_same (Sending a) = place_same a.place
  stage_same Closing = refl
  stage_same (Ended e) = refl

  last_same : (s : HostStage) → stage_breaks n (g (in_hand s)) s ≡ false → last_of (f (in_hand s)) s ≡ last_of (g (in_hand s)) s
  last_same Fresh h = refl
  last_same Opening h = refl
  last_same Listing h = refl
  last_same (Offering t) h = refl
  last_same (Waiting t) h = refl
  last_same (Sending a) h = let i = a.place.entry in rw (same i (leb-false n i (neither (leb n i) _ h).0))
  last_same Closing h = refl
  last_same (Ended e) h = refl

-- the body of an entry, as the check answers it
abbrev pub checked : List ℕ → ℕ → Body
checked b i = body_of (check_of b) i

-- a block in hand is of an entry and a record that the bundle has
pub place_inside : (b : List ℕ) (p : Place) → bad_stage b (Sending (sent_at p)) ≡ false → (p.entry < count_in b) × (p.block < records_at b p.entry)
place_inside b p w =
    let q = neither (leb (count_in b) p.entry) _ w in
    let r = neither (leb offer_limit p.entry) (leb (records_at b p.entry) p.block) q.1 in
    (leb-false (count_in b) p.entry q.0, leb-false (records_at b p.entry) p.block r.1)

module _ (b : List ℕ) (α : Accepted b) (s : bundle.bundle_row b ≡ bundle.served) where
  -- the contents of an accepted bundle
  check_is : check_of b ≡ contents_by bundle.served b
  unfolding check_of
  check_is = ap (λ (r : bundle.Row). contents_by r b) s

  count_is : (check_of b).count ≡ count_in b
  count_is = ap (λ (c : Contents). c.count) check_is

  listed_is : (i : ℕ) → i < count_in b → listed_at (check_of b) i ≡ entry_in b (entry_at b i)
  listed_is i l =
      let e = α.entries in
      let m = map (entry_in b) (entries_in b) in
      let k : i < length m = rw (length-map) (omega arith) in
      ap (λ (c : Contents). listed_at c i) check_is ∙ get_or-append m (replicate (offer_limit - count_in b) blank_entry) blank_entry i k
      ∙ map_at (entry_in b) (entries_in b) i blank_entry [] (omega arith)

  records_is : (i : ℕ) → i < count_in b → records_on (check_of b) i ≡ records_at b i
  records_is i l = ap (λ (e : Entry). e.records) (listed_is i l)

  -- a body from its start to its end
  pub end_inside : (i : ℕ) → i < count_in b → (checked b i).end ≤ length b
  end_inside i l = rw (ap (λ (e : Entry). e.offset + e.length) (listed_is i l)) (α.inside i l)

  body_reads : (i : ℕ) → i < count_in b
      → records_of (between b (offset_in (entry_at b i)) (offset_in (entry_at b i) + length_in (entry_at b i))) ≡ whole (blocks_at b i)
  unfolding body_in
  body_reads i l =
      let e : offset_in (entry_at b i) + length_in (entry_at b i) - offset_in (entry_at b i) ≡ length_in (entry_at b i) = omega arith in
      rw e (whole_blocks (records_of (body_in b (entry_at b i))) (α.records i l))

  -- the block's record and those after it stand from its start on
  pub record Stood (cursor : ℕ) (p : Place) : Type 0 where
    pub below : record_start (checked b p.entry) cursor p.block ≤ (checked b p.entry).end
    pub reads : records_of (between b (record_start (checked b p.entry) cursor p.block) (checked b p.entry).end) ≡ whole (drop p.block (blocks_at b p.entry))

  pub first_stood : (cursor i : ℕ) → i < count_in b → Stood cursor (record { entry = i; block = 0 })
  first_stood cursor i l = record { below = omega arith; reads = ap (λ (e : Entry). records_of (between b e.offset (e.offset + e.length))) (listed_is i l) ∙ body_reads i l }

  next_stood : (cursor : ℕ) (p : Place) → CursorIn b (Sending (sent_at p)) cursor → Stood cursor (record { entry = p.entry; block = p.block + 1 })
  next_stood cursor p h =
      let e = ne_eqb (p.block + 1) 0 (λ z. omega arith) in
      record { below = rw e h.0; reads = rw (e, add-one p.block) h.1 }

  -- an action that the bundle has the bytes for, and the stage that it leaves: the cursor stays right, or the block's record stands at it
  abbrev Fine : (cursor : ℕ) → Action → HostStage → Type 0
  Fine cursor action.Nothing g = CursorIn b g cursor
  Fine cursor (action.Information code) g = CursorIn b g cursor
  Fine cursor action.Notify g = CursorIn b g cursor
  Fine cursor (action.Offer e) g = (e < count_in b) × CursorIn b g cursor
  Fine cursor (action.Block p) g = (g ≡ Sending (sent_at p)) × (p.entry < count_in b) × (p.block < records_at b p.entry) × Stood cursor p

  -- what the action sends is the step's packet, and the cursor is right
  abbrev Same : (after : Host) → Action → InnerStep → Type 0
  Same after a i = (i.step ≡ moved b (record { action = a; host = after })) × CursorIn b after.stage i.cursor

  module _ (hand cursor : ℕ) (before after : Host) where
    -- the step of an action, over the body in hand
    abbrev made : Action → InnerStep
    made a = made_of b (checked b hand) cursor before after a

    offer_same : (e : ℕ) → e < count_in b → CursorIn b after.stage cursor → Same after (action.Offer e) (made (action.Offer e))
    unfolding laid_of packet_of
    offer_same e l k =
        let t : table_end (e + 1) ≤ length b = omega (arith, α.table) in
        let m : 16 ≤ entry_size = omega arith in
        rw (le-leb (table_end (e + 1)) (length b) t, α.places e l, take-take 16 entry_size (drop (table_end e) b) m) (refl, k)

    block_by : (p : Place) → p.entry < count_in b → (r : Next)
        → Goes b (record_start (checked b p.entry) cursor p.block) (checked b p.entry).end (block_at b p) (drop (suc p.block) (blocks_at b p.entry)) r
        → ((step_of_laid (laid_record b (checked b p.entry) cursor p r) before after).step ≡ moved b (record { action = action.Block p; host = after }))
        × CursorIn b (Sending (sent_at p)) (laid_record b (checked b p.entry) cursor p r).cursor
    unfolding packet_of
    block_by p l next.End h = absurd h
    block_by p l next.Bad h = absurd h
    block_by p l (next.Record a start size past) h = (
      ap (λ (x : List ℕ). (step_of_laid (sending x past) before after).step)
          (ap₂ (λ (t : Bool) (x : Block). block_bytes p.block t x) (ap (eqb (p.block + 1)) (records_is p.entry l)) h.0),
      (h.1, h.2),
    )

    made_same : (a : Action) → OfEntry hand a → Fine cursor a after.stage → Same after a (made a)
    unfolding laid_of packet_of
    made_same action.Nothing o f = (refl, f)
    made_same (action.Information code) o f = (refl, f)
    made_same action.Notify o f = (refl, f)
    made_same (action.Offer e) o f = offer_same e f.0 f.1
    made_same (action.Block p) o f =
        let at = record_start (checked b p.entry) cursor p.block in
        let end = (checked b p.entry).end in
        let g = goes b at end _ _ f.3.below (end_inside p.entry f.1) (f.3.reads ∙ ap whole (drop-cons (blocks_at b p.entry) p.block no_block f.2)) in
        let w = block_by p f.1 (next_of b at end) g in
        subst (λ (i : ℕ). Same after (action.Block p) (step_of_laid (laid_block b (checked b i) cursor p) before after)) o
        (w.0, subst (λ (g : HostStage). CursorIn b g (laid_block b (checked b p.entry) cursor p).cursor) (sym f.0) w.1)

  -- every move from a record that N1 leaves is such an action
  module _ (cursor : ℕ) (h : Host) (reply : List ℕ) where
    abbrev FineMove : Move → Type 0
    FineMove m = Fine cursor m.action m.host.stage

    stops : (e : End) → FineMove (ends h e)
    stops e = tt

    offers : (e : ℕ) (g : Host) → FineMove (offer_from (count_in b) e g)
    offers e g = offer_cases FineMove (count_in b) e g (λ l. (l, tt)) tt

    turn_inside : (t : Turn) → turn_breaks (count_in b) t ≡ false → t.entry < count_in b
    turn_inside t w = leb-false (count_in b) t.entry (neither (leb (count_in b) t.entry) (ltb busy_limit t.busy) w).0

    fine_by : (g : HostStage) → h.stage ≡ g → bad_stage b g ≡ false → CursorIn b g cursor
        → FineMove (decide_in g (count_in b) (last_in b g) h reply)
    unfolding decide_in
    fine_by Fresh z w k = tt
    fine_by Opening z w k = opening_cases FineMove (count_in b) h reply stops tt
    fine_by Listing z w k = listing_cases FineMove (count_in b) h reply stops (offers 0 h)
    fine_by (Offering t) z w k =
        let l = turn_inside t w in
        offering_cases FineMove (count_in b) h reply stops t (refl, l, α.records t.entry l, first_stood cursor t.entry l)
        (λ status. offers (t.entry + 1) (noted h status)) (λ m. tt)
    fine_by (Waiting t) z w k = waiting_cases FineMove (count_in b) h reply stops t (turn_inside t w, tt)
    fine_by (Sending a) z w k =
        let p = a.place in
        let i = place_inside b p w in
        sending_cases FineMove (count_in b) (is_last b p) a h reply (λ u. stops) (λ u v. k) (λ u v. offers (p.entry + 1) (completes h p.entry))
        (λ u v. (refl, i.0, omega (arith, i.1, eqb-false (p.block + 1) (records_at b p.entry) v), next_stood cursor p k))
    fine_by Closing z w k = closing_cases FineMove (count_in b) h reply stops (λ u. tt)
    fine_by (Ended e) z w k = subst (λ (g : HostStage). CursorIn b g cursor) (sym z) tt

    -- what is decided over the contents is what is decided over the bundle
    breaks_is : record_breaks (check_of b).count (records_on (check_of b) (in_hand h.stage)) h ≡ breaks_n1 b h
    unfolding breaks_n1
    breaks_is =
        ap (λ (n : ℕ). record_breaks n (records_on (check_of b) (in_hand h.stage)) h) count_is
        ∙ ap (λ (t : Bool). t || (ltb (count_in b) h.passes || (leb packet_limit h.packets || leb (2 ^ count_in b) h.mask)))
        (stage_same (count_in b) (records_on (check_of b)) (records_at b) records_is h.stage)

    abbrev move : Move
    move = decide_of (count_in b) (last_in b h.stage) h reply

    -- over an accepted bundle the inner step is N1 or the move, and so is the step
    inner_breaks : breaks_n1 b h ≡ true → inner_for b (check_of b) cursor h reply ≡ record { step = refused_by (row_n 1) h; cursor = cursor }
    unfolding inner_of decision_of
    inner_breaks w = rw (check_row b, s, breaks_is, w)

    inner_moves : breaks_n1 b h ≡ false → inner_for b (check_of b) cursor h reply ≡ made (in_hand h.stage) cursor h move.host move.action
    unfolding inner_of decision_of breaks_n1
    inner_moves w =
        let e = last_same (count_in b) (records_on (check_of b)) (records_at b) records_is h.stage (neither (bad_stage b h.stage) _ w).0 in
        rw (check_row b, s, breaks_is, w)
        (ap (λ (m : Move). made (in_hand h.stage) cursor h m.host m.action) (ap₂ (λ (n : ℕ) (l : Bool). decide_of n l h reply) count_is e))

    step_breaks : breaks_n1 b h ≡ true → step_of b h reply ≡ refused_by (row_n 1) h
    unfolding step_of step_on
    step_breaks w = rw (s, w)

    step_moves : breaks_n1 b h ≡ false → step_of b h reply ≡ moved b move
    unfolding step_of step_on
    step_moves w = rw (s, w)

    same : breaks_n1 b h ≡ false → CursorIn b h.stage cursor → Same move.host move.action (inner_for b (check_of b) cursor h reply)
    unfolding breaks_n1
    same w k =
        rw (inner_moves w)
        (made_same (in_hand h.stage) cursor h move.host move.action (decided_in_hand (count_in b) (last_in b h.stage) h reply) (fine_by h.stage refl (neither (bad_stage b h.stage) _ w).0 k))

-- over a refused bundle both are its row
module _ (b : List ℕ) (h : Host) (cursor : ℕ) (reply : List ℕ) (n entry : ℕ) (s : bundle.bundle_row b ≡ bundle.row_b n entry) where
  inner_refused : inner_for b (check_of b) cursor h reply ≡ record { step = refused_by (row_b n entry) h; cursor = cursor }
  unfolding inner_of
  inner_refused = rw (check_row b, s)

  step_refused : step_of b h reply ≡ refused_by (row_b n entry) h
  unfolding step_of
  step_refused = rw s

-- the inner step is the step, and leaves a right cursor right
module _ (b : List ℕ) (h : Host) (cursor : ℕ) (reply : List ℕ) where
  abbrev pub Agrees : Type 0
  Agrees =
      ((inner_for b (check_of b) cursor h reply).step ≡ step_of b h reply)
      × (CursorIn b h.stage cursor → CursorIn b (step_of b h reply).host.stage (inner_for b (check_of b) cursor h reply).cursor)

  -- where the cursor is right if the check passes and N1 does not hold of the stage
  pub agrees : Bytes b → (bundle.bundle_row b ≡ bundle.served → bad_stage b h.stage ≡ false → CursorIn b h.stage cursor) → Agrees
  unfolding breaks_n1
  agrees bytes k = go (bundle.bundle_row b) refl
    where
      on : (s : bundle.bundle_row b ≡ bundle.served) (t : Bool) → breaks_n1 b h ≡ t → Agrees
      on s true w = let α = accepted b bytes s in rw (inner_breaks b α s cursor h reply w, step_breaks b α s cursor h reply w) (refl, λ x. x)
      on s false w =
          let α = accepted b bytes s in
          let q = same b α s cursor h reply w (k s (neither (bad_stage b h.stage) _ w).0) in
          rw (step_moves b α s cursor h reply w) (q.0, λ x. q.1)

      go : (r : bundle.Row) → bundle.bundle_row b ≡ r → Agrees
      go bundle.served s = on s (breaks_n1 b h) refl
      go (bundle.row_b n entry) s = rw (inner_refused b h cursor reply n entry s, step_refused b h cursor reply n entry s) (refl, λ x. x)

pub inner_is_step : InnerIsStep
inner_is_step b h cursor reply bytes k = let q = agrees b h cursor reply bytes (λ s w. k) in (q.0, q.1 k)
