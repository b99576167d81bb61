-- What every record that a fresh host comes to has: it fits its bundle, and the steps that it may still take are within the bound. Assumes nothing.
use mathlib.Core.Path.{◌≡◌, refl, sym, ap, subst}
use mathlib.Core.Logic.{◌⊎◌, inl, inr}
use mathlib.Core.Bool.{Bool, true≢false, true, false, cond, ◌&&◌, ◌||◌}
use mathlib.Core.List.{List, [], ◌∷◌}
use Prim.Native.Nat.{ℕ, suc, ◌+◌, ◌*◌, ◌-◌, ◌^◌, ◌<◌, ◌≤◌}
use native.Mathlib.Nat.{mul-le-mul, sub-zero, suc-mul}
use native.Mathlib.Numerals.{add-one}
use native.Mathlib.Omega.{arith}
use borrow.Author.Tests.{ltb-true, eqb-false, ne_eqb, le-ltb, lt-leb}
use lib.Dec.{eqb}
use lib.ListN.{length, drop}
use lib.Seq.{drop-cons}
use lib.Pow.{pow_pos}
use Rattle.wire.proofs.Tests.{both}
use Rattle.bundle_layout.specs.Layout.{bundle_limit, offer_limit, count_in, entries_in}
use Rattle.bundle_layout.specs.Rows as bundle
use Rattle.bundle.proofs.Accepted.{Accepted}
use Rattle.host_record.specs.Record.{fresh_host, sent_at, passed_at, has_ended}
use Rattle.host_record.specs.Fits.{busy_limit}
use Rattle.host_decide.specs.Decide.{new_pass, sends, ends, list, offer_from, noted, completes, decide_in, decide_of}
use Rattle.host_record.specs.Fits.{packet_limit}
use Rattle.host.specs.Step.{blocks_at, bad_stage, breaks_n1, is_last, last_in, moved, step_on, step_of}
use Rattle.host_record.specs.declared.record.Host.{Host}
use Rattle.host_record.specs.declared.record.Awaited.{Awaited}
use Rattle.host_record.specs.declared.record.HostStage.{HostStage}
use Rattle.host_record.specs.declared.record.HostStage.TheVariants.{Fresh, Opening, Listing, Offering, Waiting, Sending, Closing, Ended}
use Rattle.host_record.specs.declared.record.End.{End}
use Rattle.host_decide.specs.declared.Action.{Action}
use Rattle.host_decide.specs.declared.Move.{Move}
use Rattle.update.specs.Run.{records_from, records_in, bound_of}
use Rattle.host_decide.proofs.Moves.{opening_cases, listing_cases, offering_cases, waiting_cases, closing_cases, sending_cases, offer_cases}
use Rattle.update.proofs.Mask.{with_bit_below}
use Rattle.update.proofs.Packets.{Has}

-- the steps of some entries in one pass: 16 for each offer, and two for each record, since a body's first block has one
steps : (b : List ℕ) → List (List ℕ) → ℕ
steps b es = 16 * length es + 2 * records_from b es

-- those of the entries from number e
left : (b : List ℕ) → (e : ℕ) → ℕ
left b e = steps b (drop e (entries_in b))

-- those of the passes that may still be opened
pub spare : (b : List ℕ) → (passes : ℕ) → ℕ
spare b passes = (count_in b - passes) * (16 * count_in b + 2 + 2 * records_in b)

-- the steps for the rest of a body of m blocks whose reply is awaited: two for each block, but one where none can be passed over any more
abbrev blocks_left : (m : ℕ) → Awaited → ℕ
blocks_left m a = 2 * (m - a.place.block) - cond (a.passed || eqb a.place.block 0) 1 0

-- the steps of this pass that are left in a stage, and the one that ends
pub owed : (b : List ℕ) → HostStage → ℕ
owed b Fresh = 2
owed b Opening = 1
owed b Listing = 2 + left b 0
owed b (Offering t) = left b (t.entry + 1) + 2 * length (blocks_at b t.entry) + (17 - 2 * t.busy)
owed b (Waiting t) = left b (t.entry + 1) + 2 * length (blocks_at b t.entry) + (18 - 2 * t.busy)
owed b (Sending a) = 1 + left b (a.place.entry + 1) + blocks_left (length (blocks_at b a.place.entry)) a
owed b Closing = 1
owed b (Ended e) = 0

-- the stage points inside the bundle, at no more than 8 BUSY, and no pass is opened before code 0 is answered
abbrev pub InStage : (b : List ℕ) → (passes : ℕ) → HostStage → Type 0
InStage b passes Fresh = passes ≡ 0
InStage b passes Opening = passes ≡ 0
InStage b passes Listing = Unit {0}
InStage b passes (Offering t) = (t.entry < count_in b) × (t.busy ≤ busy_limit)
InStage b passes (Waiting t) = (t.entry < count_in b) × (t.busy ≤ busy_limit)
InStage b passes (Sending a) = (a.place.entry < count_in b) × (a.place.block < length (blocks_at b a.place.entry))
InStage b passes Closing = Unit {0}
InStage b passes (Ended e) = Unit {0}

-- a record that is ready, in stage g
pub record ReadyAt (b : List ℕ) (h : Host) (g : HostStage) : Type 0 where
  pub token : h.token < 256
  pub stage : InStage b h.passes g
  pub passes : h.passes ≤ count_in b
  pub mask : h.mask < 2 ^ count_in b
  pub room : h.packets + owed b g + spare b h.passes ≤ bound_of b

-- a record that is ready, in its own stage
abbrev pub Ready : (b : List ℕ) → Host → Type 0
Ready b h = ReadyAt b h h.stage

-- the steps that a record may still take
abbrev pub steps_left : (b : List ℕ) → (passes : ℕ) → HostStage → ℕ
steps_left b passes g = owed b g + spare b passes

-- what a move from a record with so many steps left leaves: a ready record, an action that the bundle has the bytes for, and an end or fewer steps
pub record Goes (b : List ℕ) (steps : ℕ) (m : Move) : Type 0 where
  pub ready : Ready b m.host
  pub action : Has b m.action
  pub fewer : (has_ended m.host.stage ≡ true) ⊎ (steps_left b m.host.passes m.host.stage < steps)

-- the rest of a body: while a block's reply is awaited a step is left; a reply that is passed over is one step less; the next block is two less at least
module _ (m : ℕ) (a : Awaited) where
  rest_some : a.place.block < m → 1 ≤ blocks_left m a
  rest_some k = go (a.passed || eqb a.place.block 0)
    where
      go : (x : Bool) → 1 ≤ 2 * (m - a.place.block) - cond x 1 0
      go true = omega arith
      go false = omega arith

  rest_passed : a.place.block < m → 1 ≤ a.place.block → a.passed ≡ false → blocks_left m (passed_at a.place) + 1 ≤ blocks_left m a
  rest_passed l s f = rw (f, ne_eqb a.place.block 0 (λ z. omega arith)) (omega arith)

  rest_next : a.place.block + 1 < m → blocks_left m (sent_at (record { entry = a.place.entry; block = a.place.block + 1 })) + 1 ≤ blocks_left m a
  rest_next l = rw (ne_eqb (a.place.block + 1) 0 (λ z. omega arith)) (go (a.passed || eqb a.place.block 0))
    where
      go : (x : Bool) → 2 * (m - (a.place.block + 1)) - 0 + 1 ≤ 2 * (m - a.place.block) - cond x 1 0
      go true = omega arith
      go false = omega arith

module _ (b : List ℕ) (α : Accepted b) where
  -- one entry's steps
  left_step : (e : ℕ) → e < count_in b → left b e ≡ 16 + 2 * length (blocks_at b e) + left b (e + 1)
  unfolding left steps records_from
  left_step e l = rw (add-one e, drop-cons (entries_in b) e [] (omega (arith, α.entries))) (omega arith)

  -- one pass's steps
  spare_step : (passes : ℕ) → passes < count_in b → spare b passes ≡ 2 + left b 0 + spare b (passes + 1)
  unfolding spare left steps
  spare_step passes l =
      let x = count_in b - (passes + 1) in
      let w = 16 * count_in b + 2 + 2 * records_in b in
      let e : count_in b - passes ≡ suc x = omega arith in
      rw (e, suc-mul x w, α.entries) (omega arith)

  -- the steps of a fresh record
  spare_all : 2 + spare b 0 ≡ bound_of b
  unfolding spare
  spare_all = rw sub-zero

  -- no more records than a bundle has bytes, for each entry
  few_records : (es : List (List ℕ)) → records_from b es ≤ length es * bundle_limit
  unfolding records_from
  few_records [] = omega arith
  few_records (e ∷ es) = omega (arith, few_records es, (α.carries e).count)

  -- so the bound is below the limit on packets
  bound_small : bound_of b < packet_limit
  bound_small =
      let r : records_in b ≤ offer_limit * bundle_limit = omega (arith, few_records (entries_in b), α.entries, α.few) in
      let w : 16 * count_in b + 2 + 2 * records_in b ≤ 16 * offer_limit + 2 + 2 * (offer_limit * bundle_limit) = omega (arith, α.few) in
      omega (arith, mul-le-mul α.few w)

  -- a packet is sent, from a record with so many steps left: what its stage and its action require, and the steps that are left
  goes_sends : (h : Host) (g : HostStage) (a : Action) (n : ℕ) → h.token < 256 → h.passes ≤ count_in b → h.mask < 2 ^ count_in b → InStage b h.passes g → Has b a
      → h.packets + 1 + owed b g + spare b h.passes ≤ bound_of b → owed b g + spare b h.passes < n → Goes b n (sends h g a)
  goes_sends h g a n t p m i k r l = record {
    ready = record { token = t; stage = i; passes = p; mask = m; room = r };
    action = k;
    fewer = inr l;
  }

  -- an end
  goes_ends : (h : Host) (g : HostStage) (n : ℕ) → ReadyAt b h g → (e : End) → Goes b n (ends h e)
  unfolding owed
  goes_ends h g n r e = record {
    ready = record { token = r.token; stage = tt; passes = r.passes; mask = r.mask; room = omega (arith, r.room) };
    action = tt;
    fewer = inl refl;
  }

  -- code 1
  goes_list : (h : Host) (g : HostStage) → ReadyAt b h g → 1 ≤ owed b g → h.passes < count_in b → Goes b (steps_left b h.passes g) (list h)
  unfolding owed
  goes_list h g r o l =
      let z = spare_step h.passes l in
      goes_sends (new_pass h) Listing _ _ r.token (omega arith) r.mask tt tt (omega (arith, r.room, z)) (omega (arith, z))

  -- the offer of entry e or code 2, from a record whose steps cover what is left from e
  goes_offer : (h : Host) (e n : ℕ) → h.token < 256 → h.passes ≤ count_in b → h.mask < 2 ^ count_in b
      → h.packets + (2 + left b e) + spare b h.passes ≤ bound_of b → 2 + left b e + spare b h.passes ≤ n → Goes b n (offer_from (count_in b) e h)
  unfolding owed
  goes_offer h e n t p m r k =
      offer_cases (Goes b n) (count_in b) e h
      (λ l. let z = left_step e l in goes_sends h (Offering (record { entry = e; busy = 0 })) _ n t p m (l, omega arith) l (omega (arith, z)) (omega (arith, z)))
      (goes_sends h Closing _ n t p m tt tt (omega arith) (omega arith))

  -- every move from a ready record, by its stage
  goes_by : (h : Host) (reply : List ℕ) (g : HostStage) → h.stage ≡ g → ReadyAt b h g
      → Goes b (steps_left b h.passes g) (decide_in g (count_in b) (last_in b g) h reply)
  unfolding decide_in owed
  goes_by h reply Fresh z r = goes_sends h Opening _ _ r.token r.passes r.mask r.stage tt (omega (arith, r.room)) (omega arith)
  goes_by h reply Opening z r =
      opening_cases (Goes b _) (count_in b) h reply (goes_ends h Opening _ r)
      (goes_list h Opening r (omega arith) (omega (arith, r.stage, α.some)))
  goes_by h reply Listing z r =
      listing_cases (Goes b _) (count_in b) h reply (goes_ends h Listing _ r)
      (goes_offer h 0 _ r.token r.passes r.mask (omega (arith, r.room)) (omega arith))
  goes_by h reply (Offering t) z r =
      let l = r.stage.0 in
      let k = r.stage.1 in
      let m = α.records t.entry l in
      offering_cases (Goes b _) (count_in b) h reply (goes_ends h (Offering t) _ r) t
      (goes_sends h (Sending (sent_at (record { entry = t.entry; block = 0 }))) _ _ r.token r.passes r.mask (l, m) (l, m) (omega (arith, r.room)) (omega arith))
      (λ s. goes_offer (noted h s) (t.entry + 1) _ r.token r.passes r.mask (omega (arith, r.room)) (omega arith))
      (λ w. goes_sends h (Waiting (record { entry = t.entry; busy = t.busy + 1 })) _ _ r.token r.passes r.mask (l, omega arith) tt (omega (arith, r.room)) (omega arith))
  goes_by h reply (Waiting t) z r =
      let k = r.stage.1 in
      waiting_cases (Goes b _) (count_in b) h reply (goes_ends h (Waiting t) _ r) t
      (goes_sends h (Offering t) _ _ r.token r.passes r.mask r.stage r.stage.0 (omega (arith, r.room)) (omega arith))
  goes_by h reply (Sending a) z r =
      let l = r.stage.0 in
      let k = r.stage.1 in
      let w = rest_some (length (blocks_at b a.place.entry)) a k in
      sending_cases (Goes b _) (count_in b) (is_last b a.place) a h reply
      (λ t. goes_ends h (Sending a) _ r)
      (λ s f. let v = rest_passed (length (blocks_at b a.place.entry)) a k s f in record {
        ready = record { token = r.token; stage = (l, k); passes = r.passes; mask = r.mask; room = omega (arith, r.room, v) };
        action = tt;
        fewer = inr (omega (arith, v));
      })
      (λ t e. goes_offer (completes h a.place.entry) (a.place.entry + 1) _ r.token r.passes
      (with_bit_below h.mask a.place.entry (count_in b) r.mask l) (omega (arith, r.room, w)) (omega (arith, w)))
      (λ t e. let m : a.place.block + 1 < length (blocks_at b a.place.entry) = omega (arith, eqb-false (a.place.block + 1) (length (blocks_at b a.place.entry)) e) in
      let v = rest_next (length (blocks_at b a.place.entry)) a m in
      goes_sends h (Sending (sent_at (record { entry = a.place.entry; block = a.place.block + 1 }))) _ _ r.token r.passes r.mask (l, m) (l, m)
      (omega (arith, r.room, v)) (omega (arith, v)))
  goes_by h reply Closing z r =
      closing_cases (Goes b _) (count_in b) h reply (goes_ends h Closing _ r)
      (λ e. goes_list h Closing r (omega arith) (ltb-true h.passes (count_in b) (both (h.skipped && h.landed) _ e).1))
  goes_by h reply (Ended e) z r = record { ready = subst (ReadyAt b h) (sym z) r; action = tt; fewer = inl (ap has_ended z) }

  -- so it is for the move that is decided
  pub goes : (h : Host) (reply : List ℕ) → Ready b h → Goes b (steps_left b h.passes h.stage) (decide_of (count_in b) (last_in b h.stage) h reply)
  goes h reply r = goes_by h reply h.stage refl r

  -- a stage inside the bundle is not bad
  fits_stage : (passes : ℕ) (g : HostStage) → InStage b passes g → bad_stage b g ≡ false
  fits_stage passes Fresh r = refl
  fits_stage passes Opening r = refl
  fits_stage passes Listing r = refl
  fits_stage passes (Offering t) r = rw (lt-leb (count_in b) t.entry r.0) (le-ltb busy_limit t.busy r.1)
  fits_stage passes (Waiting t) r = rw (lt-leb (count_in b) t.entry r.0) (le-ltb busy_limit t.busy r.1)
  fits_stage passes (Sending a) r =
      rw (lt-leb (count_in b) a.place.entry r.0, lt-leb offer_limit a.place.entry (omega (arith, r.0, α.few)))
      (lt-leb (length (blocks_at b a.place.entry)) a.place.block r.1)
  fits_stage passes Closing r = refl
  fits_stage passes (Ended e) r = refl

  -- a ready record does not meet N1
  ready_fits : (h : Host) → Ready b h → breaks_n1 b h ≡ false
  unfolding breaks_n1
  ready_fits h r =
      rw (fits_stage h.passes h.stage r.stage, le-ltb (count_in b) h.passes r.passes, lt-leb packet_limit h.packets (omega (arith, r.room, bound_small)))
      (lt-leb (2 ^ count_in b) h.mask r.mask)

  -- so a step is the move
  pub step_moves : bundle.bundle_row b ≡ bundle.served → (h : Host) (reply : List ℕ) → Ready b h
      → step_of b h reply ≡ moved b (decide_of (count_in b) (last_in b h.stage) h reply)
  unfolding step_of step_on
  step_moves s h reply r = rw (s, ready_fits h r)

  -- a fresh record is ready
  pub fresh_ready : (token : ℕ) → token < 256 → Ready b (fresh_host token)
  unfolding owed
  fresh_ready token t = record { token = t; stage = refl; passes = omega arith; mask = pow_pos (count_in b); room = omega (arith, spare_all) }

  -- as many steps are left of it as the bound has
  pub fresh_steps : steps_left b 0 Fresh ≡ bound_of b
  unfolding owed
  fresh_steps = spare_all

  -- a record that has not ended has a step left
  pub owed_step : (passes : ℕ) (g : HostStage) → InStage b passes g → has_ended g ≡ false → 1 ≤ owed b g
  unfolding owed
  owed_step passes Fresh i e = omega arith
  owed_step passes Opening i e = omega arith
  owed_step passes Listing i e = omega arith
  owed_step passes (Offering t) i e = omega (arith, i.1)
  owed_step passes (Waiting t) i e = omega (arith, i.1)
  owed_step passes (Sending a) i e = omega arith
  owed_step passes Closing i e = omega arith
  owed_step passes (Ended x) i e = absurd (true≢false e)
