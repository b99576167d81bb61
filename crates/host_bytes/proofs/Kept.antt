-- Over contents that the check of a bundle and the steps over it leave, the inner step is the step, whatever the record, and leaves such contents again. It
-- reads no offer of the contents. Assumes nothing.
use mathlib.Core.Path.{◌≡◌, refl, sym, ap, ap₂, subst, ◌∙◌}
use mathlib.Core.Bool.{Bool, true, false, true≢false, not, cond, ◌||◌, ◌&&◌}
use mathlib.Core.List.{List, [], ◌∷◌, ◌++◌, map}
use Prim.Native.Nat.{ℕ, zero, suc, ◌+◌, ◌-◌, ◌^◌, ◌<◌, ◌≤◌}
use native.Mathlib.Omega.{arith}
use borrow.Author.Tests.{leb-false, le-leb, ltb-true, ltb-false, eqb-true, eq-eqb, ne_eqb}
use lib.Dec.{eqb, leb, ltb}
use lib.ListN.{length, get_or, take, replicate, length-append, length-map, length-replicate, get_or-map, get_or-eq_default}
use Rattle.wire.specs.Bytes.{Bytes}
use Rattle.wire.specs.Checks.{first_of}
use Rattle.wire.proofs.Bounds.{no_bytes, word_fits}
use Rattle.wire.proofs.Tests.{both, neither}
use Rattle.bundle_layout.specs.Layout.{offer_limit, count_in, entries_in, blank_entry}
use Rattle.bundle_layout.specs.Rows as bundle
use Rattle.bundle_layout.specs.declared.Entry.{Entry}
use Rattle.bundle.specs.Contents.{Contents, entry_in, contents_by, check_of}
use Rattle.bundle.proofs.Accepted.{Accepted, accepted}
use Rattle.host_record.specs.Record.{sent_at}
use Rattle.host_record.specs.Fits.{busy_limit, body_of, in_hand}
use Rattle.host_record.specs.declared.fits.Body.{Body}
use Rattle.host_record.specs.declared.record.Host.{Host}
use Rattle.host_record.specs.declared.record.Place.{Place}
use Rattle.host_record.specs.declared.record.HostStage.{HostStage}
use Rattle.host_record.specs.declared.record.HostStage.TheVariants.{Fresh, Opening, Listing, Offering, Waiting, Sending, Closing, Ended}
use Rattle.host_decide.specs.declared.Move.{Move}
use Rattle.host_decide.specs.Decide.{decide_in, offer_from, noted, completes}
use Rattle.host_decide.proofs.Moves.{opening_cases, listing_cases, offering_cases, waiting_cases, closing_cases, sending_cases, offer_cases}
use Rattle.host_packet.specs.Answer.{Row, served, row_b, row_n, Step}
use Rattle.host.specs.Step.{entry_at, bad_stage, breaks_n1, last_in, step_of, step_on}
use Rattle.host.specs.Inner.{inner_of, inner_for, CursorIn, cursor_at}
use Rattle.host.proofs.inner.IsStep.{place_inside, agrees}
use Rattle.host.proofs.step.Laws.{cursor_found}
use Rattle.host_bytes.specs.Layout.{row_offset, count_at, hand_start, contents_size, row_bytes, bodies_bytes, hand_bytes, no_place, contents_bytes, contents_in, body_read, place_in, cursor_in, are_contents, is_row, is_count, is_kept, cursor_for, kept_with, kept_by}
use Rattle.host_bytes.specs.Promises.{Keeps, CheckKeeps, KeptContentsStep}
use Rattle.host_bytes.proofs.Contents.{bare_entry, bare, FitsBody, FitsPlace, Written, contents_sized, hand_changed, place_back, cursor_back, contents_back, body_read_lem}

-- an entry without its offer, by its place, and its body
listed : (l : List Entry) (i : ℕ) → get_or (map bare_entry l) i blank_entry ≡ bare_entry (get_or l i blank_entry)
listed l i = get_or-map bare_entry l i blank_entry

body_bare : (c : Contents) (i : ℕ) → body_of (bare c) i ≡ body_of c i
body_bare c i = ap (λ (e : Entry). record { start = e.offset; end = e.offset + e.length; records = e.records }) (listed c.table i)

-- the inner step reads no offer of the contents
inner_bare : (b : List ℕ) (c : Contents) (cursor : ℕ) (h : Host) (reply : List ℕ) → inner_for b (bare c) cursor h reply ≡ inner_for b c cursor h reply
inner_bare b c cursor h reply = ap (λ (y : Body). inner_of b c.row c.count y cursor h reply) (body_bare c (in_hand h.stage))

-- no entry fits
blank_fits : (m k : ℕ) → FitsBody (get_or (replicate m blank_entry) k blank_entry)
blank_fits zero k = record { offset = omega arith; length = omega arith; records = omega arith }
blank_fits (suc m) zero = record { offset = omega arith; length = omega arith; records = omega arith }
blank_fits (suc m) (suc k) = blank_fits m k

module _ (b : List ℕ) (α : Accepted b) where
  -- the entries of an accepted bundle fit
  entries_fit : (es : List (List ℕ)) (m : ℕ) → ((k : ℕ) → Bytes (get_or es k [])) → (k : ℕ) → FitsBody (get_or (map (entry_in b) es ++ replicate m blank_entry) k blank_entry)
  entries_fit [] m f k = blank_fits m k
  entries_fit (e ∷ es) m f zero = record { offset = word_fits 4 16 e (f 0); length = word_fits 4 20 e (f 0); records = omega (arith, (α.carries e).count) }
  entries_fit (e ∷ es) m f (suc k) = entries_fit es m (λ i. f (suc i)) k

  -- and are bytes
  entry_bytes_lem : (k : ℕ) → Bytes (get_or (entries_in b) k [])
  entry_bytes_lem k = go (ltb k (count_in b)) refl
    where
      go : (t : Bool) → ltb k (count_in b) ≡ t → Bytes (get_or (entries_in b) k [])
      go true e = (α.packet k (ltb-true k (count_in b) e)).bytes
      go false e = subst Bytes (sym (get_or-eq_default (entries_in b) [] {n = k} (omega (arith, ltb-false k (count_in b) e, α.entries)))) no_bytes

-- a row of the check is one of eight
abbrev IsRow : bundle.Row → Type 0
IsRow bundle.served = Unit {0}
IsRow (bundle.row_b k entry) = (1 ≤ k) × (k ≤ 8)

either : (t : Bool) (x y : bundle.Row) → IsRow x → IsRow y → IsRow (cond t x y)
either true x y f g = f
either false x y f g = g

is_row_lem : (b : List ℕ) → IsRow (bundle.bundle_row b)
unfolding bundle.bundle_row first_of
is_row_lem b =
    either (bundle.bad_length b) _ _ (omega arith, omega arith)
    (either (bundle.bad_head b) _ _ (omega arith, omega arith)
    (either (bundle.bad_count b) _ _ (omega arith, omega arith)
    (either (bundle.cut_table b) _ _ (omega arith, omega arith)
    (either (bundle.named (bundle.row_b5 b)) _ _ (omega arith, omega arith)
    (either (bundle.named (bundle.row_b6 b)) _ _ (omega arith, omega arith)
    (either (bundle.named (bundle.row_b7 b)) _ _ (omega arith, omega arith)
    (either (bundle.named (bundle.row_b8 b)) _ _ (omega arith, omega arith) tt)))))))

-- what the check answers can be written
check_written : (b : List ℕ) → Bytes b → Written (check_of b)
unfolding check_of
check_written b bytes = go (bundle.bundle_row b) refl (is_row_lem b)
  where
    go : (r : bundle.Row) → bundle.bundle_row b ≡ r → IsRow r → Written (contents_by r b)
    go bundle.served s i =
        let α = accepted b bytes s in
        record {
          full = simp (length-append, length-map, length-replicate) (omega (arith, α.entries, α.few));
          fits = entries_fit b α (entries_in b) (offer_limit - count_in b) (entry_bytes_lem b α);
          row = refl;
          place = refl;
        }
    go (bundle.row_b k entry) s i = record {
      full = length-replicate offer_limit blank_entry;
      fits = blank_fits offer_limit;
      row = rw (ne_eqb k 0 (λ z. omega arith));
      place = refl;
    }

-- the block whose reply is awaited after a step fits its words
abbrev Small : HostStage → Type 0
Small Fresh = Unit {0}
Small Opening = Unit {0}
Small Listing = Unit {0}
Small (Offering t) = Unit {0}
Small (Waiting t) = Unit {0}
Small (Sending a) = FitsPlace a.place
Small Closing = Unit {0}
Small (Ended e) = Unit {0}

module _ (b : List ℕ) (α : Accepted b) (h : Host) (reply : List ℕ) where
  abbrev SmallMove : Move → Type 0
  SmallMove m = Small m.host.stage

  offers : (e : ℕ) (g : Host) → SmallMove (offer_from (count_in b) e g)
  offers e g = offer_cases SmallMove (count_in b) e g (λ l. tt) tt

  -- a block that the bundle has, and the one behind it
  fits_inside : (p : Place) (k : ℕ) → bad_stage b (Sending (sent_at p)) ≡ false → k ≤ p.block + 1 → FitsPlace (record { entry = p.entry; block = k })
  fits_inside p k w l =
      let i = place_inside b p w in
      record { entry = omega (arith, i.0, α.few); block = omega (arith, i.1, (α.carries (entry_at b p.entry)).count) }

  small_by : (g : HostStage) → h.stage ≡ g → bad_stage b g ≡ false → SmallMove (decide_in g (count_in b) (last_in b g) h reply)
  unfolding decide_in
  small_by Fresh z w = tt
  small_by Opening z w = opening_cases SmallMove (count_in b) h reply (λ e. tt) tt
  small_by Listing z w = listing_cases SmallMove (count_in b) h reply (λ e. tt) (offers 0 h)
  small_by (Offering t) z w =
      let l = leb-false (count_in b) t.entry (neither (leb (count_in b) t.entry) (ltb busy_limit t.busy) w).0 in
      offering_cases SmallMove (count_in b) h reply (λ e. tt) t (record { entry = omega (arith, α.few); block = omega arith }) (λ s. offers (t.entry + 1) (noted h s)) (λ m. tt)
  small_by (Waiting t) z w = waiting_cases SmallMove (count_in b) h reply (λ e. tt) t tt
  small_by (Sending a) z w =
      let p = a.place in
      sending_cases SmallMove (count_in b) (last_in b (Sending a)) a h reply (λ u e. tt) (λ u v. fits_inside p p.block w (omega arith)) (λ u v. offers (p.entry + 1) (completes h p.entry))
      (λ u v. fits_inside p (p.block + 1) w (omega arith))
  small_by Closing z w = closing_cases SmallMove (count_in b) h reply (λ e. tt) (λ u. tt)
  small_by (Ended e) z w = subst Small (sym z) tt

-- what a step leaves where it is served: a block that fits its words, and a right cursor
abbrev Left : (b : List ℕ) → Row → HostStage → (cursor : ℕ) → Type 0
Left b served g n = Small g × CursorIn b g n
Left b (row_b k entry) g n = Unit {0}
Left b (row_n k) g n = Unit {0}

step_left : (b : List ℕ) (h : Host) (n : ℕ) (reply : List ℕ) → Bytes b
    → (bundle.bundle_row b ≡ bundle.served → bad_stage b h.stage ≡ false → CursorIn b (step_of b h reply).host.stage n)
    → Left b (step_of b h reply).row (step_of b h reply).host.stage n
unfolding step_of step_on breaks_n1
step_left b h n reply bytes right = go (bundle.bundle_row b) refl
  where
    on : bundle.bundle_row b ≡ bundle.served → (t : Bool) → breaks_n1 b h ≡ t → Left b (step_of b h reply).row (step_of b h reply).host.stage n
    on s true w = rw (s, w) tt
    on s false w =
        let c = (neither (bad_stage b h.stage) _ w).0 in
        rw (s, w) (small_by b (accepted b bytes s) h reply h.stage refl c, (rw (s, w) at (right s c)))

    go : (r : bundle.Row) → bundle.bundle_row b ≡ r → Left b (step_of b h reply).row (step_of b h reply).host.stage n
    go bundle.served s = on s (breaks_n1 b h) refl
    go (bundle.row_b k entry) s = rw s tt

-- the cursor is right for the block
abbrev Right : (b : List ℕ) → Place → (cursor : ℕ) → Type 0
Right b p n = bad_stage b (Sending (sent_at p)) ≡ false → CursorIn b (Sending (sent_at p)) n

-- what is written with a block and its right cursor
written_keeps : (b : List ℕ) → Bytes b → (p : Place) (n : ℕ) → FitsPlace p → n < 256 ^ 8 → Right b p n → Keeps b (contents_bytes (check_of b) p n)
written_keeps b bytes p n f g right =
    let w = check_written b bytes in
    let x = place_back (check_of b) w p n f in
    let y = cursor_back (check_of b) w p n g in
    record {
      contents = sym (ap₂ (contents_bytes (check_of b)) x y);
      cursor = subst (λ (u : Place). Right b u (cursor_in (contents_bytes (check_of b) p n))) (sym x) (subst (Right b p) (sym y) right);
    }

-- the check leaves contents that were left for its bundle
pub check_keeps : CheckKeeps
check_keeps b bytes = written_keeps b bytes no_place 0 (record { entry = omega arith; block = omega arith }) (omega arith)
    (λ z. absurd (true≢false (neither (leb (count_in b) no_place.entry) _ z).1))

module _ (b q : List ℕ) (bytes : Bytes b) (k : Keeps b q) where
  sized : length q ≡ contents_size
  sized = ap length k.contents ∙ contents_sized (check_of b) (check_written b bytes) (place_in q) (cursor_in q)

  pub contents_are : contents_in q ≡ bare (check_of b)
  contents_are = ap contents_in k.contents ∙ contents_back (check_of b) (check_written b bytes) (place_in q) (cursor_in q)

  pub body_are : (i : ℕ) → body_read q i ≡ body_of (check_of b) i
  body_are i = body_read_lem q i sized ∙ ap (λ (c : Contents). body_of c i) contents_are ∙ body_bare (check_of b) i

  -- the kept cursor is right for its block, and a walk finds that of any other
  cursor_right : bundle.bundle_row b ≡ bundle.served → (g : HostStage) → bad_stage b g ≡ false → CursorIn b g (cursor_for b q g)
  cursor_right s Fresh w = tt
  cursor_right s Opening w = tt
  cursor_right s Listing w = tt
  cursor_right s (Offering t) w = tt
  cursor_right s (Waiting t) w = tt
  cursor_right s (Sending a) w = go (is_kept q (Sending a)) refl
    where
      go : (t : Bool) → is_kept q (Sending a) ≡ t → CursorIn b (Sending a) (cond t (cursor_in q) (cursor_at b (body_read q a.place.entry) (Sending a)))
      go true e =
          let x = both (eqb (place_in q).entry a.place.entry) (eqb (place_in q).block a.place.block) e in
          let y : place_in q ≡ a.place = ap₂ (λ (u v : ℕ). record { entry = u; block = v }) (eqb-true _ _ x.0) (eqb-true _ _ x.1) in
          subst (λ (u : Place). Right b u (cursor_in q)) y k.cursor w
      go false e = rw (body_are a.place.entry) (cursor_found b bytes s (Sending a) w)
  cursor_right s Closing w = tt
  cursor_right s (Ended e) w = tt

  -- the contents after a step
  after : (row : Row) (g : HostStage) (n : ℕ) → Left b row g n → Keeps b (kept_by row q (kept_with q g n))
  after served Fresh n l = k
  after served Opening n l = k
  after served Listing n l = k
  after served (Offering t) n l = k
  after served (Waiting t) n l = k
  after served (Sending a) n l =
      let p = a.place in
      let w = check_written b bytes in
      let f = w.fits p.entry in
      let e = ap (λ (x : List ℕ). take hand_start x ++ hand_bytes p n) k.contents ∙ hand_changed (check_of b) w (place_in q) (cursor_in q) p n in
      subst (Keeps b) (sym e) (written_keeps b bytes p n l.0 (omega (arith, l.1.0, f.offset, f.length)) (λ z. l.1))
  after served Closing n l = k
  after served (Ended e) n l = k
  after (row_b m entry) g n l = k
  after (row_n m) g n l = k

-- the inner step over kept contents is the step, and leaves such contents again
pub kept_contents_step : KeptContentsStep
kept_contents_step b q h reply bytes k =
    let n = cursor_for b q h.stage in
    let e : inner_for b (contents_in q) n h reply ≡ inner_for b (check_of b) n h reply =
    ap (λ (c : Contents). inner_for b c n h reply) (contents_are b q bytes k) ∙ inner_bare b (check_of b) n h reply in
    let r : bundle.bundle_row b ≡ bundle.served → bad_stage b h.stage ≡ false → CursorIn b h.stage n = λ s w. cursor_right b q bytes k s h.stage w in
    let a = agrees b h n reply bytes r in
    let m = (inner_for b (check_of b) n h reply).cursor in
    rw e (
      a.0,
      subst (λ (x : Step). Keeps b (kept_by x.row q (kept_with q x.host.stage m))) (sym a.0) (after b q bytes k (step_of b h reply).row (step_of b h reply).host.stage m (step_left b h m reply bytes (λ s w. a.1 (r s w)))),
    )

-- the number of a row of the check, and as many offers as a bundle may have where none refuses
abbrev are_begun : List ℕ → Bool
are_begun q = is_row (get_or q row_offset 0) && (not (eqb (get_or q row_offset 0) 0) || is_count (get_or q count_at 0))

are_begun_lem : (b : List ℕ) → Bytes b → (r : bundle.Row) → bundle.bundle_row b ≡ r → IsRow r → (rest : List ℕ) → are_begun (row_bytes (contents_by r b).row ++ ((contents_by r b).count ∷ rest)) ≡ true
are_begun_lem b bytes bundle.served s i rest = let α = accepted b bytes s in rw (le-leb 1 (count_in b) α.some, le-leb (count_in b) offer_limit α.few)
are_begun_lem b bytes (bundle.row_b k entry) s i rest = rw (le-leb k 8 i.1, ne_eqb k 0 (λ z. omega arith))

-- what was left for a bundle are contents that a check may have left
pub kept_are_contents : (b q : List ℕ) → Bytes b → Keeps b q → are_contents q ≡ true
unfolding contents_bytes check_of
kept_are_contents b q bytes k =
    rw (eq-eqb (length q) contents_size (sized b q bytes k))
    (ap are_begun k.contents ∙ are_begun_lem b bytes (bundle.bundle_row b) refl (is_row_lem b) (bodies_bytes (check_of b).table ++ hand_bytes (place_in q) (cursor_in q)))
