-- What the check of a bundle answers, and the cursor with its block, as they are written and read. Assumes nothing.
use mathlib.Core.Path.{◌≡◌, refl, sym, ap, ap₂, ◌∙◌}
use mathlib.Core.Bool.{Bool, true, false, cond, ◌&&◌}
use mathlib.Core.List.{List, [], ◌∷◌, ◌++◌, map, append_assoc, append-nil}
use Prim.Native.Nat.{ℕ, zero, suc, ◌+◌, ◌*◌, ◌^◌, ◌<◌, ◌≤◌}
use native.Mathlib.Nat.{add-zero, add-suc}
use native.Mathlib.Omega.{arith}
use borrow.Author.Tests.{eq-eqb, eqb-true, ltb-true, ltb-false}
use lib.Dec.{eqb, ltb}
use lib.ListN.{length, get_or, take, drop, length-append, drop_of_length-le, get_or-eq_default}
use lib.Seq.{take_all, take_at, drop-drop, get_or-drop}
use Rattle.wire.specs.Bytes.{number, bytes_of, bytes_at, copy_of}
use Rattle.wire.proofs.Pieces.{copied, stored, piece_next, pieces_sized, read_sized, read_at}
use Rattle.wire.proofs.Tests.{both}
use Rattle.wire.proofs.words.Laws.{round}
use Rattle.wire_offer.specs.Offer.{blank_offer}
use Rattle.bundle_layout.specs.Layout.{offer_limit, blank_entry}
use Rattle.bundle_layout.specs.Rows as bundle
use Rattle.bundle_layout.specs.declared.Entry.{Entry}
use Rattle.bundle.specs.Contents.{Contents}
use Rattle.host_record.specs.Fits.{listed_at, body_of}
use Rattle.host_record.specs.declared.fits.Body.{Body}
use Rattle.host_record.specs.declared.record.Place.{Place}
use Rattle.host_record.specs.declared.record.HostStage.{HostStage}
use Rattle.host_record.specs.declared.record.HostStage.TheVariants.{Fresh, Opening, Listing, Offering, Waiting, Sending, Closing, Ended}
use Rattle.host_record.specs.declared.record.End.TheVariants as end
use Rattle.host_bytes.specs.declared.stage.StageWords.{StageWords}
use Rattle.host_bytes.specs.Layout.{word_size, words_bytes, entry_offset, bodies_start, length_offset, records_offset, body_part_size, hand_start, block_offset, cursor_start, contents_size, stage_words, row_bytes, body_bytes, bodies_bytes, hand_bytes, no_place, contents_bytes, row_in, body_in, bodies_in, contents_in, body_read, place_in, cursor_in, is_kept, kept_in}
use Rattle.host_bytes.proofs.Words.{laid}

-- one body more is written, as its three words
pub body_written : (out front z : List ℕ) (table : List Entry) (i : ℕ) → i < offer_limit → length table ≡ offer_limit → length out ≡ contents_size
    → z ≡ laid (bodies_start + i * body_part_size) ((get_or table i blank_entry).offset ∷ (get_or table i blank_entry).length ∷ (get_or table i blank_entry).records ∷ []) out
    → take (bodies_start + i * body_part_size) out ≡ front ++ bodies_bytes (take i table)
    → (length z ≡ contents_size) × (take (bodies_start + (i + 1) * body_part_size) z ≡ front ++ bodies_bytes (take (i + 1) table))
unfolding bodies_bytes words_bytes
body_written out front z table i h full whole e before =
    let at = bodies_start + i * body_part_size in
    let u = stored out (body_bytes (get_or table i blank_entry)) at body_part_size refl (omega arith) in
    let n : bodies_start + (i + 1) * body_part_size ≡ at + body_part_size = omega arith in (
      ap length e ∙ u.0 ∙ whole,
      piece_next body_bytes bodies_bytes refl (λ r q. refl) out z front table blank_entry i at (bodies_start + (i + 1) * body_part_size) (omega arith) before (ap₂ take n e ∙ u.1),
    )

-- all of them are written
pub written : (out front : List ℕ) (table : List Entry) (i : ℕ) → i ≡ offer_limit → length table ≡ offer_limit
    → take (bodies_start + i * body_part_size) out ≡ front ++ bodies_bytes (take i table) → take hand_start out ≡ front ++ bodies_bytes table
written out front table i e full h =
    let n : hand_start ≡ bodies_start + i * body_part_size = omega arith in
    ap (λ (m : ℕ). take m out) n ∙ h ∙ ap (λ (l : List Entry). front ++ bodies_bytes l) (take_all i table (omega arith))

-- a copy of all that follows a place
pub end_written : (out s last : List ℕ) (at n k : ℕ) → k ≡ n → length s ≡ n → at + n ≡ length out → last ≡ copy_of (take k (drop at out)) s
    → take at out ++ (last ++ drop k (drop at out)) ≡ take at out ++ s
end_written out s last at n k e f whole g =
    let m : length out ≤ at + n = omega arith in
    copied out s last at n k e f (omega arith) g ∙ ap (λ (l : List ℕ). take at out ++ (s ++ l)) (drop_of_length-le out m) ∙ ap (λ (l : List ℕ). take at out ++ l) (append-nil s)

-- the row and the count, the bodies, and what no block has
pub contents_of : (out q : List ℕ) (row place count : ℕ) (table : List Entry) → length out ≡ contents_size → take hand_start out ≡ row ∷ place ∷ count ∷ bodies_bytes table
    → q ≡ cond (eqb (length out) contents_size) (take hand_start out ++ hand_bytes no_place 0) out
    → q ≡ row ∷ place ∷ [] ++ (count ∷ bodies_bytes table ++ hand_bytes no_place 0)
contents_of out q row place count table whole g h =
    let w : q ≡ take hand_start out ++ hand_bytes no_place 0 = h ∙ rw (eq-eqb (length out) contents_size whole) in
    w ∙ ap (λ (l : List ℕ). l ++ hand_bytes no_place 0) g

-- the words of a block, and then the bytes of the cursor behind it, are stored at the end of the contents
pub hand_stored : (q y behind t : List ℕ) (entry block cursor k : ℕ) → k ≡ 2 * word_size → length q ≡ contents_size → y ≡ laid hand_start (entry ∷ block ∷ []) q
    → behind ≡ bytes_of 8 cursor → t ≡ copy_of (take k (drop cursor_start y)) behind
    → take cursor_start y ++ (t ++ drop k (drop cursor_start y)) ≡ take hand_start q ++ hand_bytes (record { entry = entry; block = block }) cursor
unfolding words_bytes
hand_stored q y behind t entry block cursor k e whole f g h =
    let words = bytes_of 4 entry ++ bytes_of 4 block in
    let u = stored q words hand_start (2 * word_size) refl (omega arith) in
    let m : length y ≡ contents_size = ap length f ∙ u.0 ∙ whole in
    end_written y behind t cursor_start (2 * word_size) k e (ap length g) (omega arith) h
    ∙ ap₂ (λ (a b : List ℕ). a ++ b) (ap (take cursor_start) f ∙ u.1) g ∙ append_assoc (take hand_start q) words (bytes_of 8 cursor)

-- the cursor is kept for a block, by the words of the stage
pub kept_test : (q : List ℕ) (s : HostStage)
    → (eqb (stage_words s).number 5 && (eqb (number (bytes_at 4 hand_start q)) (stage_words s).first && eqb (number (bytes_at 4 block_offset q)) (stage_words s).second)) ≡ is_kept q s
kept_test q Fresh = refl
kept_test q Opening = refl
kept_test q Listing = refl
kept_test q (Offering t) = refl
kept_test q (Waiting t) = refl
kept_test q (Sending a) = refl
kept_test q Closing = refl
kept_test q (Ended end.Done) = refl
kept_test q (Ended (end.Status s)) = refl
kept_test q (Ended end.Foreign) = refl
kept_test q (Ended end.Unexpected) = refl
kept_test q (Ended end.Busy) = refl

-- what stays as it is, whatever the test
stays : (q : List ℕ) (t : Bool) → q ≡ cond t q q
stays q true = refl
stays q false = refl

-- the block and the cursor are kept where the stage has one, and where it has none all stays
sending_kept : (q : List ℕ) (s : HostStage) (cursor : ℕ) → (stage_words s).number ≡ 5
    → cond (eqb (length q) contents_size) (take hand_start q ++ hand_bytes (record { entry = (stage_words s).first; block = (stage_words s).second }) cursor) q ≡ kept_in q s cursor
sending_kept q Fresh cursor h = absurd (omega arith)
sending_kept q Opening cursor h = absurd (omega arith)
sending_kept q Listing cursor h = absurd (omega arith)
sending_kept q (Offering t) cursor h = absurd (omega arith)
sending_kept q (Waiting t) cursor h = absurd (omega arith)
sending_kept q (Sending a) cursor h = refl
sending_kept q Closing cursor h = absurd (omega arith)
sending_kept q (Ended end.Done) cursor h = absurd (omega arith)
sending_kept q (Ended (end.Status s)) cursor h = absurd (omega arith)
sending_kept q (Ended end.Foreign) cursor h = absurd (omega arith)
sending_kept q (Ended end.Unexpected) cursor h = absurd (omega arith)
sending_kept q (Ended end.Busy) cursor h = absurd (omega arith)

other_kept : (q : List ℕ) (s : HostStage) (cursor : ℕ) → ((stage_words s).number ≡ 5 → ⊥) → q ≡ kept_in q s cursor
other_kept q Fresh cursor h = stays q (eqb (length q) contents_size)
other_kept q Opening cursor h = stays q (eqb (length q) contents_size)
other_kept q Listing cursor h = stays q (eqb (length q) contents_size)
other_kept q (Offering t) cursor h = stays q (eqb (length q) contents_size)
other_kept q (Waiting t) cursor h = stays q (eqb (length q) contents_size)
other_kept q (Sending a) cursor h = absurd (h refl)
other_kept q Closing cursor h = stays q (eqb (length q) contents_size)
other_kept q (Ended e) cursor h = stays q (eqb (length q) contents_size)

module _ (q : List ℕ) (s : HostStage) (w : StageWords) (cursor : ℕ) (e : w ≡ stage_words s) where
  pub hand_kept : w.number ≡ 5
      → cond (eqb (length q) contents_size) (take hand_start q ++ hand_bytes (record { entry = w.first; block = w.second }) cursor) q ≡ kept_in q s cursor
  hand_kept h = rw e (sending_kept q s cursor (sym (ap (λ (u : StageWords). u.number) e) ∙ h))

  pub none_kept : (w.number ≡ 5 → ⊥) → q ≡ kept_in q s cursor
  none_kept h = other_kept q s cursor (λ k. h (ap (λ (u : StageWords). u.number) e ∙ k))

-- what stands before the block and the cursor
abbrev front : Contents → List ℕ
front c = row_bytes c.row ++ (c.count ∷ bodies_bytes c.table)

pub parts : (c : Contents) (p : Place) (cursor : ℕ) → contents_bytes c p cursor ≡ front c ++ hand_bytes p cursor
unfolding contents_bytes
parts c p cursor = sym (append_assoc (row_bytes c.row) (c.count ∷ bodies_bytes c.table) (hand_bytes p cursor))

-- the body that stands in bytes from a place on
abbrev pub body_from : ℕ → List ℕ → Body
body_from at q = record { start = number (bytes_at 4 at q); end = number (bytes_at 4 at q) + number (bytes_at 4 (at + length_offset) q); records = number (bytes_at 4 (at + records_offset) q) }

-- bytes of what follows a place
after : (k n i : ℕ) (q : List ℕ) → bytes_at k i (drop n q) ≡ bytes_at k (n + i) q
after zero n i q = refl
after (suc k) n i q = ap₂ (λ (x : ℕ) (l : List ℕ). x ∷ l) (get_or-drop n q i 0) (after k n (suc i) q ∙ ap (λ (m : ℕ). bytes_at k m q) (add-suc n i))

abbrev body_numbers : (offset length records : ℕ) → Body
body_numbers offset length records = record { start = offset; end = offset + length; records = records }

-- an entry that the contents list, from the test of it
pub entry_listed : (t : Bool) (i : ℕ) → (t && ltb i offer_limit) ≡ true → i < offer_limit
entry_listed t i h = ltb-true i offer_limit (both t (ltb i offer_limit) h).1

-- one of the bodies, from its bytes
pub body_listed : (q : List ℕ) (i : ℕ) → i < offer_limit → body_of (contents_in q) i ≡ body_from (bodies_start + i * body_part_size) q
unfolding contents_in bodies_in
body_listed q i h =
    let n = bodies_start + i * body_part_size in
    let e = read_at body_part_size body_in bodies_in (λ q. refl) (λ n q. refl) offer_limit i (drop bodies_start q) blank_entry h ∙ ap body_in (drop-drop (i * body_part_size) bodies_start q) in
    let x : number (bytes_at 4 0 (drop n q)) ≡ number (bytes_at 4 n q) = ap number (after 4 n 0 q ∙ ap (λ (m : ℕ). bytes_at 4 m q) (add-zero n)) in
    let y : number (bytes_at 4 length_offset (drop n q)) ≡ number (bytes_at 4 (n + length_offset) q) = ap number (after 4 n length_offset q) in
    let z : number (bytes_at 4 records_offset (drop n q)) ≡ number (bytes_at 4 (n + records_offset) q) = ap number (after 4 n records_offset q) in
    ap (λ (l : Entry). body_numbers l.offset l.length l.records) e ∙ ap (λ (m : ℕ). body_numbers m (number (bytes_at 4 length_offset (drop n q))) (number (bytes_at 4 records_offset (drop n q)))) x
    ∙ ap₂ (body_numbers (number (bytes_at 4 n q))) y z

-- there are no more
past : (q : List ℕ) (i : ℕ) → offer_limit ≤ i → listed_at (contents_in q) i ≡ blank_entry
unfolding contents_in bodies_in
past q i h =
    get_or-eq_default (bodies_in offer_limit (drop bodies_start q)) blank_entry {n = i} (omega (arith, read_sized body_part_size body_in bodies_in (λ q. refl) (λ n q. refl) offer_limit (drop bodies_start q)))

-- the body of any entry of the contents: past the most offers it is empty
pub body_read_lem : (q : List ℕ) (i : ℕ) → length q ≡ contents_size → body_read q i ≡ body_of (contents_in q) i
unfolding body_read
body_read_lem q i whole = go (ltb i offer_limit) refl
  where
    sized : eqb (length q) contents_size ≡ true
    sized = eq-eqb (length q) contents_size whole

    go : (t : Bool) → ltb i offer_limit ≡ t → cond (eqb (length q) contents_size && ltb i offer_limit) (body_of (contents_in q) i) (body_numbers 0 0 0) ≡ body_of (contents_in q) i
    go true e = rw (sized, e)
    go false e = rw (sized, e) (sym (ap (λ (l : Entry). body_numbers l.offset l.length l.records) (past q i (ltb-false i offer_limit e))))

-- an entry without its offer, and contents with such entries
abbrev pub bare_entry : Entry → Entry
bare_entry e = record { offer = blank_offer; offset = e.offset; length = e.length; records = e.records }

abbrev pub bare : Contents → Contents
bare c = record { row = c.row; place = c.place; count = c.count; table = map bare_entry c.table }

-- the numbers of an entry fit their words
pub record FitsBody (e : Entry) : Type 0 where
  pub offset : e.offset < 256 ^ 4
  pub length : e.length < 256 ^ 4
  pub records : e.records < 256 ^ 4

-- bodies read back, whatever follows them
bodies_back : (l : List Entry) (rest : List ℕ) → ((k : ℕ) → FitsBody (get_or l k blank_entry)) → bodies_in (length l) (bodies_bytes l ++ rest) ≡ map bare_entry l
unfolding bodies_bytes bodies_in
bodies_back [] rest f = refl
bodies_back (e ∷ l) rest f =
    simp (round 4 e.offset (f 0).offset, round 4 e.length (f 0).length, round 4 e.records (f 0).records, bodies_back l rest (λ k. f (suc k)))

-- bodies are as many bytes as each has
bodies_sized : (l : List Entry) → length (bodies_bytes l) ≡ length l * body_part_size
unfolding bodies_bytes
bodies_sized l = pieces_sized body_bytes bodies_bytes refl (λ e l. refl) body_part_size (λ e. refl) l

-- bytes after others, by their place
shift : (k i x : ℕ) (l : List ℕ) → bytes_at k (suc i) (x ∷ l) ≡ bytes_at k i l
shift zero i x l = refl
shift (suc k) i x l = ap (λ (t : List ℕ). get_or l i 0 ∷ t) (shift k (suc i) x l)

skip : (k i : ℕ) (a b : List ℕ) → bytes_at k (length a + i) (a ++ b) ≡ bytes_at k i b
skip k i [] b = ap (λ (n : ℕ). bytes_at k n b) (omega arith)
skip k i (x ∷ a) b = ap (λ (n : ℕ). bytes_at k n (x ∷ a ++ b)) (omega arith) ∙ shift k (length a + i) x (a ++ b) ∙ skip k i a b

-- a row is two bytes
row_sized : (r : bundle.Row) → length (row_bytes r) ≡ 2
row_sized bundle.served = refl
row_sized (bundle.row_b k entry) = refl

-- what stands in bytes that begin with a row and a count
begun : (r : bundle.Row) (n : ℕ) (rest : List ℕ)
    → contents_in (row_bytes r ++ (n ∷ rest)) ≡ record { row = row_in (row_bytes r); place = get_or (row_bytes r) entry_offset 0; count = n; table = bodies_in offer_limit rest }
unfolding contents_in
begun bundle.served n rest = refl
begun (bundle.row_b k entry) n rest = refl

-- the numbers of a block fit their words
pub record FitsPlace (p : Place) : Type 0 where
  pub entry : p.entry < 256 ^ 4
  pub block : p.block < 256 ^ 4

-- what the check answers: entries that fit their words, and a row that reads back
pub record Written (c : Contents) : Type 0 where
  pub full : length c.table ≡ offer_limit
  pub fits : (k : ℕ) → FitsBody (get_or c.table k blank_entry)
  pub row : row_in (row_bytes c.row) ≡ c.row
  pub place : get_or (row_bytes c.row) entry_offset 0 ≡ c.place

module _ (c : Contents) (w : Written c) (p : Place) (cursor : ℕ) where
  front_sized : length (front c) ≡ hand_start
  front_sized = length-append (row_bytes c.row) (c.count ∷ bodies_bytes c.table) ∙ omega (arith, row_sized c.row, bodies_sized c.table, w.full)

  -- contents are of the one length
  pub contents_sized : length (contents_bytes c p cursor) ≡ contents_size
  contents_sized = ap length (parts c p cursor) ∙ length-append (front c) (hand_bytes p cursor) ∙ omega (arith, front_sized)

  -- with another block and its cursor
  pub hand_changed : (p' : Place) (cursor' : ℕ) → take hand_start (contents_bytes c p cursor) ++ hand_bytes p' cursor' ≡ contents_bytes c p' cursor'
  hand_changed p' cursor' =
      ap (λ (l : List ℕ). l ++ hand_bytes p' cursor') (ap (take hand_start) (parts c p cursor) ∙ take_at (front c) (hand_bytes p cursor) hand_start front_sized)
      ∙ sym (parts c p' cursor')

  -- bytes from the block on, by their place
  hand_at : (k i : ℕ) → bytes_at k (hand_start + i) (contents_bytes c p cursor) ≡ bytes_at k i (hand_bytes p cursor)
  hand_at k i =
      ap₂ (λ (n : ℕ) (l : List ℕ). bytes_at k (n + i) l) (sym front_sized) (parts c p cursor) ∙ skip k i (front c) (hand_bytes p cursor)

  -- the block reads back
  pub place_back : FitsPlace p → place_in (contents_bytes c p cursor) ≡ p
  place_back f =
      ap₂ (λ (x y : ℕ). record { entry = x; block = y }) (ap number (hand_at 4 0) ∙ round 4 p.entry f.entry) (ap number (hand_at 4 word_size) ∙ round 4 p.block f.block)

  -- so does the cursor
  pub cursor_back : cursor < 256 ^ 8 → cursor_in (contents_bytes c p cursor) ≡ cursor
  cursor_back f = ap number (hand_at 8 (2 * word_size)) ∙ round 8 cursor f

  -- so does what the check answered
  pub contents_back : contents_in (contents_bytes c p cursor) ≡ bare c
  unfolding contents_bytes
  contents_back =
      let rest = bodies_bytes c.table ++ hand_bytes p cursor in
      let e : bodies_in offer_limit rest ≡ map bare_entry c.table = ap (λ (n : ℕ). bodies_in n rest) (sym w.full) ∙ bodies_back c.table (hand_bytes p cursor) w.fits in
      begun c.row c.count rest ∙ rw (w.row, w.place, e)
