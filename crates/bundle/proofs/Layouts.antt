-- Every well-formed layout within the limits is accepted, and its offers and its records are read back. Assumes nothing.
use mathlib.Core.Path.{◌≡◌, refl, sym, ap, ap₂, ◌∙◌}
use mathlib.Core.Bool.{false}
use mathlib.Core.List.{List, [], ◌∷◌, ◌++◌, append_assoc, map, flatten}
use Prim.Native.Nat.{ℕ, zero, suc, ◌+◌, ◌*◌, ◌^◌, ◌≤◌, ◌<◌}
use native.Mathlib.Nat.{not-suc-le-zero}
use native.Mathlib.Omega.{arith}
use borrow.Author.Tests.{eq-eqb, ne_eqb, le-ltb}
use lib.Dec.{eqb}
use lib.ListN.{length, get_or, drop, replicate, length-append, get_or-append}
use lib.Seq.{take_at, drop_at, drop-drop, get_or-append-add}
use Rattle.wire.specs.Bytes.{Bytes, number, bytes_of, bytes_at}
use Rattle.wire.specs.Checks.{any, All, first_of}
use Rattle.wire.specs.Codes.{short_size}
use Rattle.wire.proofs.Bounds.{cons_bytes, join_bytes, no_bytes, word_bytes}
use Rattle.wire.proofs.words.Laws.{round}
use Rattle.bundle_records.specs.Record.{Block, Sound, block_bytes}
use Rattle.bundle_records.specs.Parse.{whole, records_of, blocks_of, written}
use Rattle.bundle_records.proofs.Written.{written_reads}
use Rattle.bundle_layout.specs.Layout.{bundle_limit, offer_limit, head_size, entry_size, table_end, entries_from, entries_in, offer_in, id_in, offset_in, length_in, body_in}
use Rattle.bundle_layout.specs.Rows.{first_entry, bad_length, bad_head, bad_count, cut_table, bad_offer, repeated, gap, is_bad, bad_body, row_b5, row_b6, row_b7, row_b8, bundle_row}
use Rattle.bundle.specs.Contents.{blocks_in, Part, table_bytes, bundle_bytes, GoodPart, LayoutAccepted}

-- a part's body, its entry where the body stands at `at`, and the entries of a layout

abbrev pub body_of : Part → List ℕ
body_of p = written p.blocks

abbrev entry_of : ℕ → Part → List ℕ
entry_of at p = p.offer ++ (bytes_of 4 at ++ bytes_of 4 (length (body_of p)))

unfoldable entries_of : ℕ → List Part → List (List ℕ)
entries_of at [] = []
entries_of at (p ∷ ps) = entry_of at p ∷ entries_of (at + length (body_of p)) ps

-- what an entry says

bytes_after : (k i n m : ℕ) (o x : List ℕ) → length o ≡ n → m ≡ n + i → bytes_at k m (o ++ x) ≡ bytes_at k i x
bytes_after zero i n m o x l e = refl
bytes_after (suc k) i n m o x l e =
    let q : m ≡ length o + i = omega arith in
    ap₂ (λ (y : ℕ) (ys : List ℕ). y ∷ ys) (rw q (get_or-append-add o x i 0)) (bytes_after k (suc i) n (suc m) o x l (omega arith))

-- B5 looks at the 16 bytes of the offer alone
pub same_offer : (e o : List ℕ) → ((i : ℕ) → i < short_size → get_or e i 0 ≡ get_or o i 0) → bad_offer e ≡ bad_offer o
unfolding any
same_offer e o h = rw (h 0 (omega arith), h 1 (omega arith), h 3 (omega arith), h 13 (omega arith), h 12 (omega arith), h 2 (omega arith))

module _ (at : ℕ) (p : Part) (s : length p.offer ≡ 16) where
  length_entry : length (entry_of at p) ≡ entry_size
  length_entry = simp length-append (omega arith)

  entry_offset_lem : at < 256 ^ 4 → offset_in (entry_of at p) ≡ at
  entry_offset_lem h = ap number (bytes_after 4 0 16 16 p.offer (bytes_of 4 at ++ bytes_of 4 (length (body_of p))) s (omega arith)) ∙ round 4 at h

  entry_length : length (body_of p) < 256 ^ 4 → length_in (entry_of at p) ≡ length (body_of p)
  entry_length h = ap number (bytes_after 4 4 16 20 p.offer (bytes_of 4 at ++ bytes_of 4 (length (body_of p))) s (omega arith)) ∙ round 4 (length (body_of p)) h

  entry_byte : (i : ℕ) → i < 16 → get_or (entry_of at p) i 0 ≡ get_or p.offer i 0
  entry_byte i h = get_or-append p.offer (bytes_of 4 at ++ bytes_of 4 (length (body_of p))) 0 i (omega arith)

  entry_offer : bad_offer (entry_of at p) ≡ bad_offer p.offer
  entry_offer = same_offer (entry_of at p) p.offer entry_byte

-- the table is its entries

table_entries : (at : ℕ) (ps : List Part) (rest : List ℕ) → All GoodPart ps → entries_from (length ps) (table_bytes at ps ++ rest) ≡ entries_of at ps
unfolding entries_from table_bytes entries_of
table_entries at [] rest g = refl
table_entries at (p ∷ ps) rest g =
    let t = table_bytes (at + length (body_of p)) ps in
    let l = length_entry at p g.0.packet.size in
    let e : (p.offer ++ (bytes_of 4 at ++ (bytes_of 4 (length (body_of p)) ++ t))) ++ rest ≡ entry_of at p ++ (t ++ rest) = simp append_assoc in
    rw e
    (ap₂ (λ (x : List ℕ) (xs : List (List ℕ)). x ∷ xs) (take_at (entry_of at p) (t ++ rest) entry_size l)
    (ap (entries_from (length ps)) (drop_at (entry_of at p) (t ++ rest) entry_size l) ∙ table_entries (at + length (body_of p)) ps rest g.1))

-- each offer has its 16 bytes
abbrev pub Sized : List Part → Type 0
Sized ps = All (λ (p : Part). length p.offer ≡ short_size) ps

sized : (ps : List Part) → All GoodPart ps → Sized ps
sized [] g = tt
sized (p ∷ ps) g = (g.0.packet.size, sized ps g.1)

length_table : (at : ℕ) (ps : List Part) → Sized ps → length (table_bytes at ps) ≡ entry_size * length ps
unfolding table_bytes
length_table at [] g = refl
length_table at (p ∷ ps) g =
    let ih = length_table (at + length (body_of p)) ps g.1 in
    let s = g.0 in
    simp length-append (omega arith)

-- how long the bundle of a layout is
pub bundle_length : (ps : List Part) → Sized ps → length (bundle_bytes ps) ≡ table_end (length ps) + length (flatten (map body_of ps))
unfolding bundle_bytes
bundle_length ps g =
    let l = length_table (table_end (length ps)) ps g in
    let m = length-append (table_bytes (table_end (length ps)) ps) (flatten (map body_of ps)) in omega arith

-- row B5

all_offers : (at k : ℕ) (ps : List Part) → All GoodPart ps → first_entry bad_offer k (entries_of at ps) ≡ 0
unfolding first_entry entries_of
all_offers at k [] g = refl
all_offers at k (p ∷ ps) g = rw (entry_offer at p g.0.packet.size, g.0.offer) (all_offers (at + length (body_of p)) (suc k) ps g.1)

-- row B6

distinct : (seen : List ℕ) (k : ℕ) (es : List (List ℕ)) → ((i : ℕ) → i < length es → any (eqb (id_in (get_or es i []))) seen ≡ false)
    → ((i j : ℕ) → i < j → j < length es → id_in (get_or es i []) ≡ id_in (get_or es j []) → ⊥) → repeated seen k es ≡ 0
unfolding repeated any
distinct seen k [] f d = refl
distinct seen k (e ∷ es) f d =
    rw (f 0 (omega arith))
    (distinct (id_in e ∷ seen) (suc k) es
    (λ i l. rw (ne_eqb (id_in (get_or es i [])) (id_in e) (λ z. d 0 (suc i) (omega arith) (omega arith) (sym z))) (f (suc i) (omega arith)))
    (λ i j l m z. d (suc i) (suc j) (omega arith) (omega arith) z))

length_entries : (at : ℕ) (ps : List Part) → length (entries_of at ps) ≡ length ps
unfolding entries_of
length_entries at [] = refl
length_entries at (p ∷ ps) = ap suc (length_entries (at + length (body_of p)) ps)

entry_id : (at : ℕ) (ps : List Part) (i : ℕ) → All GoodPart ps → id_in (get_or (entries_of at ps) i []) ≡ id_in (get_or (map (λ p. p.offer) ps) i [])
unfolding entries_of
entry_id at [] i g = refl
entry_id at (p ∷ ps) zero g = entry_byte at p g.0.packet.size 2 (omega arith)
entry_id at (p ∷ ps) (suc i) g = entry_id (at + length (body_of p)) ps i g.1

-- row B7

chained : (size at k : ℕ) (ps : List Part) → All GoodPart ps → size < 256 ^ 4 → at + length (flatten (map body_of ps)) ≡ size → gap size at k (entries_of at ps) ≡ 0
unfolding gap entries_of flatten
chained size at k [] g f e = rw (eq-eqb at size (omega arith))
chained size at k (p ∷ ps) g f e =
    let l = length-append (body_of p) (flatten (map body_of ps)) in
    let s = g.0.packet.size in
    rw (entry_offset_lem at p s (omega arith), eq-eqb at at refl, entry_length at p s (omega arith))
    (chained size (at + length (body_of p)) (suc k) ps g.1 f (omega arith))

-- row B8

parses : (p : Part) → GoodPart p → is_bad (records_of (body_of p)) ≡ false
parses p g = rw (written_reads p.blocks g.sound) (go p.blocks g.some) where
  go : (rs : List Block) → 0 < length rs → is_bad (whole rs) ≡ false
  go [] h = absurd (not-suc-le-zero h)
  go (r ∷ rs) h = refl

-- the body of an entry, and what follows it
body_back : (b : List ℕ) (at : ℕ) (p : Part) (j : List ℕ) → length p.offer ≡ short_size → at < 256 ^ 4 → length (body_of p) < 256 ^ 4
    → drop at b ≡ body_of p ++ j → body_in b (entry_of at p) ≡ body_of p
unfolding body_in
body_back b at p j s h k d = rw (entry_offset_lem at p s h, entry_length at p s k, d, take_at (body_of p) j (length (body_of p)) refl)

rest_back : (b : List ℕ) (at : ℕ) (w j : List ℕ) → drop at b ≡ w ++ j → drop (at + length w) b ≡ j
rest_back b at w j d = sym (drop-drop (length w) at b) ∙ ap (drop (length w)) d ∙ drop_at w j (length w) refl

all_parse : (b : List ℕ) (at k : ℕ) (ps : List Part) → All GoodPart ps → length b < 256 ^ 4 → at + length (flatten (map body_of ps)) ≡ length b → drop at b ≡ flatten (map body_of ps)
    → first_entry (bad_body b) k (entries_of at ps) ≡ 0
unfolding first_entry entries_of flatten
all_parse b at k [] g f e d = refl
all_parse b at k (p ∷ ps) g f e d =
    let w = body_of p in
    let j = flatten (map body_of ps) in
    let l = length-append w j in
    rw (body_back b at p j g.0.packet.size (omega arith) (omega arith) d, parses p g.0)
    (all_parse b (at + length w) (suc k) ps g.1 f (omega arith) (rest_back b at w j d))

-- what is read back: the offers, and the records of each body

offers_back : (at : ℕ) (ps : List Part) → All GoodPart ps → map offer_in (entries_of at ps) ≡ map (λ p. p.offer) ps
unfolding entries_of
offers_back at [] g = refl
offers_back at (p ∷ ps) g =
    ap₂ (λ (x : List ℕ) (xs : List (List ℕ)). x ∷ xs) (take_at p.offer (bytes_of 4 at ++ bytes_of 4 (length (body_of p))) short_size g.0.packet.size)
    (offers_back (at + length (body_of p)) ps g.1)

records_back : (b : List ℕ) (at : ℕ) (ps : List Part) → All GoodPart ps → length b < 256 ^ 4 → at + length (flatten (map body_of ps)) ≡ length b
    → drop at b ≡ flatten (map body_of ps) → map (blocks_in b) (entries_of at ps) ≡ map (λ p. p.blocks) ps
unfolding entries_of flatten
records_back b at [] g f e d = refl
records_back b at (p ∷ ps) g f e d =
    let w = body_of p in
    let j = flatten (map body_of ps) in
    let l = length-append w j in
    let r : body_in b (entry_of at p) ≡ w = body_back b at p j g.0.packet.size (omega arith) (omega arith) d in
    ap₂ (λ (x : List Block) (xs : List (List Block)). x ∷ xs)
    (ap (λ (x : List ℕ). blocks_of (records_of x)) r ∙ ap blocks_of (written_reads p.blocks g.0.sound))
    (records_back b (at + length w) ps g.1 f (omega arith) (rest_back b at w j d))

-- the bytes of a layout are bytes

written_bytes : (rs : List Block) → All Sound rs → Bytes (written rs)
unfolding written
written_bytes [] s = no_bytes
written_bytes (r ∷ rs) s =
    let h = s.0 in
    let d = length r.bytes ∷ r.bytes in
    join_bytes (block_bytes r) (written rs)
    (join_bytes (bytes_of 4 r.address.0) d (word_bytes 4 r.address.0) (cons_bytes (length r.bytes) r.bytes (omega (arith, h.few)) h.bytes))
    (written_bytes rs s.1)

bodies_bytes_lem : (ps : List Part) → All GoodPart ps → Bytes (flatten (map body_of ps))
unfolding flatten
bodies_bytes_lem [] g = no_bytes
bodies_bytes_lem (p ∷ ps) g = join_bytes (body_of p) (flatten (map body_of ps)) (written_bytes p.blocks g.0.sound) (bodies_bytes_lem ps g.1)

table_bytes_lem : (at : ℕ) (ps : List Part) → All GoodPart ps → Bytes (table_bytes at ps)
unfolding table_bytes
table_bytes_lem at [] g = no_bytes
table_bytes_lem at (p ∷ ps) g =
    let size = bytes_of 4 (length (body_of p)) in
    let rest = table_bytes (at + length (body_of p)) ps in
    join_bytes p.offer (bytes_of 4 at ++ (size ++ rest)) g.0.packet.bytes
    (join_bytes (bytes_of 4 at) (size ++ rest) (word_bytes 4 at)
    (join_bytes size rest (word_bytes 4 (length (body_of p))) (table_bytes_lem (at + length (body_of p)) ps g.1)))

zero_bytes : (n : ℕ) → Bytes (replicate n 0)
zero_bytes zero = no_bytes
zero_bytes (suc n) = cons_bytes 0 (replicate n 0) (omega arith) (zero_bytes n)

-- the bundle of a layout

module _ (ps : List Part) (g : All GoodPart ps) where
  pub bundle_bytes_lem : length ps ≤ offer_limit → Bytes (bundle_bytes ps)
  unfolding bundle_bytes
  bundle_bytes_lem h =
      let table = table_bytes (table_end (length ps)) ps in
      let bodies = flatten (map body_of ps) in
      let rest = replicate 6 0 ++ (table ++ bodies) in
      cons_bytes (length ps) (1 ∷ rest) (omega arith)
      (cons_bytes 1 rest (omega arith)
      (join_bytes (replicate 6 0) (table ++ bodies) (zero_bytes 6) (join_bytes table bodies (table_bytes_lem (table_end (length ps)) ps g) (bodies_bytes_lem ps g))))

  bundle_entries : entries_in (bundle_bytes ps) ≡ entries_of (table_end (length ps)) ps
  unfolding bundle_bytes entries_in
  bundle_entries = table_entries (table_end (length ps)) ps (flatten (map body_of ps)) g

  bundle_bodies : drop (table_end (length ps)) (bundle_bytes ps) ≡ flatten (map body_of ps)
  unfolding bundle_bytes
  bundle_bodies =
      let at = table_end (length ps) in
      sym (drop-drop (entry_size * length ps) head_size (bundle_bytes ps))
      ∙ drop_at (table_bytes at ps) (flatten (map body_of ps)) (entry_size * length ps) (length_table at ps (sized ps g))

  -- the offers and the records of a layout are read back

  pub layout_offers : map offer_in (entries_in (bundle_bytes ps)) ≡ map (λ p. p.offer) ps
  layout_offers = ap (map offer_in) bundle_entries ∙ offers_back (table_end (length ps)) ps g

  pub layout_records : length (bundle_bytes ps) ≤ bundle_limit → map (blocks_in (bundle_bytes ps)) (entries_in (bundle_bytes ps)) ≡ map (λ p. p.blocks) ps
  layout_records h =
      ap (map (blocks_in (bundle_bytes ps))) bundle_entries
      ∙ records_back (bundle_bytes ps) (table_end (length ps)) ps g (omega arith) (sym (bundle_length ps (sized ps g))) bundle_bodies

  -- no row applies to it

  row_1 : length (bundle_bytes ps) ≤ bundle_limit → bad_length (bundle_bytes ps) ≡ false
  row_1 h = let l = bundle_length ps (sized ps g) in rw (le-ltb (length (bundle_bytes ps)) head_size (omega arith), le-ltb bundle_limit (length (bundle_bytes ps)) h)

  row_2 : bad_head (bundle_bytes ps) ≡ false
  unfolding bundle_bytes any
  row_2 = refl

  row_3 : 1 ≤ length ps → length ps ≤ offer_limit → bad_count (bundle_bytes ps) ≡ false
  unfolding bundle_bytes
  row_3 h k = rw (le-ltb (length ps) 1 h, le-ltb offer_limit (length ps) k)

  row_4 : cut_table (bundle_bytes ps) ≡ false
  unfolding bundle_bytes
  row_4 = let l = bundle_length ps (sized ps g) in le-ltb (length (bundle_bytes ps)) (table_end (length ps)) (omega arith)

  row_5 : row_b5 (bundle_bytes ps) ≡ 0
  unfolding row_b5
  row_5 = rw bundle_entries (all_offers (table_end (length ps)) 1 ps g)

  row_6 : ((i j : ℕ) → i < j → j < length ps → id_in (get_or (map (λ p. p.offer) ps) i []) ≡ id_in (get_or (map (λ p. p.offer) ps) j []) → ⊥) → row_b6 (bundle_bytes ps) ≡ 0
  unfolding row_b6 any
  row_6 apart =
      let at = table_end (length ps) in
      rw bundle_entries
      (distinct [] 1 (entries_of at ps) (λ i l. refl)
      (λ i j l m z. apart i j l (rw (length_entries at ps) at m) (sym (entry_id at ps i g) ∙ z ∙ entry_id at ps j g)))

  row_7 : length (bundle_bytes ps) ≤ bundle_limit → row_b7 (bundle_bytes ps) ≡ 0
  unfolding row_b7 bundle_bytes
  row_7 h = rw bundle_entries (chained (length (bundle_bytes ps)) (table_end (length ps)) 1 ps g (omega arith) (sym (bundle_length ps (sized ps g))))

  row_8 : length (bundle_bytes ps) ≤ bundle_limit → row_b8 (bundle_bytes ps) ≡ 0
  unfolding row_b8
  row_8 h = rw bundle_entries (all_parse (bundle_bytes ps) (table_end (length ps)) 1 ps g (omega arith) (sym (bundle_length ps (sized ps g))) bundle_bodies)

pub layout_accepted : LayoutAccepted
unfolding bundle_row first_of
layout_accepted ps some most g apart fits =
    rw (row_1 ps g fits, row_2 ps g, row_3 ps g some most, row_4 ps g, row_5 ps g, row_6 ps g apart, row_7 ps g fits, row_8 ps g fits)
