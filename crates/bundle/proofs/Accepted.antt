-- What holds of a bundle that the check accepts: its count, its entries, their ids, and the records of each body. Assumes nothing.
use mathlib.Core.Path.{◌≡◌, refl, sym, ◌∙◌}
use mathlib.Core.Bool.{Bool, true, false, true≢false, not, cond, ◌||◌, ◌&&◌}
use mathlib.Core.List.{List, [], ◌∷◌}
use Prim.Native.Nat.{ℕ, zero, suc, ◌+◌, ◌*◌, ◌-◌, ◌≤◌, ◌<◌}
use native.Mathlib.Nat.{not-suc-le-zero, le_of_suc-le-suc}
use native.Mathlib.Omega.{arith}
use borrow.Author.Tests.{ltb-false, leb-true, eqb-false}
use lib.Dec.{ltb, leb, eqb}
use lib.ListN.{length, get_or, take, drop, length-take, length-drop}
use Rattle.wire.specs.Codes.{id_limit}
use Rattle.wire.specs.Bytes.{Packet, Bytes, number, bytes_at}
use Rattle.wire.specs.Checks.{first_of, any}
use Rattle.wire.proofs.Bounds.{first_bytes, rest_bytes}
use Rattle.wire.proofs.Tests.{both, neither, equal}
use Rattle.bundle_records.specs.Record.{Block, head_in, is_sound, block_in, rest_of}
use Rattle.bundle_records.specs.Parse.{Parsed, whole, broken, more, after, parse, records_of, blocks_of}
use Rattle.bundle_records.specs.declared.Head.{Head}
use Rattle.bundle_records.specs.declared.Head.TheVariants.{Empty, Cut, Whole}
use Rattle.bundle_layout.specs.Layout.{entry_size, head_size, bundle_limit, offer_limit, count_in, table_end, entries_from, entries_in, id_in, offset_in, length_in, body_in}
use Rattle.bundle_layout.specs.Rows.{served, row_b, bad_length, bad_count, bad_offer, bad_body, is_bad, repeated, cut_table, bad_head, named, row_b5, row_b6, row_b7, row_b8, bundle_row}
use Rattle.bundle.specs.Contents.{blocks_in}
use Rattle.bundle.proofs.table.Laws.{length_entries, entry_is, skips}
pub use Rattle.bundle.proofs.table.Laws.{none_of}
use Rattle.bundle.proofs.chain.Laws.{bodies_inside}

-- a test that does not apply, and the tests after it, where they answer what it does not
pub passes : {A : Type 0} (t : Bool) (x rest last : A) → (x ≡ last → ⊥) → cond t x rest ≡ last → (t ≡ false) × (rest ≡ last)
passes true x rest last n h = absurd (n h)
passes false x rest last n h = (refl, h)

-- a row that refuses is not served
refused : (k e : ℕ) → row_b k e ≡ served → ⊥
refused k e h = let z : ◌≡◌ {A = ℕ} 0 1 = cc in absurd (omega arith)

-- what the rows say of a bundle that none refuses
pub record Passes (b : List ℕ) : Type 0 where
  pub b1 : bad_length b ≡ false
  pub b3 : bad_count b ≡ false
  pub b4 : cut_table b ≡ false
  pub b5 : row_b5 b ≡ 0
  pub b6 : row_b6 b ≡ 0
  pub b7 : row_b7 b ≡ 0
  pub b8 : row_b8 b ≡ 0

-- a bundle that is served passes every row
pub rows_pass : (b : List ℕ) → bundle_row b ≡ served → Passes b
unfolding bundle_row first_of
rows_pass b h =
    let p1 = passes (bad_length b) (row_b 1 0) _ served (refused 1 0) h in
    let p2 = passes (bad_head b) (row_b 2 0) _ served (refused 2 0) p1.1 in
    let p3 = passes (bad_count b) (row_b 3 0) _ served (refused 3 0) p2.1 in
    let p4 = passes (cut_table b) (row_b 4 0) _ served (refused 4 0) p3.1 in
    let p5 = passes (named (row_b5 b)) (row_b 5 (row_b5 b)) _ served (refused 5 (row_b5 b)) p4.1 in
    let p6 = passes (named (row_b6 b)) (row_b 6 (row_b6 b)) _ served (refused 6 (row_b6 b)) p5.1 in
    let p7 = passes (named (row_b7 b)) (row_b 7 (row_b7 b)) _ served (refused 7 (row_b7 b)) p6.1 in
    let p8 = passes (named (row_b8 b)) (row_b 8 (row_b8 b)) _ served (refused 8 (row_b8 b)) p7.1 in
    record {
      b1 = p1.0;
      b3 = p3.0;
      b4 = p4.0;
      b5 = equal (row_b5 b) 0 p5.0;
      b6 = equal (row_b6 b) 0 p6.0;
      b7 = equal (row_b7 b) 0 p7.0;
      b8 = equal (row_b8 b) 0 p8.0;
    }

-- entry i has none of the ids seen, where the search names none
unseen : (seen : List ℕ) (k : ℕ) (es : List (List ℕ)) (i : ℕ) → repeated seen (suc k) es ≡ 0 → i < length es → any (eqb (id_in (get_or es i []))) seen ≡ false
unfolding repeated any
unseen seen k [] i h l = absurd (not-suc-le-zero l)
unseen seen k (e ∷ es) zero h l = (skips (any (eqb (id_in e)) seen) k _ h).0
unseen seen k (e ∷ es) (suc i) h l =
    (neither (eqb (id_in (get_or es i [])) (id_in e)) _ (unseen (id_in e ∷ seen) (suc k) es i (skips (any (eqb (id_in e)) seen) k _ h).1 (le_of_suc-le-suc l))).1

-- the ids of two entries differ, where the search names none
pub apart : (seen : List ℕ) (k : ℕ) (es : List (List ℕ)) (i j : ℕ) → repeated seen (suc k) es ≡ 0 → i < j → j < length es
    → id_in (get_or es i []) ≡ id_in (get_or es j []) → ⊥
unfolding repeated any
apart seen k [] i j h m l = absurd (not-suc-le-zero l)
apart seen k (e ∷ es) i zero h m l = absurd (not-suc-le-zero m)
apart seen k (e ∷ es) zero (suc j) h m l = λ q.
    eqb-false (id_in (get_or es j [])) (id_in e) (neither (eqb (id_in (get_or es j [])) (id_in e)) _ (unseen (id_in e ∷ seen) (suc k) es j (skips (any (eqb (id_in e)) seen) k _ h).1 (le_of_suc-le-suc l))).0 (sym q)
apart seen k (e ∷ es) (suc i) (suc j) h m l =
    apart (id_in e ∷ seen) (suc k) es i j (skips (any (eqb (id_in e)) seen) k _ h).1 (le_of_suc-le-suc m) (le_of_suc-le-suc l)

-- the entries of a table are of ENTRY bytes each
pub entries_size : (n : ℕ) (q : List ℕ) → entry_size * n ≤ length q → (i : ℕ) → i < n → length (get_or (entries_from n q) i []) ≡ entry_size
unfolding entries_from
entries_size zero q l i m = absurd (not-suc-le-zero m)
entries_size (suc n) q l zero m = length-take entry_size q ∙ omega arith
entries_size (suc n) q l (suc i) m = entries_size n (drop entry_size q) (omega (arith, length-drop entry_size q)) i (le_of_suc-le-suc m)

pub entries_bytes : (n : ℕ) (q : List ℕ) → Bytes q → (i : ℕ) → i < n → Bytes (get_or (entries_from n q) i [])
unfolding entries_from
entries_bytes zero q h i m = absurd (not-suc-le-zero m)
entries_bytes (suc n) q h zero m = first_bytes entry_size q h
entries_bytes (suc n) q h (suc i) m = entries_bytes n (drop entry_size q) (rest_bytes entry_size q h) i (le_of_suc-le-suc m)

-- a record that content can carry: 1 to 52 bytes
pub record Carried (r : Block) : Type 0 where
  pub some : 1 ≤ length r.bytes
  pub few : length r.bytes ≤ 52

-- what stands at the start of a body is a record that content can carry, if it is whole
abbrev Starts : List ℕ → Head → Type 0
Starts body Empty = Unit {0}
Starts body Cut = Unit {0}
Starts body (Whole address size) = Carried (block_in address size body)

-- so it is for every body
starts : (body : List ℕ) → Starts body (head_in body)
unfolding head_in
starts body = empty (eqb (length body) 0)
  where
    sound : (t : Bool) → is_sound (get_or body 4 0) (length body - 5) ≡ t
        → Starts body (cond t (Whole (record { 0 = number (bytes_at 4 0 body) }) (get_or body 4 0)) Cut)
    sound true h =
        let p = both (leb 1 (get_or body 4 0) && leb (get_or body 4 0) 52) (leb (get_or body 4 0) (length body - 5)) h in
        let q = both (leb 1 (get_or body 4 0)) (leb (get_or body 4 0) 52) p.0 in
        let e : length (take (get_or body 4 0) (drop 5 body)) ≡ get_or body 4 0 =
        length-take (get_or body 4 0) (drop 5 body) ∙ omega (arith, length-drop 5 body, leb-true (get_or body 4 0) (length body - 5) p.1) in
        record { some = omega (arith, e, leb-true 1 (get_or body 4 0) q.0); few = omega (arith, e, leb-true (get_or body 4 0) 52 q.1) }
    sound false h = tt

    short : (t : Bool) → Starts body (cond t Cut (cond (is_sound (get_or body 4 0) (length body - 5)) (Whole (record { 0 = number (bytes_at 4 0 body) }) (get_or body 4 0)) Cut))
    short true = tt
    short false = sound (is_sound (get_or body 4 0) (length body - 5)) refl

    empty : (t : Bool) → Starts body (cond t Empty (cond (ltb (length body) 5) Cut (cond (is_sound (get_or body 4 0) (length body - 5)) (Whole (record { 0 = number (bytes_at 4 0 body) }) (get_or body 4 0)) Cut)))
    empty true = tt
    empty false = short (ltb (length body) 5)

-- what is said of the records that are parsed: at most so many, each one that content can carry
pub record Carries (most : ℕ) (rs : List Block) : Type 0 where
  pub count : length rs ≤ most
  pub each : (i : ℕ) (none : Block) → i < length rs → Carried (get_or rs i none)

-- no record at all
no_records : (most : ℕ) → Carries most []
no_records most = record { count = omega arith; each = λ i none l. absurd (not-suc-le-zero l) }

-- one more in front
one_more : (most : ℕ) (r : Block) (rest : Parsed) → Carried r → Carries most (blocks_of rest) → Carries (suc most) (blocks_of (more r rest))
one_more most r broken c h = no_records (suc most)
one_more most r (whole rs) c h = record { count = omega arith; each = each }
  where
    each : (i : ℕ) (none : Block) → i < suc (length rs) → Carried (get_or (r ∷ rs) i none)
    each zero none l = c
    each (suc i) none l = h.each i none (le_of_suc-le-suc l)

-- the records of a body
parsed : (fuel : ℕ) (body : List ℕ) → Carries fuel (blocks_of (parse fuel body))
unfolding parse
parsed zero body = no_records zero
parsed (suc fuel) body = go (head_in body) (starts body) (λ rest. parsed fuel rest)
  where
    go : (x : Head) → Starts body x → ((rest : List ℕ) → Carries fuel (blocks_of (parse fuel rest))) → Carries (suc fuel) (blocks_of (after (parse fuel) body x))
    go Empty s f = no_records (suc fuel)
    go Cut s f = no_records (suc fuel)
    go (Whole address size) s f = one_more fuel (block_in address size body) (parse fuel (rest_of size body)) s (f (rest_of size body))

-- a body that B8 passes has a record
some_records : (p : Parsed) → is_bad p ≡ false → 1 ≤ length (blocks_of p)
some_records (whole []) h = absurd (true≢false h)
some_records (whole (r ∷ rs)) h = omega arith
some_records broken h = absurd (true≢false h)

-- an offer that B5 passes
pub record Offered (e : List ℕ) : Type 0 where
  pub segment : get_or e 0 0 ≡ 0
  pub flags : get_or e 1 0 ≡ 0
  pub token : get_or e 3 0 ≡ 0
  pub reserved : get_or e 13 0 ≡ 0
  pub protocol : get_or e 12 0 ≡ 2
  pub low : 1 ≤ id_in e
  pub high : id_in e ≤ id_limit

-- what B5 says of an offer that it passes
offered : (e : List ℕ) → bad_offer e ≡ false → Offered e
unfolding any
offered e h =
    let p = neither (not (eqb (get_or e 0 0) 0) || (not (eqb (get_or e 1 0) 0) || (not (eqb (get_or e 3 0) 0) || (not (eqb (get_or e 13 0) 0) || false)))) _ h in
    let b0 = neither (not (eqb (get_or e 0 0) 0)) _ p.0 in
    let b1 = neither (not (eqb (get_or e 1 0) 0)) _ b0.1 in
    let b3 = neither (not (eqb (get_or e 3 0) 0)) _ b1.1 in
    let b13 = neither (not (eqb (get_or e 13 0) 0)) _ b3.1 in
    let q = neither (not (eqb (get_or e 12 0) 2)) _ p.1 in
    let r = neither (ltb (id_in e) 1) (ltb id_limit (id_in e)) q.1 in
    record {
      segment = equal _ 0 b0.0;
      flags = equal _ 0 b1.0;
      token = equal _ 0 b3.0;
      reserved = equal _ 0 b13.0;
      protocol = equal _ 2 q.0;
      low = ltb-false (id_in e) 1 r.0;
      high = ltb-false id_limit (id_in e) r.1;
    }

-- entry i of a bundle
abbrev entry : List ℕ → ℕ → List ℕ
entry b i = get_or (entries_in b) i []

-- what is known of a bundle that is accepted
pub record Accepted (b : List ℕ) : Type 0 where
  pub some : 1 ≤ count_in b
  pub few : count_in b ≤ offer_limit
  pub entries : length (entries_in b) ≡ count_in b
  pub table : table_end (count_in b) ≤ length b
  pub places : (i : ℕ) → i < count_in b → get_or (entries_in b) i [] ≡ take entry_size (drop (table_end i) b)
  pub packet : (i : ℕ) → i < count_in b → Packet entry_size (get_or (entries_in b) i [])
  pub offer : (i : ℕ) → i < count_in b → Offered (get_or (entries_in b) i [])
  pub ids : (i j : ℕ) → i < count_in b → j < count_in b → id_in (get_or (entries_in b) i []) ≡ id_in (get_or (entries_in b) j []) → i ≡ j
  pub inside : (i : ℕ) → i < count_in b → offset_in (get_or (entries_in b) i []) + length_in (get_or (entries_in b) i []) ≤ length b
  pub records : (i : ℕ) → i < count_in b → 1 ≤ length (blocks_in b (get_or (entries_in b) i []))
  pub carries : (e : List ℕ) → Carries bundle_limit (blocks_in b e)

-- all of it follows from the rows
pub accepted : (b : List ℕ) → Bytes b → bundle_row b ≡ served → Accepted b
unfolding row_b5 row_b6 row_b8 entries_in body_in
accepted b bytes h =
    let p = rows_pass b h in
    let size = neither (ltb (length b) head_size) (ltb bundle_limit (length b)) p.b1 in
    let count = neither (ltb (count_in b) 1) (ltb offer_limit (count_in b)) p.b3 in
    let most : length b ≤ bundle_limit = ltb-false bundle_limit (length b) size.1 in
    let table : table_end (count_in b) ≤ length b = ltb-false (length b) (table_end (count_in b)) p.b4 in
    let es : length (entries_from (count_in b) (drop head_size b)) ≡ count_in b = length_entries b in
    record {
      some = ltb-false (count_in b) 1 count.0;
      few = ltb-false offer_limit (count_in b) count.1;
      entries = es;
      table = table;
      places = entry_is b;
      packet = λ i l. record {
        size = entries_size (count_in b) (drop head_size b) (omega (arith, length-drop head_size b)) i l;
        bytes = entries_bytes (count_in b) (drop head_size b) (rest_bytes head_size b bytes) i l;
      };
      offer = λ i l. offered (entry b i) (none_of bad_offer 0 (entries_in b) i p.b5 (omega arith));
      ids = λ i j l m e. ids p.b6 i j (omega arith) (omega arith) e;
      inside = λ i l. rw (entry_is b i l) (bodies_inside b p.b7 i l);
      records = λ i l. some_records (records_of (body_in b (entry b i))) (none_of (bad_body b) 0 (entries_in b) i p.b8 (omega arith));
      carries = λ e. shorter (body_in b e) (omega (arith, length-take (number (bytes_at 4 20 e)) (drop (number (bytes_at 4 16 e)) b), length-drop (number (bytes_at 4 16 e)) b));
    }
  where
    ids : row_b6 b ≡ 0 → (i j : ℕ) → i < length (entries_in b) → j < length (entries_in b) → id_in (entry b i) ≡ id_in (entry b j) → i ≡ j
    ids h i j l m e =
        let f : i < j → ⊥ = λ q. apart [] 0 (entries_in b) i j h q m e in
        let g : j < i → ⊥ = λ q. apart [] 0 (entries_in b) j i h q l (sym e) in omega arith

    shorter : (body : List ℕ) → length body ≤ bundle_limit → Carries bundle_limit (blocks_of (records_of body))
    shorter body l = let c = parsed (length body) body in record { count = omega (arith, c.count); each = c.each }
