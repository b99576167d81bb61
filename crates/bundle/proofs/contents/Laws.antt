-- What row B8 and the contents table use of an entry. Assumes nothing.
use mathlib.Core.Path.{◌≡◌, refl, sym, ap, ◌∙◌}
use mathlib.Core.Bool.{false, not, ◌||◌}
use mathlib.Core.List.{List, [], ◌∷◌, ◌++◌, append_assoc, map, map-append}
use Prim.Native.Nat.{ℕ, suc, ◌+◌, ◌-◌, ◌≤◌, ◌<◌}
use native.Mathlib.Numerals.{add-one}
use native.Mathlib.Omega.{arith}
use borrow.Author.Tests.{le-leb, ne_eqb}
use lib.Dec.{eqb, ltb}
use lib.ListN.{length, get_or, set, take, drop, replicate, length-take, length-drop, length-map}
use lib.Seq.{set_at, length-take-le}
use Rattle.wire.specs.Checks.{any}
use Rattle.wire.specs.Codes.{protocol_number, id_limit}
use Rattle.wire.specs.Rows.{served, Told}
use Rattle.wire_offer.specs.declared.offer.OfferFields.{OfferFields}
use Rattle.wire_offer.specs.declared.kind.OfferPacket.{OfferPacket}
use Rattle.wire_offer.specs.declared.kind.OfferPacket.TheVariants.{Offer, Information, Extended}
use Rattle.std.specs.Prelude.{Result, Ok, Err}
use Rattle.wire.specs.declared.verdict.PacketRefusal.{PacketRefusal}
use Rattle.wire_offer.specs.Offer.{fields_in}
use Rattle.wire_offer.specs.Kind.{Kind, offer, kind_in, read_of, told_read}
use Rattle.std.specs.Prelude.{Option, Some, None}
use Rattle.bundle_records.specs.Parse.{Parsed, whole, broken, records_of, blocks_of, tally_from}
use Rattle.bundle_records.specs.Walk.{tally_of}
use Rattle.bundle_records.proofs.Parsing.{few_records}
use Rattle.bundle_layout.specs.Layout.{count_in, entries_in, id_in}
use Rattle.bundle_layout.specs.Rows.{bad_offer, is_bad}
use Rattle.bundle_layout.specs.Layout.{blank_entry}
use Rattle.bundle.specs.Contents.{entry_in}
use Rattle.wire.proofs.Tests.{neither}
use Rattle.bundle.proofs.Limits.{inside}
use Rattle.bundle.proofs.table.Laws.{entry_at, length_entries, take_more}

-- the offer

-- an id that row B5 allows
pub good_id : (e : List ℕ) → bad_offer e ≡ false → id_in e ≤ id_limit
good_id e h =
    let outside = ltb (id_in e) 1 || ltb id_limit (id_in e) in
    let other = not (eqb (get_or e 12 0) protocol_number) in
    let nonzero = any (λ (i : ℕ). not (eqb (get_or e i 0) 0)) (0 ∷ 1 ∷ 3 ∷ 13 ∷ []) in
    (inside 1 id_limit (id_in e) (neither other outside (neither nonzero (other || outside) h).1).1).1

-- sixteen bytes with such an id are an offer
pub read_offer : (p : List ℕ) → length p ≡ 16 → id_in p ≤ id_limit → read_of p ≡ record { row = served; value = offer (fields_in p) }
unfolding read_of kind_in
read_offer p l h = simp (l, ne_eqb (id_in p) 0xFF (λ z. omega arith), ne_eqb (id_in p) 0xFE (λ z. omega arith))

pub offer_told : (k : Result OfferPacket PacketRefusal) (o : OfferFields) → told_read k ≡ record { row = served; value = offer o } → k ≡ Ok (Offer o)
offer_told (Err e) o h = let x = ap (λ (t : Told Kind). t.row) h in cc
offer_told (Ok (Offer x)) o h = let e = ap (λ (t : Told Kind). t.value) h in cc
offer_told (Ok (Information s)) o h = let e = ap (λ (t : Told Kind). t.value) h in cc
offer_told (Ok (Extended s)) o h = let e = ap (λ (t : Told Kind). t.value) h in cc

-- the body

-- the records from a place on are those of the part
pub tallied : (b : List ℕ) (at size : ℕ) → at + size ≤ length b → tally_of b at (at + size) ≡ tally_from 0 (records_of (take size (drop at b)))
unfolding tally_of
tallied b at size h =
    let e : at + size - at ≡ size = omega arith in
    let l : at ≤ at + size = omega arith in
    rw (le-leb at (at + size) l, le-leb (at + size) (length b) h, e)

abbrev pub counted : Option ℕ → ℕ
counted None = 0
counted (Some n) = n

-- a tally counts the records that there are
pub counted_is : (p : Parsed) → counted (tally_from 0 p) ≡ length (blocks_of p)
counted_is (whole rs) = omega arith
counted_is broken = refl

-- there are no more of them than a bundle has bytes
pub counted_fits : (b : List ℕ) (at size limit : ℕ) → at + size ≤ length b → length b ≤ limit → length (blocks_of (records_of (take size (drop at b)))) ≤ limit
counted_fits b at size limit h k =
    let l = few_records (take size (drop at b)) in
    let m : length (take size (drop at b)) ≤ limit = simp (length-take, length-drop) (omega arith) in omega arith

-- a body is bad where no record is counted
pub bad_none : (p : Parsed) → is_bad p ≡ eqb (length (blocks_of p)) 0
bad_none (whole []) = refl
bad_none (whole (r ∷ rs)) = sym (ne_eqb (suc (length rs)) 0 (λ z. omega arith))
bad_none broken = refl

-- the table, and one entry more
pub fill_more : (b : List ℕ) (limit i : ℕ) → i < limit → i < count_in b
    → set (map (entry_in b) (take i (entries_in b)) ++ replicate (limit - i) blank_entry) i (entry_in b (entry_at b i))
    ≡ map (entry_in b) (take (i + 1) (entries_in b)) ++ replicate (limit - (i + 1)) blank_entry
fill_more b limit i h k =
    let es = entries_in b in
    let f = entry_in b in
    let r : limit - i ≡ suc (limit - suc i) = omega arith in
    let l : i ≤ length es = omega (arith, length_entries b) in
    let n : length (map f (take i es)) ≡ i = simp (length-map) (length-take-le i es l) in
    rw (add-one i, r, take_more b i k)
    (set_at (map f (take i es)) blank_entry (replicate (limit - suc i) blank_entry) (f (entry_at b i)) i n
    ∙ rw (map-append f (take i es) (entry_at b i ∷ [])) (sym (append_assoc (map f (take i es)) (f (entry_at b i) ∷ []) _)))
