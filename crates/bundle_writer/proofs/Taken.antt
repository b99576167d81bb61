-- What holds of a list and images that no row of the writer refuses: its count, its ids, and each of its entries with its image. Assumes nothing.
use mathlib.Core.Path.{◌≡◌, ◌∙◌}
use mathlib.Core.Bool.{true, false, not, ◌||◌}
use mathlib.Core.List.{List, [], ◌∷◌}
use Prim.Native.Nat.{ℕ, ◌+◌, ◌≤◌, ◌<◌}
use native.Mathlib.Omega.{arith}
use borrow.Author.Tests.{ltb-false, eqb-true, not-false}
use lib.Dec.{ltb, eqb}
use lib.ListN.{length, get_or, drop, length-take, length-drop}
use Rattle.wire.specs.Bytes.{Bytes}
use Rattle.wire.specs.Checks.{first_of, any}
use Rattle.wire.specs.Codes.{protocol_number, id_limit}
use Rattle.wire.specs.Version.{version_at}
use Rattle.wire.proofs.Tests.{both, neither, equal}
use Rattle.image.specs.Judge.{is_right, image_id, image_version}
use Rattle.device_component.specs.Setup.{staging_limit, region_least}
use Rattle.bundle_layout.specs.Layout.{bundle_limit, offer_limit, entry_size, id_in, offset_in, length_in}
use Rattle.bundle_layout.specs.Rows.{bad_offer, named}
use Rattle.bundle.proofs.Accepted.{passes, none_of, apart, entries_size, entries_bytes}
use Rattle.bundle_writer.proofs.list.Laws.{good_list}
pub use Rattle.bundle_writer.proofs.list.Laws.{length_entries}
use Rattle.bundle_given.specs.declared.EntryRule.{EntryRule}
use Rattle.bundle_given.specs.declared.EntryRule.TheVariants.{Offer, Lent, Crc, Bears}
use Rattle.bundle_given.specs.Given.{count_of, entries_of, image_at}
use Rattle.bundle_writer.specs.Bundle.{made_bundle}
use Rattle.bundle_given.specs.Entry.{bad_list, bad_lent, bears_offer, breaks}
use Rattle.bundle_writer.specs.Rows.{served, row_w, first_breaking, row_w3, write_row}

-- a row that refuses is not served
pub refused : (k e : ℕ) → row_w k e ≡ served → ⊥
refused k e h = let z : ◌≡◌ {A = ℕ} 0 1 = cc in absurd (omega arith)

-- what the rows say where none refuses
pub record Passes (list images : List ℕ) (room : ℕ) : Type 0 where
  pub w1 : bad_list list ≡ false
  pub w2 : first_breaking Offer list images ≡ 0
  pub w3 : row_w3 list ≡ 0
  pub w4 : first_breaking Lent list images ≡ 0
  pub w5 : first_breaking Crc list images ≡ 0
  pub w6 : first_breaking Bears list images ≡ 0
  pub w7 : length (made_bundle list images) ≤ bundle_limit
  pub w8 : length (made_bundle list images) ≤ room

pub rows_pass : (list images : List ℕ) (room : ℕ) → write_row list images room ≡ served → Passes list images room
unfolding write_row first_of
rows_pass list images room h =
    let first : EntryRule → ℕ = λ rule. first_breaking rule list images in
    let size = length (made_bundle list images) in
    let p1 = passes (bad_list list) (row_w 1 0) _ served (refused 1 0) h in
    let p2 = passes (named (first Offer)) (row_w 2 (first Offer)) _ served (refused 2 (first Offer)) p1.1 in
    let p3 = passes (named (row_w3 list)) (row_w 3 (row_w3 list)) _ served (refused 3 (row_w3 list)) p2.1 in
    let p4 = passes (named (first Lent)) (row_w 4 (first Lent)) _ served (refused 4 (first Lent)) p3.1 in
    let p5 = passes (named (first Crc)) (row_w 5 (first Crc)) _ served (refused 5 (first Crc)) p4.1 in
    let p6 = passes (named (first Bears)) (row_w 6 (first Bears)) _ served (refused 6 (first Bears)) p5.1 in
    let p7 = passes (ltb bundle_limit size) (row_w 7 0) _ served (refused 7 0) p6.1 in
    let p8 = passes (ltb room size) (row_w 8 0) _ served (refused 8 0) p7.1 in
    record {
      w1 = p1.0;
      w2 = equal (first Offer) 0 p2.0;
      w3 = equal (row_w3 list) 0 p3.0;
      w4 = equal (first Lent) 0 p4.0;
      w5 = equal (first Crc) 0 p5.0;
      w6 = equal (first Bears) 0 p6.0;
      w7 = ltb-false bundle_limit size p7.0;
      w8 = ltb-false room size p8.0;
    }

-- the entries of a list: how many (`length_entries`), and what each is

module _ (list : List ℕ) where
  pub entry_size_lem : (i : ℕ) → i < count_of list → length (get_or (entries_of list) i []) ≡ entry_size
  unfolding entries_of
  entry_size_lem i h = entries_size (count_of list) list (omega arith) i h

  pub entry_bytes_lem : Bytes list → (i : ℕ) → i < count_of list → Bytes (get_or (entries_of list) i [])
  unfolding entries_of
  entry_bytes_lem b i h = entries_bytes (count_of list) list b i h

-- an entry that no row refuses, with its image
pub record Taken (images e : List ℕ) : Type 0 where
  pub offer : bad_offer e ≡ false
  pub named : id_in e ≤ id_limit
  pub least : region_least ≤ length_in e
  pub most : length_in e ≤ staging_limit
  pub lent : offset_in e + length_in e ≤ length images
  pub size : length (image_at images e) ≡ length_in e
  pub crc : is_right (image_at images e) ≡ true
  pub version : (image_version (image_at images e)).0 ≡ (version_at 4 e).0
  pub id : image_id (image_at images e) ≡ id_in e

-- the id of an offer that B5 allows
id_named : (e : List ℕ) → bad_offer e ≡ false → id_in e ≤ id_limit
id_named e o =
    let p = neither (any (λ i. not (eqb (get_or e i 0) 0)) (0 ∷ 1 ∷ 3 ∷ 13 ∷ [])) _ o in
    let q = neither (not (eqb (get_or e 12 0) protocol_number)) _ p.1 in
    let r = neither (ltb (id_in e) 1) (ltb id_limit (id_in e)) q.1 in
    ltb-false id_limit (id_in e) r.1

taken : (images e : List ℕ) → bad_offer e ≡ false → bad_lent (length images) e ≡ false → not (is_right (image_at images e)) ≡ false
    → not (bears_offer (image_at images e) e) ≡ false → Taken images e
unfolding image_at
taken images e o l c b =
    let m = image_at images e in
    let p = neither (ltb (length_in e) region_least) (ltb staging_limit (length_in e) || ltb (length images) (offset_in e + length_in e)) l in
    let q = neither (ltb staging_limit (length_in e)) (ltb (length images) (offset_in e + length_in e)) p.1 in
    let lent : offset_in e + length_in e ≤ length images = ltb-false (length images) (offset_in e + length_in e) q.1 in
    let r = both (eqb (image_version m).0 (version_at 4 e).0) (eqb (image_id m) (id_in e)) (not-false (bears_offer m e) b) in
    record {
      offer = o;
      named = id_named e o;
      least = ltb-false (length_in e) region_least p.0;
      most = ltb-false staging_limit (length_in e) q.0;
      lent = lent;
      size = length-take (length_in e) (drop (offset_in e) images) ∙ omega (arith, length-drop (offset_in e) images);
      crc = not-false (is_right m) c;
      version = eqb-true (image_version m).0 (version_at 4 e).0 r.0;
      id = eqb-true (image_id m) (id_in e) r.1;
    }

-- what is known of a list and images that no row refuses
pub record Listed (list images : List ℕ) : Type 0 where
  pub some : 1 ≤ count_of list
  pub few : count_of list ≤ offer_limit
  pub entry : (i : ℕ) → i < count_of list → Taken images (get_or (entries_of list) i [])
  pub ids : (i j : ℕ) → i < j → j < count_of list → id_in (get_or (entries_of list) i []) ≡ id_in (get_or (entries_of list) j []) → ⊥

pub rows_say : (list images : List ℕ) (room : ℕ) → write_row list images room ≡ served → Listed list images
unfolding first_breaking row_w3
rows_say list images room h =
    let p = rows_pass list images room h in
    let l = length_entries list in
    let es = entries_of list in
    let g = good_list list p.w1 in
    record {
      some = g.1;
      few = g.2;
      entry = λ i m. let k : i < length es = omega arith in
          taken images (get_or es i []) (none_of (breaks Offer images) 0 es i p.w2 k) (none_of (breaks Lent images) 0 es i p.w4 k)
          (none_of (breaks Crc images) 0 es i p.w5 k) (none_of (breaks Bears images) 0 es i p.w6 k);
      ids = λ i j m n. apart [] 0 es i j p.w3 m (omega arith);
    }
