-- The bundle of a list while it is measured and written, entry by entry. Assumes nothing.
use mathlib.Core.Path.{◌≡◌, refl, sym, ap, ◌∙◌}
use mathlib.Core.Bool.{false, ◌||◌}
use mathlib.Core.List.{List, [], ◌∷◌, ◌++◌, append_assoc, append-nil, map, map-append, flatten}
use Prim.Native.Nat.{ℕ, ◌+◌, ◌*◌, ◌≤◌, ◌<◌}
use native.Mathlib.Omega.{arith}
use native.Mathlib.Numerals.{add-one}
use borrow.Author.Tests.{ltb-false}
use lib.Dec.{ltb}
use lib.ListN.{length, take, drop, replicate, take-append-drop, length-append, length-take, length-drop, length-map}
use lib.Seq.{length-take-le, take-length, take-suc, drop-cons, drop-length}
use Rattle.wire.specs.Bytes.{bytes_of}
use Rattle.wire.specs.Codes.{short_size}
use Rattle.wire.proofs.Tests.{neither}
use Rattle.image.specs.Region.{put}
use Rattle.image.proofs.region.Within.{put_length}
use Rattle.device_component.specs.Setup.{staging_limit, region_least}
use Rattle.bundle_layout.specs.Layout.{entry_size, table_end, offer_in, offset_in, length_in}
use Rattle.bundle.specs.Contents.{Part, table_bytes, bundle_bytes}
use Rattle.bundle.proofs.Accepted.{none_of}
use Rattle.bundle.proofs.Layouts.{body_of}
use Rattle.bundle_cut.specs.Cut.{crc_place, image_body}
use Rattle.bundle_cut.proofs.Bounds.{body_bound}
use Rattle.bundle_given.specs.declared.EntryRule.TheVariants.{Lent}
use Rattle.bundle_given.specs.Given.{count_of, entries_of, image_at}
use Rattle.bundle_writer.specs.Bundle.{made_part, made_parts, made_bundle}
use Rattle.bundle_given.specs.Entry.{bad_lent, breaks}
use Rattle.bundle_writer.specs.Rows.{first_breaking}
use Rattle.bundle_writer.specs.Answer.{over}
use Rattle.bundle_writer.specs.Promises.{bodies_length}
use Rattle.bundle_writer.proofs.Puts.{put_on, put_apart, put_start}
use Rattle.bundle_writer.proofs.Promises.{made_size}
use Rattle.bundle_writer.proofs.list.Laws.{entry_of, length_entries, entry_is}

-- an image that W4 allows, and its body, are within their limits

module _ (list images : List ℕ) (w4 : first_breaking Lent list images ≡ 0) (i : ℕ) (h : i < count_of list) where
  pub image_sized : (region_least ≤ length (image_at images (entry_of list i))) × (length (image_at images (entry_of list i)) ≤ staging_limit)
  unfolding first_breaking image_at
  image_sized =
      let e = entry_of list i in
      let q : bad_lent (length images) e ≡ false =
      ap (bad_lent (length images)) (sym (entry_is list i h)) ∙ none_of (breaks Lent images) 0 (entries_of list) i w4 (omega (arith, length_entries list)) in
      let p = neither (ltb (length_in e) region_least) (ltb staging_limit (length_in e) || ltb (length images) (offset_in e + length_in e)) q in
      let r = neither (ltb staging_limit (length_in e)) (ltb (length images) (offset_in e + length_in e)) p.1 in
      let a = ltb-false (length_in e) region_least p.0 in
      let b = ltb-false staging_limit (length_in e) r.0 in
      let c = ltb-false (length images) (offset_in e + length_in e) r.1 in
      let d = length-drop (offset_in e) images in
      let n = length-take (length_in e) (drop (offset_in e) images) in (omega arith, omega arith)

  pub body_most : length (image_body (image_at images (entry_of list i))) ≤ 8 * staging_limit
  body_most =
      let m = image_at images (entry_of list i) in
      let s = image_sized in
      let b = (body_bound m (omega arith)).body in
      let n = length-take (crc_place m) m in omega arith

-- what is left of the entries has an entry in front
module _ (list images : List ℕ) (i : ℕ) (h : i < count_of list) where
  pub entries_on : drop i (entries_of list) ≡ entry_of list i ∷ drop (i + 1) (entries_of list)
  entries_on = rw (add-one, ← entry_is list i h) (drop-cons (entries_of list) i [] (omega (arith, length_entries list)))

  pub entries_so_far : take (i + 1) (entries_of list) ≡ take i (entries_of list) ++ (entry_of list i ∷ [])
  entries_so_far = rw (add-one, ← entry_is list i h) (take-suc (entries_of list) i [] (omega (arith, length_entries list)))

  pub bodies_on : bodies_length images (drop i (entries_of list)) ≡ length (image_body (image_at images (entry_of list i))) + bodies_length images (drop (i + 1) (entries_of list))
  unfolding bodies_length
  bodies_on = ap (bodies_length images) entries_on

pub bodies_none : (list images : List ℕ) (i : ℕ) → i ≡ count_of list → bodies_length images (drop i (entries_of list)) ≡ 0
unfolding bodies_length
bodies_none list images i e = rw (e, ← length_entries list, drop-length (entries_of list))

-- a bundle that is being written

-- nothing is put
put_none : (at : ℕ) (l : List ℕ) → put at [] l ≡ l
unfolding put
put_none at l = let e : at + 0 ≡ at = omega arith in rw e (take-append-drop at l)

-- one part more, in the table and after the bodies
table_on : (at : ℕ) (ps : List Part) (p : Part)
    → table_bytes at (ps ++ (p ∷ [])) ≡ table_bytes at ps ++ (p.offer ++ (bytes_of 4 (at + length (flatten (map body_of ps))) ++ bytes_of 4 (length (body_of p))))
unfolding table_bytes flatten
table_on at [] p = let e : at + 0 ≡ at = omega arith in rw (e, append-nil (bytes_of 4 (length (body_of p))))
table_on at (q ∷ ps) p =
    let w = body_of q in
    let e : at + length w + length (flatten (map body_of ps)) ≡ at + length (w ++ flatten (map body_of ps)) = simp length-append (omega arith) in
    rw (table_on (at + length w) ps p, e) (simp append_assoc)

bodies_more : (ps : List Part) (p : Part) → flatten (map body_of (ps ++ (p ∷ []))) ≡ flatten (map body_of ps) ++ body_of p
unfolding flatten
bodies_more [] p = append-nil (body_of p)
bodies_more (q ∷ ps) p = rw (bodies_more ps p) (sym (append_assoc (body_of q) (flatten (map body_of ps)) (body_of p)))

module _ (list images : List ℕ) where
  -- where the table ends; the parts of the first entries, what stands before the bodies of the others, and their bodies
  abbrev pub table_size : ℕ
  table_size = table_end (count_of list)

  abbrev pub parts_to : ℕ → List Part
  parts_to i = map (made_part images) (take i (entries_of list))

  unfoldable pub front_to : ℕ → List ℕ
  front_to i = (count_of list ∷ 1 ∷ replicate 6 0) ++ table_bytes table_size (parts_to i)

  unfoldable pub bodies_to : ℕ → List ℕ
  bodies_to i = flatten (map body_of (parts_to i))

  -- one entry more
  module _ (i : ℕ) (h : i < count_of list) where
    parts_on : parts_to (i + 1) ≡ parts_to i ++ (made_part images (entry_of list i) ∷ [])
    parts_on =
        ap (map (made_part images)) (entries_so_far list images i h) ∙ map-append (made_part images) (take i (entries_of list)) (entry_of list i ∷ [])

    bodies_more_to : bodies_to (i + 1) ≡ bodies_to i ++ image_body (image_at images (entry_of list i))
    unfolding bodies_to
    bodies_more_to = ap (λ ps. flatten (map body_of ps)) parts_on ∙ bodies_more (parts_to i) (made_part images (entry_of list i))

    front_more_to : (end : ℕ) → end ≡ table_size + length (bodies_to i)
        → front_to (i + 1) ≡ front_to i ++ (offer_in (entry_of list i) ++ (bytes_of 4 end ++ bytes_of 4 (length (image_body (image_at images (entry_of list i))))))
    unfolding front_to bodies_to
    front_more_to end e =
        rw e
        (ap (λ ps. (count_of list ∷ 1 ∷ replicate 6 0) ++ table_bytes table_size ps) parts_on
        ∙ ap (λ t. (count_of list ∷ 1 ∷ replicate 6 0) ++ t) (table_on table_size (parts_to i) (made_part images (entry_of list i)))
        ∙ sym (append_assoc (count_of list ∷ 1 ∷ replicate 6 0) (table_bytes table_size (parts_to i)) _))

  -- all of them are the bundle
  all_parts : (i : ℕ) → i ≡ count_of list → front_to i ++ bodies_to i ≡ made_bundle list images
  unfolding made_bundle bundle_bytes front_to bodies_to
  all_parts i e =
      let l = length_entries list in
      let a : take i (entries_of list) ≡ entries_of list = rw (e, ← l) (take-length (entries_of list)) in
      let n : length (made_parts list images) ≡ count_of list = length-map (entries_of list) (made_part images) ∙ l in
      rw (a, n)

  -- how far it is: what stands in the output, where the next body goes, and how much is left
  pub record Filling (out₀ out : List ℕ) (end i : ℕ) : Type 0 where
    pub done : out ≡ put table_size (bodies_to i) (put 0 (front_to i) out₀)
    pub front : length (front_to i) ≡ table_end i
    pub at : end ≡ table_size + length (bodies_to i)
    pub room : end + bodies_length images (drop i (entries_of list)) ≡ length (made_bundle list images)
    pub long : length out ≡ length out₀

  module _ (out₀ : List ℕ) (fits : length (made_bundle list images) ≤ length out₀) where
    -- where the head stands already
    pub fill_start : put 0 (count_of list ∷ 1 ∷ replicate 6 0) out₀ ≡ out₀ → Filling out₀ out₀ table_size 0
    unfolding front_to bodies_to table_bytes flatten
    fill_start e =
        let m = made_size list images in record {
          done = rw e (sym (put_none table_size out₀));
          front = refl;
          at = omega arith;
          room = omega arith;
          long = refl;
        }

    module _ (out : List ℕ) (end i : ℕ) (f : Filling out₀ out end i) where
      -- a body, and its entry in the table
      pub fill_on : i < count_of list → length (entry_of list i) ≡ entry_size →
          let e = entry_of list i in
          let b = image_body (image_at images e) in
          Filling out₀ (put (table_end i) (offer_in e ++ (bytes_of 4 end ++ bytes_of 4 (length b))) (put end b out)) (end + length b) (i + 1)
      fill_on h k =
          let e = entry_of list i in
          let b = image_body (image_at images e) in
          let row = offer_in e ++ (bytes_of 4 end ++ bytes_of 4 (length b)) in
          let r = f.room in
          let a = f.at in
          let n = bodies_on list images i h in
          let l = length-take-le short_size e (omega arith) in
          let s : length row ≡ entry_size = simp (length-append, l) in
          let x = put 0 (front_to i) out₀ in
          let t = f.front in
          let g = f.long in
          let m = made_size list images in
          let c : length x ≡ length out₀ = put_length 0 (front_to i) out₀ (omega arith) in
          let body : put end b out ≡ put table_size (bodies_to i ++ b) x = rw (f.done, a) (put_on table_size (bodies_to i) b x (omega arith)) in
          let w : length (bodies_to i ++ b) ≡ length (bodies_to i) + length b = length-append (bodies_to i) b in
          let first : put (table_end i) row x ≡ put 0 (front_to i ++ row) out₀ =
          let z : table_end i ≡ 0 + length (front_to i) = omega arith in rw z (put_on 0 (front_to i) row out₀ (omega arith)) in
          record {
            done = ap (put (table_end i) row) body ∙ put_apart (table_end i) table_size row (bodies_to i ++ b) x (omega arith) (omega arith)
                ∙ ap (put table_size (bodies_to i ++ b)) first ∙ rw (bodies_more_to i h, front_more_to i h end a);
            front = rw (front_more_to i h end a) (length-append (front_to i) row ∙ omega arith);
            at = rw (bodies_more_to i h) (omega arith);
            room = omega arith;
            long = put_length (table_end i) row (put end b out) (omega (arith, put_length end b out (omega arith))) ∙ put_length end b out (omega arith) ∙ g;
          }

      -- the whole
      pub fill_end : i ≡ count_of list → out ≡ over (made_bundle list images) out₀
      fill_end e =
          let z : table_size ≡ 0 + length (front_to i) = omega (arith, f.front) in
          let m = made_size list images in
          f.done ∙ ap (λ k. put k (bodies_to i) (put 0 (front_to i) out₀)) z ∙ put_on 0 (front_to i) (bodies_to i) out₀ (omega arith)
          ∙ ap (λ b. put 0 b out₀) (all_parts i e) ∙ put_start (made_bundle list images) out₀
