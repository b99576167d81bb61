-- The promises on every bundle that the writer makes: it is accepted and read back, how long it is, and what is left of the output. Assumes nothing.
use mathlib.Core.Path.{◌≡◌, refl, sym, ap, subst, ◌∙◌}
use mathlib.Core.List.{List, [], ◌∷◌, map, map-map, flatten}
use Prim.Native.Nat.{ℕ, suc, ◌+◌, ◌*◌, ◌≤◌, ◌<◌}
use native.Mathlib.Omega.{arith}
use lib.ListN.{length, get_or, drop, length-append, length-drop, length-map, get_or-map}
use lib.Seq.{get_or-take, length-take-le, take-append_seam, drop-append_seam}
use Rattle.wire.specs.Bytes.{Packet, Bytes}
use Rattle.wire.specs.Checks.{All}
use Rattle.wire.specs.Codes.{id_limit, short_size}
use Rattle.wire.proofs.Bounds.{first_bytes, rest_bytes}
use Rattle.image.specs.Judge.{image_id}
use Rattle.device_component.specs.Setup.{region_least}
use Rattle.bundle_records.specs.Record.{Block}
use Rattle.bundle_layout.specs.Layout.{bundle_limit, offer_limit, head_size, entry_size, entries_in, offer_in, id_in, offset_in, length_in}
use Rattle.bundle.specs.Contents.{blocks_in, Part, bundle_bytes, GoodPart}
use Rattle.bundle.proofs.Layouts.{body_of, same_offer, Sized, bundle_length, bundle_bytes_lem, layout_offers, layout_records, layout_accepted}
use Rattle.bundle_cut.specs.Cut.{record_of, cut, crc_place, before_crc, image_records, image_body}
use Rattle.bundle_cut.specs.Rule.{LeftOut, Covers, Apart}
use Rattle.bundle_cut.proofs.Order.{image_apart, image_sound}
use Rattle.bundle_cut.proofs.Rule.{cut_rule}
use Rattle.bundle_given.specs.Given.{count_of, entries_of, image_at}
use Rattle.bundle_writer.specs.Bundle.{made_part, made_parts, made_bundle}
use Rattle.bundle_writer.specs.Rows.{Row, served, row_w, write_row}
use Rattle.bundle_writer.specs.Answer.{made_by, make_of}
use Rattle.bundle_writer.specs.Promises.{MadeBack, MadeReadsBack, MadeApart, MadeTwo, bodies_length, MadeLength, Frame, MadeFrame}
use Rattle.bundle_writer.proofs.Taken.{refused, rows_pass, length_entries, entry_size_lem, entry_bytes_lem, Taken, Listed, rows_say}

-- what is said of every member of a list

module _ {A B : Type 0} (p : B → Type 0) (f : A → B) where
  -- of what each member is turned into, by its place
  all_by : (none : A) (l : List A) → ((i : ℕ) → i < length l → p (f (get_or l i none))) → All p (map f l)
  all_by none [] h = tt
  all_by none (x ∷ l) h = (h 0 (omega arith), all_by none l (λ i k. h (suc i) (omega arith)))

  -- and so of the members
  all_of : (l : List A) → All p (map f l) → All (λ x. p (f x)) l
  all_of [] h = tt
  all_of (x ∷ l) h = (h.0, all_of l h.1)

-- how long a bundle is

bodies_length_lem : (images : List ℕ) (es : List (List ℕ)) → length (flatten (map body_of (map (made_part images) es))) ≡ bodies_length images es
unfolding flatten bodies_length
bodies_length_lem images [] = refl
bodies_length_lem images (e ∷ es) =
    length-append (image_body (image_at images e)) _ ∙ ap (λ (n : ℕ). length (image_body (image_at images e)) + n) (bodies_length_lem images es)

module _ (list images : List ℕ) where
  length_parts : length (made_parts list images) ≡ count_of list
  length_parts = length-map (entries_of list) (made_part images) ∙ length_entries list

  parts_sized : Sized (made_parts list images)
  parts_sized =
      all_by (λ (p : Part). length p.offer ≡ short_size) (made_part images) [] (entries_of list)
      (λ i h. length-take-le short_size (get_or (entries_of list) i []) (omega (arith, entry_size_lem list i (omega (arith, length_entries list)))))

  pub made_size : length (made_bundle list images) ≡ head_size + entry_size * count_of list + bodies_length images (entries_of list)
  unfolding made_bundle
  made_size =
      let l = bundle_length (made_parts list images) parts_sized in
      let m = bodies_length_lem images (entries_of list) in omega (arith, length_parts)

pub made_length : MadeLength
made_length list images room h = let p = rows_pass list images room h in (made_size list images, p.w7, p.w8)

-- what is left of the output

pub made_frame : MadeFrame
unfolding make_of
made_frame list images out = go (write_row list images (length out)) refl where
  go : (r : Row) → write_row list images (length out) ≡ r → Frame list images out (made_by r list images out)
  go served e =
      let b = made_bundle list images in
      let n : length b ≤ length out = (made_length list images (length out) e).2 in
      record {
        refused = λ k entry z. absurd (refused k entry (sym z));
        written = λ z. take-append_seam b (drop (length b) out);
        rest = drop-append_seam b (drop (length b) out);
        size = length-append b (drop (length b) out) ∙ omega (arith, length-drop (length b) out);
      }
  go (row_w k entry) e = record { refused = λ j i z. (refl, refl); written = λ z. absurd (refused k entry z); rest = refl; size = refl }

-- the image of an entry is bytes
image_bytes : (images e : List ℕ) → Bytes images → Bytes (image_at images e)
unfolding image_at
image_bytes images e h = first_bytes (length_in e) (drop (offset_in e) images) (rest_bytes (offset_in e) images h)

-- the part of an entry that no row refuses
good_part : (images e : List ℕ) → Bytes images → Packet entry_size e → Taken images e → GoodPart (made_part images e)
good_part images e b p t =
    let m = image_at images e in
    let s = t.size in
    record {
      packet = record { size = length-take-le short_size e (omega (arith, p.size)); bytes = first_bytes short_size e p.bytes };
      offer = same_offer (offer_in e) e (λ i h. get_or-take short_size e i 0 h) ∙ t.offer;
      some = omega (arith, length-append (cut (before_crc m)) (record_of m (crc_place m) (length m) ∷ []));
      sound = image_sound m (image_bytes images e b) (omega (arith, t.least)) (omega (arith, t.most));
    }

module _ (list images : List ℕ) (lb : Bytes list) (ib : Bytes images) (t : Listed list images) where
  good_parts : All GoodPart (made_parts list images)
  good_parts = all_by GoodPart (made_part images) [] (entries_of list) (λ i h.
      let k : i < count_of list = omega (arith, length_entries list) in
      good_part images (get_or (entries_of list) i []) ib (record { size = entry_size_lem list i k; bytes = entry_bytes_lem list lb i k }) (t.entry i k))

  offers_given : map (λ (p : Part). p.offer) (made_parts list images) ≡ map offer_in (entries_of list)
  offers_given = map-map (λ (p : Part). p.offer) (made_part images) (entries_of list)

  records_given : map (λ (p : Part). p.blocks) (made_parts list images) ≡ map (λ e. image_records (image_at images e)) (entries_of list)
  records_given = map-map (λ (p : Part). p.blocks) (made_part images) (entries_of list)

  -- the id of an offer is that of its entry
  id_given : (i : ℕ) → id_in (get_or (map (λ (p : Part). p.offer) (made_parts list images)) i []) ≡ id_in (get_or (entries_of list) i [])
  id_given i =
      ap (λ (l : List (List ℕ)). id_in (get_or l i [])) offers_given ∙ ap id_in (get_or-map offer_in (entries_of list) i [])
      ∙ get_or-take short_size (get_or (entries_of list) i []) 2 0 (omega arith)

  reads_back : length (made_bundle list images) ≤ bundle_limit → MadeBack list images (made_bundle list images)
  unfolding made_bundle bundle_bytes
  reads_back fits =
      let ps = made_parts list images in
      let n = length_parts list images in
      let few : length ps ≤ offer_limit = omega (arith, t.few) in
      record {
        bytes = bundle_bytes_lem ps good_parts few;
        accepted = layout_accepted ps (omega (arith, t.some)) few good_parts
            (λ i j h k e. t.ids i j h (omega arith) (sym (id_given i) ∙ e ∙ id_given j)) fits;
        count = n;
        offers = layout_offers ps good_parts ∙ offers_given;
        records = layout_records ps good_parts fits ∙ records_given;
      }

pub made_reads_back : MadeReadsBack
made_reads_back list images room lb ib h =
    reads_back list images lb ib (rows_say list images room h) (rows_pass list images room h).w7

-- what holds of the records of each image holds of each body
of_bodies : (P : List Block → Type 0) (list images : List ℕ) (room : ℕ) → Bytes list → Bytes images → write_row list images room ≡ served
    → ((i : ℕ) → i < count_of list → P (image_records (image_at images (get_or (entries_of list) i []))))
    → All (λ e. P (blocks_in (made_bundle list images) e)) (entries_in (made_bundle list images))
of_bodies P list images room lb ib h each =
    let b = made_bundle list images in
    let r = made_reads_back list images room lb ib h in
    all_of P (blocks_in b) (entries_in b)
    (subst (All P) (sym r.records)
    (all_by P (λ e. image_records (image_at images e)) [] (entries_of list) (λ i k. each i (omega (arith, length_entries list)))))

pub made_apart : MadeApart
made_apart list images room lb ib h = of_bodies Apart list images room lb ib h (λ i k. image_apart (image_at images (get_or (entries_of list) i [])))

-- place 4 is kept where the id is not 0xFF
some_cover : (rs : List Block) (x : ℕ) → Covers rs x → 1 ≤ length rs
unfolding Covers
some_cover [] x c = absurd c
some_cover (r ∷ rs) x c = omega arith

two_records : (m : List ℕ) → region_least ≤ length m → image_id m ≤ id_limit → 2 ≤ length (image_records m)
two_records m h n =
    let d = before_crc m in
    let l = length-take-le (crc_place m) m (omega arith) in
    let e : get_or d 4 0 ≡ image_id m = get_or-take (crc_place m) m 4 0 (omega arith) in
    let out : LeftOut d 4 → ⊥ = λ o. let z = sym e ∙ o.run.erased 4 o.from o.below in omega arith in
    let c = some_cover (cut d) 4 (((cut_rule d).covers 4).1 (omega arith, out)) in
    omega (arith, length-append (cut d) (record_of m (crc_place m) (length m) ∷ []))

pub made_two : MadeTwo
made_two list images room lb ib h = of_bodies (λ rs. 2 ≤ length rs) list images room lb ib h each where
  each : (i : ℕ) → i < count_of list → 2 ≤ length (image_records (image_at images (get_or (entries_of list) i [])))
  each i k =
      let t = (rows_say list images room h).entry i k in
      two_records (image_at images (get_or (entries_of list) i [])) (omega (arith, t.size, t.least)) (omega (arith, t.id, t.named))
