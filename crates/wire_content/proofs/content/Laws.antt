-- Content reads back: the data that counts, with zeros past it, and the round trips. Assumes nothing.
use mathlib.Core.Path.{◌≡◌, refl, ap, ap₂, ◌∙◌}
use mathlib.Core.Bool.{Bool, true, false, cond}
use mathlib.Core.List.{List, [], ◌∷◌, ◌++◌}
use Prim.Native.Nat.{ℕ, zero, suc, ◌-◌, ◌^◌, ◌<◌}
use native.Mathlib.Numerals.{unary_clauses}
use native.Mathlib.Omega.{arith}
use borrow.Author.Tests.{leb-false}
use lib.Dec.{leb}
use lib.ListN.{length, get_or, take, drop, replicate, length-append, length-take, length-drop, length-replicate}
use lib.Seq.{take_all}
use Rattle.wire.specs.Bytes.{Packet, bytes_at}
use Rattle.wire.specs.Rows.{served}
use Rattle.wire.proofs.Tests.{served_true}
use Rattle.wire.proofs.words.Laws.{round, back, split}
use Rattle.wire_content.specs.declared.content.ContentFields.{ContentFields}
use Rattle.wire_content.specs.Content.{FitsContent, allowed, used_of, cleared, content_bytes, build_of, fields_in, read_of, norm, clean_content}
use Rattle.wire_content.specs.RoundTrip.{ContentR1, ContentR2, ContentR3}

-- a cleared list is as long as before
length_cleared : (n : ℕ) (d : List ℕ) → length (cleared n d) ≡ length d
unfolding cleared
length_cleared n d = simp (length-append, length-take, length-replicate) (omega arith)

-- clearing a second time changes nothing
cleared_twice : (n : ℕ) (d : List ℕ) → cleared n (cleared n d) ≡ cleared n d
unfolding cleared
cleared_twice zero d = simp (unary_clauses, length-replicate)
cleared_twice (suc n) [] = let e : 0 - suc n ≡ 0 = omega arith in simp e
cleared_twice (suc n) (x ∷ d) = simp unary_clauses (ap (λ (t : List ℕ). x ∷ t) (cleared_twice n d))

-- what follows n of m zeros
pub drop_zeros : (n m : ℕ) → drop {A = ℕ} n (replicate m 0) ≡ replicate (m - n) 0
drop_zeros zero m = simp unary_clauses
drop_zeros (suc n) zero = let e : 0 - suc n ≡ 0 = omega arith in rw e
drop_zeros (suc n) (suc m) = simp unary_clauses (drop_zeros n m)

-- 52 bytes, as far as they count, and zeros
front : (n u : ℕ) (d : List ℕ) → u ≡ used_of n → length d ≡ 52 → take u d ++ replicate (52 - u) 0 ≡ cleared n d
unfolding cleared
front n u d e l = go (leb n 52) refl e
  where
    go : (b : Bool) → leb n 52 ≡ b → u ≡ cond b n 52 → take u d ++ replicate (52 - u) 0 ≡ take n d ++ replicate (length d - n) 0
    go true h q = rw (q, l)
    go false h q =
        let k : 52 - n ≡ 0 = omega (arith, leb-false n 52 h) in
        rw (q, l, k, take_all 52 d (omega arith), take_all n d (omega (arith, leb-false n 52 h)))

-- the bytes that count, copied over as many of 52 zeros
pub laid : (n k m : ℕ) (d r : List ℕ) → k ≡ used_of n → m ≡ used_of n → length d ≡ 52 → r ≡ take m d
    → r ++ drop k (replicate 52 0) ≡ cleared n d
laid n k m d r e f l h =
    let s : k ≡ m = omega arith in rw (h, drop_zeros k 52, s) (front n m d f l)

-- a packet that is built has 60 bytes
packet_length : (c : ContentFields) → FitsContent c → length (content_bytes c) ≡ 60
unfolding content_bytes
packet_length c f = simp (length_cleared, f.size)

-- its fields are those that it was built of, unused data as zero
pub packet_fields : (c : ContentFields) → c.sequence < 256 ^ 2 → c.address.0 < 256 ^ 4 → fields_in (content_bytes c) ≡ norm c
unfolding content_bytes fields_in
packet_fields c s a = simp (round 2 c.sequence s, round 4 c.address.0 a, cleared_twice)

-- the packet with unused data as zero, each byte of its head by its place
clean : (p : List ℕ) → Packet 60 p → clean_content p ≡ bytes_at 8 0 p ++ cleared (get_or p 1 0) (drop 8 p)
unfolding clean_content
clean p k = ap (λ (q : List ℕ). take 8 q ++ cleared (get_or p 1 0) (drop 8 p)) (split 8 p (omega (arith, k.size)))

-- it has 60 bytes
clean_length : (p : List ℕ) → Packet 60 p → length (clean_content p) ≡ 60
clean_length p k = simp (clean p k, length_cleared, length-drop, k.size)

-- it is the packet of the fields that are read
fields_packet_lem : (p : List ℕ) → Packet 60 p → content_bytes (fields_in p) ≡ clean_content p
unfolding content_bytes fields_in
fields_packet_lem p k =
    simp (clean p k, cleared_twice)
    (ap₂ (λ (s a : List ℕ). (get_or p 0 0 ∷ get_or p 1 0 ∷ (s ++ a)) ++ cleared (get_or p 1 0) (drop 8 p)) (back 2 2 p k.bytes) (back 4 4 p k.bytes))

-- its fields are those of the packet itself
clean_fields : (p : List ℕ) → Packet 60 p → fields_in (clean_content p) ≡ fields_in p
unfolding fields_in
clean_fields p k = simp (clean p k, cleared_twice)

-- where building is not refused, the packet is what is built
built : (c : ContentFields) → (build_of c).row ≡ served → (build_of c).value ≡ content_bytes c
unfolding build_of
built c h = rw (served_true (allowed c.flags c.length) (content_bytes c) (replicate 60 0) 2 h)

-- what is built reads back
pub content_r1 : ContentR1
unfolding read_of
content_r1 c f h = simp (built c h, packet_length c f, packet_fields c f.sequence f.address)

-- what is read and built again is the packet with unused data as zero
pub content_r2 : ContentR2
unfolding read_of
content_r2 p k = simp k.size (λ h. built (fields_in p) h ∙ fields_packet_lem p k)

-- unused data changes nothing that is read
pub content_r3 : ContentR3
unfolding read_of
content_r3 p k = simp (clean_length p k, k.size, clean_fields p k)
