-- The fields and the 16 bytes of an offer, each from the other. Assumes nothing.
use mathlib.Core.Path.{◌≡◌, refl, ap₂}
use mathlib.Core.Bool.{Bool, true, false, ◌&&◌}
use mathlib.Core.List.{List, ◌∷◌, ◌++◌}
use Prim.Native.Nat.{ℕ, zero, suc, ◌<◌, ◌≤◌, ◌*◌, ◌/◌, ◌%◌, ◌^◌}
use native.Mathlib.Nat.{not-suc-le-zero, le_of_suc-le-suc}
use native.Mathlib.Omega.{arith}
use borrow.Author.Tests.{leb-true, ltb-true, le-leb, lt-ltb, eqb-false}
use lib.Dec.{eqb, leb, ltb}
use lib.ListN.{get_or}
use Rattle.wire.specs.Bytes.{Packet, number, bytes_at}
use Rattle.wire.specs.Codes.{kind_information, kind_extended}
use Rattle.wire.specs.Rows.{served}
use Rattle.wire.proofs.Tests.{both, served_true}
use Rattle.wire.proofs.version.Laws.{parts, version_back}
use Rattle.wire.proofs.words.Laws.{round, back}
use Rattle.wire_offer.specs.declared.offer.OfferFields.{OfferFields}
use Rattle.wire_offer.specs.Offer.{FitsOffer, allowed, flags_of, offer_bytes, build_of, fields_in, clean_offer}

-- bit 6 of byte 1 is I
bit_6 : (i v : Bool) → eqb (flags_of i v / 64 % 2) 1 ≡ i
bit_6 true true = refl
bit_6 true false = refl
bit_6 false true = refl
bit_6 false false = refl

-- bit 7 is V
bit_7 : (i v : Bool) → eqb (flags_of i v / 128 % 2) 1 ≡ v
bit_7 true true = refl
bit_7 true false = refl
bit_7 false true = refl
bit_7 false false = refl

-- the two bits, by their value
two_bits : (q : ℕ) → q < 4 → flags_of (eqb (q % 2) 1) (eqb (q / 2 % 2) 1) ≡ q * 64
two_bits zero h = refl
two_bits (suc zero) h = refl
two_bits (suc (suc zero)) h = refl
two_bits (suc (suc (suc zero))) h = refl
two_bits (suc (suc (suc (suc q)))) h = absurd (not-suc-le-zero (le_of_suc-le-suc (le_of_suc-le-suc (le_of_suc-le-suc (le_of_suc-le-suc h)))))

-- byte 1 again from the two bits that were read
flags_back : (b : ℕ) → b < 256 → flags_of (eqb (b / 64 % 2) 1) (eqb (b / 128 % 2) 1) ≡ b / 64 * 64
flags_back b h =
    let e : b / 128 ≡ b / 64 / 2 = omega arith in
    let l : b / 64 < 4 = omega arith in rw e (two_bits (b / 64) l)

-- what an offer that is built holds in the fields narrower than their type
pub narrow : (o : OfferFields) → allowed o ≡ true → (o.id ≤ 0xFD) × (o.least < 256 ^ 3) × (o.protocol < 16)
narrow o h =
    let k = both (leb o.id 0xFD && ltb o.least 0x1000000) (ltb o.protocol 16) h in
    let l = both (leb o.id 0xFD) (ltb o.least 0x1000000) k.0 in
    (leb-true _ _ l.0, ltb-true o.least 0x1000000 l.1, ltb-true _ _ k.1)

-- an offer that is built is allowed
pub built_allowed : (o : OfferFields) → (build_of o).row ≡ served → allowed o ≡ true
unfolding build_of
built_allowed o = served_true (allowed o) _ _ _

-- an offer that is read is allowed
pub read_allowed : (p : List ℕ) → Packet 16 p → eqb (get_or p 2 0) kind_information ≡ false → eqb (get_or p 2 0) kind_extended ≡ false → allowed (fields_in p) ≡ true
unfolding fields_in
read_allowed p k x y =
    let b = get_or p 2 0 in
    let h : b < 256 = k.bytes 2 in
    let l : b ≤ 0xFD = omega (arith, eqb-false b kind_information x, eqb-false b kind_extended y) in
    let m : number (bytes_at 3 9 p) < 0x1000000 = omega (arith, k.bytes 9, k.bytes 10, k.bytes 11) in
    let n : get_or p 12 0 % 16 < 16 = omega arith in
    rw (le-leb _ _ l, lt-ltb _ _ m, lt-ltb _ _ n)

-- the fields of the bytes of an offer
pub bytes_fields : (o : OfferFields) → FitsOffer o → allowed o ≡ true → fields_in (offer_bytes o) ≡ o
unfolding offer_bytes fields_in
bytes_fields o f h =
    let n = narrow o h in
    let e : o.protocol % 16 ≡ o.protocol = omega arith in
    simp (bit_6, bit_7, e, parts o.version, round 3 o.least n.1, round 2 o.platform f.platform)

-- the bytes of the fields of a packet
pub fields_bytes : (p : List ℕ) → Packet 16 p → offer_bytes (fields_in p) ≡ clean_offer p
unfolding offer_bytes fields_in clean_offer
fields_bytes p k =
    rw (flags_back (get_or p 1 0) (k.bytes 1))
    (ap₂ (λ (v r : List ℕ). get_or p 0 0 ∷ get_or p 1 0 / 64 * 64 ∷ get_or p 2 0 ∷ get_or p 3 0 ∷ v ++ get_or p 8 0 ∷ r) (version_back 4 p k.bytes)
    (ap₂ (λ (l q : List ℕ). l ++ get_or p 12 0 % 16 ∷ 0 ∷ q) (back 3 9 p k.bytes) (back 2 14 p k.bytes)))

-- the fields of a packet with its reserved bits zero
pub clean_fields : (p : List ℕ) → fields_in (clean_offer p) ≡ fields_in p
unfolding fields_in clean_offer
clean_fields p =
    let e : get_or p 1 0 / 64 * 64 / 64 ≡ get_or p 1 0 / 64 = omega arith in
    let f : get_or p 1 0 / 64 * 64 / 128 ≡ get_or p 1 0 / 128 = omega arith in
    let g : get_or p 12 0 % 16 % 16 ≡ get_or p 12 0 % 16 = omega arith in simp (e, f, g)
