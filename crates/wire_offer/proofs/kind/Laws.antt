-- The packets of the offer channel read back, each kind by its byte 2. Assumes nothing.
use mathlib.Core.Path.{◌≡◌, refl, ap, subst}
use mathlib.Core.Bool.{Bool, true, false, cond, ◌||◌}
use mathlib.Core.List.{List}
use Prim.Native.Nat.{ℕ}
use native.Mathlib.Omega.{arith}
use borrow.Author.Tests.{eqb-true, ne_eqb}
use lib.Dec.{eqb}
use lib.ListN.{get_or}
use Rattle.wire.specs.Bytes.{Packet}
use Rattle.wire.specs.Rows.{served}
use Rattle.wire.specs.Codes.{kind_information, kind_extended}
use Rattle.wire_offer.specs.declared.offer.OfferFields.{OfferFields}
use Rattle.wire_offer.specs.declared.signal.Signal.{Signal}
use Rattle.wire_offer.specs.Offer.{build_of, offer_bytes, fields_in, clean_offer}
use Rattle.wire_offer.specs.Signal.{signal_bytes, signal_in, clean_signal}
use Rattle.wire_offer.specs.Kind.{Kind, offer, information, extended, kind_in, read_of}
use Rattle.wire_offer.specs.RoundTrip.{OfferR1, OfferR2, OfferR3, InformationR1, InformationR2, InformationR3, ExtendedR1, ExtendedR2, ExtendedR3}
use Rattle.wire_offer.proofs.offer.Laws.{narrow, built_allowed, read_allowed, bytes_fields, fields_bytes, clean_fields}

-- what the kind that was read says of the packet
abbrev Seen : List ℕ → Kind → Type 0
Seen p (offer o) = (eqb (get_or p 2 0) kind_information ≡ false) × (eqb (get_or p 2 0) kind_extended ≡ false) × (fields_in p ≡ o)
Seen p (information s) = (get_or p 2 0 ≡ kind_information) × (signal_in p ≡ s)
Seen p (extended s) = (get_or p 2 0 ≡ kind_extended) × (signal_in p ≡ s)

-- the same, by what the two tests of byte 2 say
seen_by : (p : List ℕ) (x y : Bool) → eqb (get_or p 2 0) kind_information ≡ x → eqb (get_or p 2 0) kind_extended ≡ y
    → Seen p (cond x (information (signal_in p)) (cond y (extended (signal_in p)) (offer (fields_in p))))
seen_by p true y e f = (eqb-true _ _ e, refl)
seen_by p false true e f = (eqb-true _ _ f, refl)
seen_by p false false e f = (e, f, refl)

-- so it is for what is read
seen : (p : List ℕ) (k : Kind) → Packet 16 p → (read_of p).value ≡ k → Seen p k
unfolding read_of kind_in
seen p k h e = subst (Seen p) (simp h.size at e) (seen_by p _ _ refl refl)

-- an offer that is built reads back
pub offer_r1 : OfferR1
unfolding build_of read_of kind_in offer_bytes
offer_r1 o f h =
    let a = built_allowed o h in
    let n = narrow o a in
    simp (a, ne_eqb o.id kind_information (omega arith), ne_eqb o.id kind_extended (omega arith), bytes_fields o f a)

-- an offer that was read and is built again is the packet with its reserved bits zero
pub offer_r2 : OfferR2
unfolding build_of
offer_r2 p o k h =
    let s = seen p (offer o) k h in
    rw (← s.2) (simp (read_allowed p k s.0 s.1, fields_bytes p k))

-- those bits change nothing that is read
pub offer_r3 : OfferR3
unfolding read_of kind_in clean_offer
offer_r3 p o k h =
    let s = seen p (offer o) k h in
    simp (k.size, s.0, s.1, clean_fields p)

-- information or extended, by the byte of its kind: what was read and is built again is the packet with its reserved bytes zero
signal_back : (kind : ℕ) (p : List ℕ) (s : Signal) → (get_or p 2 0 ≡ kind) × (signal_in p ≡ s) → signal_bytes kind s ≡ clean_signal p
signal_back kind p s h = rw (← h.0, ← h.1)

-- where a test of byte 2 holds, the fields of an offer are not read
either : (x y : Bool) (s : Signal) (o q : OfferFields) → (x || y) ≡ true
    → cond x (information s) (cond y (extended s) (offer o)) ≡ cond x (information s) (cond y (extended s) (offer q))
either true y s o q h = refl
either false true s o q h = refl
either false false s o q h = cc

-- information or extended, by the byte of its kind: reserved bytes change nothing that is read
signal_same : (kind : ℕ) (p : List ℕ) → Packet 16 p → get_or p 2 0 ≡ kind → (eqb kind kind_information || eqb kind kind_extended) ≡ true
    → read_of (clean_signal p) ≡ read_of p
unfolding read_of kind_in
signal_same kind p k e h =
    let x = eqb (get_or p 2 0) kind_information in
    let y = eqb (get_or p 2 0) kind_extended in
    simp k.size (ap (λ (v : Kind). record { row = served; value = v }) (either x y (signal_in p) _ _ (rw e h)))

-- information that is built reads back, and so on as above
pub information_r1 : InformationR1
unfolding read_of kind_in
information_r1 s f = refl

pub information_r2 : InformationR2
information_r2 p s k h = signal_back kind_information p s (seen p (information s) k h)

pub information_r3 : InformationR3
information_r3 p s k h = signal_same kind_information p k (seen p (information s) k h).0 refl

-- extended, the same
pub extended_r1 : ExtendedR1
unfolding read_of kind_in
extended_r1 s f = refl

pub extended_r2 : ExtendedR2
extended_r2 p s k h = signal_back kind_extended p s (seen p (extended s) k h)

pub extended_r3 : ExtendedR3
extended_r3 p s k h = signal_same kind_extended p k (seen p (extended s) k h).0 refl
