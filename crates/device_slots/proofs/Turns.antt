-- A loop that puts the image of each member of one list into its place of another: before, after a turn, and at the end. Assumes nothing.
use mathlib.Core.Path.{◌≡◌, refl, ap, ◌∙◌}
use mathlib.Core.List.{List, [], ◌∷◌, ◌++◌, map, map-append}
use Prim.Native.Nat.{ℕ, zero, suc, ◌+◌, ◌<◌}
use native.Mathlib.Numerals.{add-one}
use native.Mathlib.Omega.{arith}
use lib.ListN.{length, take, drop, set, get_or, length-map}
use lib.Seq.{take-suc, drop-cons, set_at, get_or_at, length-take-le}

module _ {A B : Type 0} (f : A → B) (l : List A) (o : List B) where
  -- after i turns
  abbrev pub turned : ℕ → List B
  turned i = map f (take i l) ++ drop i o

  module _ (same : length l ≡ length o) (i : ℕ) (h : i < length l) where
    front_length : length (map f (take i l)) ≡ i
    front_length = length-map (take i l) f ∙ length-take-le i l (omega arith)

    -- the next turn
    pub turn : (z : A) (w x : B) → x ≡ f (get_or l i z) → set (turned i) i x ≡ turned (i + 1)
    turn z w x e =
        let k : i < length o = omega arith in
        rw (add-one, drop-cons o i w k, set_at (map f (take i l)) (get_or o i w) (drop (suc i) o) x i front_length, take-suc l i z h, map-append f (take i l) (get_or l i z ∷ []), e)
        (sym_snoc (map f (take i l)) (f (get_or l i z)) (drop (suc i) o))
      where
        sym_snoc : (xs : List B) (a : B) (ys : List B) → xs ++ a ∷ ys ≡ (xs ++ (a ∷ [])) ++ ys
        sym_snoc [] a ys = refl
        sym_snoc (x ∷ xs) a ys = ap (λ (t : List B). x ∷ t) (sym_snoc xs a ys)

    -- a place whose turn has not come is as it was
    pub still : (w : B) → get_or (turned i) i w ≡ get_or o i w
    still w =
        let k : i < length o = omega arith in
        rw (drop-cons o i w k) (get_or_at (map f (take i l)) (get_or o i w) (drop (suc i) o) w i front_length)

module _ {A : Type 0} where
  -- as many of the first n as there are
  front : (n : ℕ) (l : List A) → take (length (take n l)) l ≡ take n l
  front zero l = refl
  front (suc n) [] = refl
  front (suc n) (x ∷ l) = ap (λ (t : List A). x ∷ t) (front n l)

  back : (n : ℕ) (l : List A) → drop (length (take n l)) l ≡ drop n l
  back zero l = refl
  back (suc n) [] = refl
  back (suc n) (x ∷ l) = back n l

  -- the first n are done after as many turns as there are of them
  pub first_turned : (f : A → A) (l : List A) (n i : ℕ) → i ≡ length (take n l) → turned f l l i ≡ turned f l l n
  first_turned f l n i e = rw (e, front n l, back n l)
