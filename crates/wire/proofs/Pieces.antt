-- Bytes that are written piece by piece, and lists that are read so. Assumes nothing.
use mathlib.Core.Path.{◌≡◌, sym, ap, ap₂, ◌∙◌}
use mathlib.Core.List.{List, [], ◌∷◌, ◌++◌, append-nil, append_assoc}
use Prim.Native.Nat.{ℕ, zero, suc, ◌+◌, ◌*◌, ◌-◌, ◌≤◌, ◌<◌}
use native.Mathlib.Nat.{not-suc-le-zero, le_of_suc-le-suc, add_comm, suc-mul}
use native.Mathlib.Numerals.{add-one}
use native.Mathlib.Omega.{arith}
use lib.ListN.{length, get_or, set, take, drop, length-append, length-take, length-drop, drop_of_length-le}
use lib.Seq.{take_all, take_at, take-suc-set, length-take-le, drop-drop}
use Rattle.wire.specs.Bytes.{copy_of}
use Rattle.wire.proofs.words.Copies.{copy_same}

-- n bytes in the part from `at` on
pub placed : (out s last : List ℕ) (at n k : ℕ) → k ≡ n → last ≡ s → take at out ++ (last ++ drop k (drop at out)) ≡ take at out ++ (s ++ drop (at + n) out)
placed out s last at n k p e = ap₂ (λ (u v : List ℕ). take at out ++ (u ++ v)) e (drop-drop k at out ∙ ap (λ (i : ℕ). drop (at + i) out) p)

-- a copy of n bytes into the part from `at` on leaves them there
pub copied : (out s last : List ℕ) (at n k : ℕ) → k ≡ n → length s ≡ n → at + n ≤ length out → last ≡ copy_of (take k (drop at out)) s
    → take at out ++ (last ++ drop k (drop at out)) ≡ take at out ++ (s ++ drop (at + n) out)
copied out s last at n k p e h f =
    let m : length (take k (drop at out)) ≡ length s = simp (length-take, length-drop) (omega arith) in
    placed out s last at n k p (f ∙ copy_same (take k (drop at out)) s m)

-- the bytes stay as many, and what stands up to the end of what is stored
pub stored : (out s : List ℕ) (at n : ℕ) → length s ≡ n → at + n ≤ length out
    → (length (take at out ++ (s ++ drop (at + n) out)) ≡ length out) × (take (at + n) (take at out ++ (s ++ drop (at + n) out)) ≡ take at out ++ s)
stored out s at n e h =
    let l : length (take at out) ≡ at = length-take-le at out (omega arith) in
    let o : length (take at out ++ s) ≡ at + n = length-append (take at out) s ∙ ap₂ (λ (x y : ℕ). x + y) l e in (
      simp (length-append, length-take, length-drop) (omega arith),
      rw (← append_assoc (take at out) s (drop (at + n) out)) (take_at (take at out ++ s) (drop (at + n) out) (at + n) o),
    )

-- so it is for a copy
pub put_more : (out s last : List ℕ) (at n k : ℕ) → k ≡ n → length s ≡ n → at + n ≤ length out → last ≡ copy_of (take k (drop at out)) s
    → (length (take at out ++ (last ++ drop k (drop at out))) ≡ length out) × (take (at + n) (take at out ++ (last ++ drop k (drop at out))) ≡ take at out ++ s)
put_more out s last at n k p e h f = rw (copied out s last at n k p e h f) (stored out s at n e h)

-- the pieces of a list one after the other: one more piece
module _ {A : Type 0} (piece : A → List ℕ) (pieces : List A → List ℕ) (none : pieces [] ≡ []) (some : (x : A) (l : List A) → pieces (x ∷ l) ≡ piece x ++ pieces l) where
  piece_suc : (i : ℕ) (l : List A) (d : A) → i < length l → pieces (take (suc i) l) ≡ pieces (take i l) ++ piece (get_or l i d)
  piece_suc i [] d h = absurd (not-suc-le-zero h)
  piece_suc zero (x ∷ l) d h = rw (some, none, append-nil)
  piece_suc (suc i) (x ∷ l) d h = rw (some x (take (suc i) l), some x (take i l), piece_suc i l d (le_of_suc-le-suc h)) (sym (append_assoc (piece x) (pieces (take i l)) (piece (get_or l i d))))

  pub piece_more : (i : ℕ) (l : List A) (d : A) → i < length l → pieces (take (i + 1) l) ≡ pieces (take i l) ++ piece (get_or l i d)
  piece_more i l d h = rw add-one (piece_suc i l d h)

  -- pieces of one size
  pub pieces_sized : (n : ℕ) → ((x : A) → length (piece x) ≡ n) → (l : List A) → length (pieces l) ≡ length l * n
  pieces_sized n h [] = let e : 0 ≡ 0 * n = omega arith in ap length none ∙ e
  pieces_sized n h (x ∷ l) =
      ap length (some x l) ∙ length-append (piece x) (pieces l) ∙ ap₂ (λ (a b : ℕ). a + b) (h x) (pieces_sized n h l) ∙ add_comm n (length l * n) ∙ sym (suc-mul (length l) n)

  -- where the pieces before member i are written, and then its own
  pub piece_next : (out z front : List ℕ) (l : List A) (d : A) (i at next : ℕ) → i < length l → take at out ≡ front ++ pieces (take i l)
      → take next z ≡ take at out ++ piece (get_or l i d) → take next z ≡ front ++ pieces (take (i + 1) l)
  piece_next out z front l d i at next h before e =
      e ∙ ap (λ (q : List ℕ). q ++ piece (get_or l i d)) before ∙ append_assoc front (pieces (take i l)) (piece (get_or l i d)) ∙ ap (λ (q : List ℕ). front ++ q) (sym (piece_more i l d h))

  -- the piece of member i is put after those of the members before it
  pub piece_written : (out front s last : List ℕ) (l : List A) (d : A) (i at n next k : ℕ) → i < length l → k ≡ n → next ≡ at + n → length s ≡ n → next ≤ length out
      → s ≡ piece (get_or l i d) → last ≡ s → take at out ≡ front ++ pieces (take i l)
      → (length (take at out ++ (last ++ drop k (drop at out))) ≡ length out)
      × (take next (take at out ++ (last ++ drop k (drop at out))) ≡ front ++ pieces (take (i + 1) l))
  piece_written out front s last l d i at n next k h p q e r f g before =
      let put = stored out s at n e (omega arith) in
      rw (placed out s last at n k p g) (put.0, piece_next out _ front l d i at next h before (rw q (put.1 ∙ ap (λ (u : List ℕ). take at out ++ u) f)))

-- a list of n that is read from bytes, each from `size` of them: one more
module _ {A : Type 0} (size : ℕ) (one : List ℕ → A) (read : ℕ → List ℕ → List A) (none : (q : List ℕ) → read 0 q ≡ [])
    (some : (n : ℕ) (q : List ℕ) → read (suc n) q ≡ one q ∷ read n (drop size q)) where
  pub read_suc : (i : ℕ) (q : List ℕ) → read (suc i) q ≡ read i q ++ (one (drop (i * size) q) ∷ [])
  read_suc zero q = let e : 0 * size ≡ 0 = omega arith in rw (some, none, none, e)
  read_suc (suc i) q =
      some (suc i) q ∙ ap (λ (l : List A). one q ∷ l) (read_suc i (drop size q) ∙ ap (λ (l : List ℕ). read i (drop size q) ++ (one l ∷ [])) (drop-drop (i * size) size q ∙ ap (λ (n : ℕ). drop n q) (add_comm size (i * size) ∙ sym (suc-mul i size))))
      ∙ ap (λ (l : List A). l ++ (one (drop (suc i * size) q) ∷ [])) (sym (some i q))

  -- where the first i are read, and the next is stored after them
  pub read_more : (i : ℕ) (q : List ℕ) (l : List A) (x : A) → i < length l → take i l ≡ read i q → x ≡ one (drop (i * size) q) → take (i + 1) (set l i x) ≡ read (i + 1) q
  read_more i q l x h e f =
      rw (add-one i) (take-suc-set l i x h ∙ ap₂ (λ (u : List A) (v : A). u ++ (v ∷ [])) e f ∙ sym (read_suc i q))

  -- where all are read, they are the list
  pub read_all : (i n : ℕ) (q : List ℕ) (l : List A) → i ≡ n → length l ≡ n → take i l ≡ read i q → l ≡ read n q
  read_all i n q l e h f = sym (take_all i l (omega arith)) ∙ f ∙ ap (λ (m : ℕ). read m q) e

  -- so many are read
  pub read_sized : (n : ℕ) (q : List ℕ) → length (read n q) ≡ n
  read_sized zero q = ap length (none q)
  read_sized (suc n) q = ap length (some n q) ∙ ap suc (read_sized n (drop size q))

  -- member k of those, from its bytes
  pub read_at : (n k : ℕ) (q : List ℕ) (d : A) → k < n → get_or (read n q) k d ≡ one (drop (k * size) q)
  read_at zero k q d h = absurd (not-suc-le-zero h)
  read_at (suc n) zero q d h = let e : 0 * size ≡ 0 = omega arith in rw (some, e)
  read_at (suc n) (suc k) q d h =
      ap (λ (l : List A). get_or l (suc k) d) (some n q) ∙ read_at n k (drop size q) d (le_of_suc-le-suc h)
      ∙ ap one (drop-drop (k * size) size q ∙ ap (λ (m : ℕ). drop m q) (add_comm size (k * size) ∙ sym (suc-mul k size)))

-- the part of a slice from a place to its end
pub rest : (at : ℕ) (b : List ℕ) → take (length b - at) (drop at b) ≡ drop at b
rest at b = take_all (length b - at) (drop at b) (omega (arith, length-drop at b))

-- past the end there is none
pub rest_none : (n at : ℕ) (b : List ℕ) → length b ≤ n → length b ≤ at → drop n b ≡ drop at b
rest_none n at b h k = drop_of_length-le b h ∙ sym (drop_of_length-le b k)
