-- Bytes that go into the output one after another, and side by side. Assumes nothing.
use mathlib.Core.Path.{◌≡◌, refl, sym, ap, ◌∙◌}
use mathlib.Core.List.{List, ◌++◌, append_assoc}
use Prim.Native.Nat.{ℕ, ◌+◌, ◌-◌, ◌≤◌, ◌<◌}
use native.Mathlib.Omega.{arith}
use lib.ListN.{length, take, drop, length-append, length-drop}
use lib.Seq.{length-take-le, take_at, take-take, take-append-le, take-append-add, take-add, drop_at, drop-drop, drop-append-le, drop-append-add}
use Rattle.bundle_records.proofs.Parts.{drop_take}
use Rattle.image.specs.Region.{put}
use Rattle.bundle_writer.specs.Answer.{over}

module _ (at : ℕ) (a b l : List ℕ) (h : at + length a ≤ length l) where
  -- bytes after others
  pub put_on : put (at + length a) b (put at a l) ≡ put at (a ++ b) l
  unfolding put
  put_on =
      let n = length-take-le at l (omega arith) in
      let m : length (take at l ++ a) ≡ at + length a = simp (length-append, n) in
      let e : take at l ++ (a ++ drop (at + length a) l) ≡ (take at l ++ a) ++ drop (at + length a) l = sym (append_assoc (take at l) a _) in
      let g : at + length a + length b ≡ at + length (a ++ b) = simp length-append (omega arith) in
      let t : take (at + length a) (put at a l) ≡ take at l ++ a = rw e (take_at (take at l ++ a) _ _ m) in
      let d : drop (at + length a + length b) (put at a l) ≡ drop (at + length (a ++ b)) l =
      rw e (sym (drop-drop (length b) (at + length a) _) ∙ ap (drop (length b)) (drop_at (take at l ++ a) _ _ m) ∙ drop-drop (length b) (at + length a) l ∙ ap (λ k. drop k l) g) in
      rw (t, d) (simp append_assoc)

-- three times, each where the one before ends
pub put_three : (at q r : ℕ) (a b c l : List ℕ) → q ≡ at + length a → r ≡ q + length b → r ≤ length l
    → put r c (put q b (put at a l)) ≡ put at (a ++ (b ++ c)) l
put_three at q r a b c l e f h =
    let g : r ≡ at + length (a ++ b) = simp length-append (omega arith) in
    rw (e, put_on at a b l (omega arith), g, put_on at (a ++ b) c l (omega arith), append_assoc)

-- the next bytes of some that are being written, and what is left of them
module _ (start k : ℕ) (w b rest l : List ℕ) (e : drop k w ≡ b ++ rest) where
  pub part_long : 0 < length b → length w ≡ k + (length b + length rest)
  part_long h = let n = length-drop k w in let m = ap length e ∙ length-append b rest in omega arith

  pub part_on : k ≤ length w → start + length w ≤ length l → put (start + k) b (put start (take k w) l) ≡ put start (take (k + length b) w) l
  part_on h f =
      let n = length-take-le k w h in
      let t : take (k + length b) w ≡ take k w ++ b = take-add k (length b) w ∙ ap (λ r. take k w ++ r) (ap (take (length b)) e ∙ take_at b rest (length b) refl) in
      rw t (rw n at (put_on start (take k w) b l (omega arith)))

  pub part_left : drop (k + length b) w ≡ rest
  part_left = sym (drop-drop (length b) k w) ∙ ap (drop (length b)) e ∙ drop_at b rest (length b) refl

-- bytes before others
pub put_apart : (p q : ℕ) (x y l : List ℕ) → p + length x ≤ q → q + length y ≤ length l → put p x (put q y l) ≡ put q y (put p x l)
unfolding put
put_apart p q x y l h k =
    let n = length-take-le q l (omega arith) in
    let z = y ++ drop (q + length y) l in
    let o = p + length x in
    let w = take p l ++ x in
    let m : length w ≡ o = simp (length-append, length-take-le p l (omega arith)) in
    let e : take p l ++ (x ++ drop o l) ≡ w ++ drop o l = sym (append_assoc (take p l) x _) in
    let f : length w + (q - o) ≡ q = omega arith in
    let g : length w + (q + length y - o) ≡ q + length y = omega arith in
    let i : o + (q + length y - o) ≡ q + length y = omega arith in
    let t : take p (take q l ++ z) ≡ take p l = take-append-le p (take q l) z (omega arith) ∙ take-take p q l (omega arith) in
    let d : drop o (take q l ++ z) ≡ take (q - o) (drop o l) ++ z = drop-append-le o (take q l) z (omega arith) ∙ ap (λ r. r ++ z) (drop_take o q l) in
    let t' : take q (w ++ drop o l) ≡ w ++ take (q - o) (drop o l) = rw f at (take-append-add w (drop o l) (q - o)) in
    let d' : drop (q + length y) (w ++ drop o l) ≡ drop (q + length y) l =
    rw (g, drop-drop (q + length y - o) o l, i) at (drop-append-add w (drop o l) (q + length y - o)) in
    rw (t, d, e, t', d') (simp append_assoc)

-- bytes at the start
pub put_start : (b l : List ℕ) → put 0 b l ≡ over b l
unfolding put
put_start b l = let e : 0 + length b ≡ length b = omega arith in rw e

-- what stands at the start goes there again, and is covered by what is longer
pub put_again : (b l : List ℕ) → length b ≤ length l → put 0 b (put 0 b l) ≡ put 0 b l
put_again b l h = rw (put_start b (put 0 b l), put_start b l) (ap (λ r. b ++ r) (drop_at b (drop (length b) l) (length b) refl))

pub over_put : (w b l : List ℕ) → length b ≤ length w → over w (put 0 b l) ≡ over w l
over_put w b l h =
    let e : length b + (length w - length b) ≡ length w = omega arith in
    rw (put_start b l)
    (ap (λ r. w ++ r) (rw (e, drop-drop (length w - length b) (length b) l, e) at (drop-append-add b (drop (length b) l) (length w - length b))))
