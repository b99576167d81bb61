-- Bytes that stand in place of as many others, behind the parts before them. Assumes nothing.
use mathlib.Core.Path.{◌≡◌, sym, ap, ap₂, ◌∙◌}
use mathlib.Core.List.{List, ◌++◌, append_assoc}
use Prim.Native.Nat.{ℕ, ◌+◌, ◌≤◌}
use lib.ListN.{length, take, drop}
use lib.Seq.{take_at, take-add, drop-drop}
use Rattle.wire.specs.Bytes.{bytes_at}
use Rattle.wire.proofs.words.Laws.{split}

-- the first k bytes, each by its place
pub first : (k : ℕ) (b : List ℕ) → length (bytes_at k 0 b) ≡ k → k ≤ length b → take k b ≡ bytes_at k 0 b
first k b e h = ap (take k) (split k b h) ∙ take_at (bytes_at k 0 b) (drop k b) k e

-- p in place of the part of q from place m on, where parts have one size
abbrev pub spliced : (size m : ℕ) → (p q : List ℕ) → List ℕ
spliced size m p q = take m q ++ (p ++ drop (size + m) q)

-- behind the first part
pub spliced_next : (size m : ℕ) (p q : List ℕ) → length (bytes_at size 0 q) ≡ size → size ≤ length q
    → spliced size (size + m) p q ≡ bytes_at size 0 q ++ spliced size m p (drop size q)
spliced_next size m p q e h =
    let r = drop size q in
    ap₂ (λ (u v : List ℕ). u ++ (p ++ v)) (take-add size m q ∙ ap (λ (l : List ℕ). l ++ take m r) (first size q e h)) (sym (drop-drop (size + m) size q))
    ∙ append_assoc (bytes_at size 0 q) (take m r) (p ++ drop (size + m) r)
