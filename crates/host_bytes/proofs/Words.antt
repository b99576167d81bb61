-- Words that are stored one after the other. Assumes nothing.
use mathlib.Core.Path.{◌≡◌, refl, sym, ap, ap₂, ◌∙◌}
use mathlib.Core.List.{List, ◌++◌, append_assoc}
use Prim.Native.Nat.{ℕ, ◌+◌, ◌*◌, ◌-◌, ◌<◌, ◌≤◌}
use native.Mathlib.Omega.{arith}
use lib.ListN.{length, get_or, take, drop, length-append, length-drop, take-append-drop}
use lib.Seq.{length-take-le, take_all, take_at, drop_at, drop-drop}
use Rattle.wire.specs.Bytes.{bytes_of, copy_of}
use Rattle.wire.proofs.Pieces.{copied, piece_more, pieces_sized}
use Rattle.host_bytes.specs.Layout.{word_size, words_bytes}

-- words that stand from a place on, the rest as it was
abbrev pub laid : (at : ℕ) (vs l : List ℕ) → List ℕ
laid at vs l = take at l ++ (words_bytes vs ++ drop (at + length vs * word_size) l)

-- the first i words are laid
abbrev pub Laid : (start vs : List ℕ) (at : ℕ) (out : List ℕ) (i : ℕ) → Type 0
Laid start vs at out i = (i ≤ length vs) × (length out ≡ length start) × (out ≡ laid at (take i vs) start)

-- words are so many bytes
words_sized : (vs : List ℕ) → length (words_bytes vs) ≡ length vs * word_size
unfolding words_bytes
words_sized vs = pieces_sized (bytes_of 4) words_bytes refl (λ v vs. refl) word_size (λ v. refl) vs

-- what stands up to the end of the last word
front_sized : (at : ℕ) (vs l : List ℕ) → at ≤ length l → length (take at l ++ words_bytes vs) ≡ at + length vs * word_size
front_sized at vs l h =
    length-append (take at l) (words_bytes vs) ∙ ap₂ (λ (m n : ℕ). m + n) (length-take-le at l h) (words_sized vs)

-- the bytes stay as many
pub laid_sized : (at : ℕ) (vs l : List ℕ) → at + length vs * word_size ≤ length l → length (laid at vs l) ≡ length l
laid_sized at vs l h =
    ap length (sym (append_assoc (take at l) (words_bytes vs) (drop (at + length vs * word_size) l)))
    ∙ length-append (take at l ++ words_bytes vs) (drop (at + length vs * word_size) l)
    ∙ omega (arith, front_sized at vs l (omega arith), length-drop (at + length vs * word_size) l)

-- before the first word all is as it was
pub none_laid : (at : ℕ) (vs l : List ℕ) → Laid l vs at l 0
unfolding words_bytes
none_laid at vs l =
    let e : at ≡ at + 0 * word_size = omega arith in (omega arith, refl, sym (take-append-drop at l) ∙ ap (λ (n : ℕ). take at l ++ drop n l) e)

-- one word more
pub word_laid : (start out vs s last : List ℕ) (at i : ℕ) → i < length vs → at + length vs * word_size ≤ length start → out ≡ laid at (take i vs) start
    → s ≡ bytes_of 4 (get_or vs i 0) → last ≡ copy_of (take (at + i * word_size + word_size - (at + i * word_size)) (drop (at + i * word_size) out)) s
    → Laid start vs at (take (at + i * word_size) out ++ (last ++ drop (at + i * word_size + word_size - (at + i * word_size)) (drop (at + i * word_size) out))) (i + 1)
unfolding words_bytes
word_laid start out vs s last at i h whole e g w =
    let m : length (take i vs) ≡ i = length-take-le i vs (omega arith) in
    let m' : length (take (i + 1) vs) ≡ i + 1 = length-take-le (i + 1) vs (omega arith) in
    let from = at + i * word_size in
    let k : from + word_size - from ≡ word_size = omega arith in
    let front = take at start ++ words_bytes (take i vs) in
    let n : length front ≡ from = front_sized at (take i vs) start (omega arith) ∙ ap (λ (j : ℕ). at + j * word_size) m in
    let o : out ≡ front ++ drop from start =
    e ∙ sym (append_assoc (take at start) (words_bytes (take i vs)) (drop (at + length (take i vs) * word_size) start))
    ∙ ap (λ (j : ℕ). front ++ drop (at + j * word_size) start) m in
    let q : length out ≡ length start = ap length e ∙ laid_sized at (take i vs) start (omega arith) in
    let before : take from out ≡ front = ap (take from) o ∙ take_at front (drop from start) from n in
    let behind : drop (from + 4) out ≡ drop (from + 4) start =
    sym (drop-drop 4 from out) ∙ ap (drop 4) (ap (drop from) o ∙ drop_at front (drop from start) from n) ∙ drop-drop 4 from start in
    let more : words_bytes (take i vs) ++ s ≡ words_bytes (take (i + 1) vs) =
    ap (λ (l : List ℕ). words_bytes (take i vs) ++ l) g ∙ sym (piece_more (bytes_of 4) words_bytes refl (λ v vs. refl) i vs 0 h) in
    let r : from + 4 ≡ at + length (take (i + 1) vs) * word_size = omega arith in
    let z = copied out s last from 4 (from + word_size - from) k (ap length g) (omega arith) w ∙ ap₂ (λ (a b : List ℕ). a ++ (s ++ b)) before behind
    ∙ join (take at start) (words_bytes (take i vs)) s (drop (from + 4) start)
    ∙ ap₂ (λ (l : List ℕ) (j : ℕ). take at start ++ (l ++ drop j start)) more r in
    (omega arith, ap length z ∙ laid_sized at (take (i + 1) vs) start (omega arith), z)
  where
    join : (a b c d : List ℕ) → (a ++ b) ++ (c ++ d) ≡ a ++ ((b ++ c) ++ d)
    join a b c d = simp append_assoc

-- after the last word all are laid
pub all_laid : (start out vs : List ℕ) (at i : ℕ) → length vs ≤ i → out ≡ laid at (take i vs) start → out ≡ laid at vs start
all_laid start out vs at i h e = e ∙ ap (λ (l : List ℕ). laid at l start) (take_all i vs h)
