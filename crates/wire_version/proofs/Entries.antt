-- The components of a version reply, written and read one after the other. Assumes nothing.
use mathlib.Core.Path.{◌≡◌, refl, sym, ap, ◌∙◌}
use mathlib.Core.Bool.{Bool, true, false, cond}
use mathlib.Core.List.{List, ◌∷◌, ◌++◌, append_assoc}
use Prim.Native.Nat.{ℕ, zero, suc, ◌+◌, ◌*◌, ◌-◌, ◌<◌, ◌≤◌}
use native.Mathlib.Numerals.{unary_clauses}
use native.Mathlib.Omega.{arith}
use borrow.Author.Tests.{ltb-true, ltb-false}
use borrow.Rule.Slice.PartMut.{put_mid}
use lib.ListN.{length, get_or, take, drop, replicate, length-append, length-replicate}
use lib.Seq.{take_at, drop_at, length-take-le}
use lib.Dec.{ltb}
use Rattle.std.proofs.lemmas.List.{same_lists, get_or_default, get_or_append_left, get_or-append_right, get_or-replicate}
use Rattle.wire.specs.Codes.{component_limit}
use Rattle.wire.proofs.Pieces.{piece_more, pieces_sized, read_sized, read_at}
use Rattle.wire_version.specs.declared.Running.{Running}
use Rattle.wire_version.specs.Reply.{reply_size, none, entry_bytes, entry_in, flat, entries, entry_of, table_in}

-- eight bytes for each component
length_flat : (es : List Running) → length (flat es) ≡ 8 * length es
unfolding flat
length_flat es = omega (arith, pieces_sized entry_bytes flat refl (λ e l. refl) 8 (λ e. refl) es)

-- one component more is written
flat_more : (es : List Running) (i : ℕ) → i < length es → flat (take (i + 1) es) ≡ flat (take i es) ++ entry_bytes (get_or es i none)
unfolding flat
flat_more es i h = piece_more entry_bytes flat refl (λ e l. refl) i es none h

-- what follows n of m zeros
drop_replicate : (n m v : ℕ) → drop n (replicate m v) ≡ replicate (m - n) v
drop_replicate zero m v = simp unary_clauses
drop_replicate (suc n) zero v = let e : 0 - suc n ≡ 0 = omega arith in rw e
drop_replicate (suc n) (suc m) v = simp unary_clauses (drop_replicate n m v)

-- the packet after i components
unfoldable pub sofar : (count protocol : ℕ) → List Running → ℕ → List ℕ
sofar count protocol es i = (count ∷ 0 ∷ 0 ∷ protocol ∷ flat (take i es)) ++ replicate (8 * component_limit - 8 * i) 0

-- it has all its bytes at every turn
pub length_sofar : (count protocol : ℕ) (es : List Running) (i : ℕ) → length es ≡ component_limit → i ≤ component_limit → length (sofar count protocol es i) ≡ reply_size
unfolding sofar
length_sofar count protocol es i l h =
    let n : length (take i es) ≡ i = length-take-le i es (omega arith) in
    let m = length_flat (take i es) in
    simp (length-append, length-replicate) (omega arith)

-- a part that starts where x ends becomes b
put_at : (x z b : List ℕ) (a k : ℕ) → length x ≡ a → put_mid a k (x ++ z) b ≡ x ++ (b ++ drop k z)
put_at x z b a k e = simp (take_at x z a e, drop_at x z a e)

-- a turn of the writing
pub sofar_more : (count protocol : ℕ) (es : List Running) (i : ℕ) (p b : List ℕ) → length es ≡ component_limit → i < component_limit → p ≡ sofar count protocol es i
    → b ≡ entry_bytes (get_or es i none) → put_mid (4 + 8 * i) (4 + 8 * i + 8 - (4 + 8 * i)) p b ≡ sofar count protocol es (i + 1)
unfolding sofar
sofar_more count protocol es i p b l h e f =
    let k : 4 + 8 * i + 8 - (4 + 8 * i) ≡ 8 = omega arith in
    let n : length (take i es) ≡ i = length-take-le i es (omega arith) in
    let m = length_flat (take i es) in
    let x : List ℕ = count ∷ 0 ∷ 0 ∷ protocol ∷ flat (take i es) in
    let a : length x ≡ 4 + 8 * i = omega arith in
    let z : 8 * component_limit - 8 * i - 8 ≡ 8 * component_limit - 8 * (i + 1) = omega arith in
    let g : i < length es = omega arith in
    rw (e, f, k)
    (put_at x (replicate (8 * component_limit - 8 * i) 0) (entry_bytes (get_or es i none)) (4 + 8 * i) 8 a
    ∙ simp (drop_replicate, z, flat_more es i g, append_assoc))

-- as many components are read as asked
pub length_entries : (n : ℕ) (q : List ℕ) → length (entries n q) ≡ n
unfolding entries
length_entries n q = read_sized 8 entry_in entries (λ q. refl) (λ n q. refl) n q

-- component k of the first n
entries_at : (n k : ℕ) (q : List ℕ) (d : Running) → k < n → get_or (entries n q) k d ≡ entry_in (drop (8 * k) q)
unfolding entries
entries_at n k q d h =
    let e : k * 8 ≡ 8 * k = omega arith in
    read_at 8 entry_in entries (λ q. refl) (λ n q. refl) n k q d h ∙ ap (λ (i : ℕ). entry_in (drop i q)) e

-- component k of a reply's bytes
module _ (p : List ℕ) (count : ℕ) (b : count ≤ component_limit) where
  table_at : (k : ℕ) (d : Running) → k < component_limit → get_or (table_in p count) k d ≡ entry_of p count k
  unfolding table_in
  table_at k d h = go (ltb k count) refl
    where
      q : List ℕ
      q = drop 4 p

      z : List Running
      z = replicate (component_limit - count) none

      go : (t : Bool) → ltb k count ≡ t → get_or (entries count q ++ z) k d ≡ cond t (entry_in (drop (8 * k) q)) none
      go true e =
          let l : k < count = ltb-true k count e in
          get_or_append_left (entries count q) z d k (omega (arith, length_entries count q)) ∙ entries_at count k q d l
      go false e =
          let l : count ≤ k = ltb-false k count e in
          get_or-append_right (entries count q) z count k d (length_entries count q) l ∙ get_or-replicate (component_limit - count) (k - count) none d (omega arith)

  -- all of them are read
  pub table_read : (es : List Running) → length es ≡ component_limit → ((k : ℕ) → k < component_limit → get_or es k none ≡ entry_of p count k) → es ≡ table_in p count
  unfolding table_in
  table_read es h at =
      let m : length (table_in p count) ≡ component_limit = simp (length-append, length_entries, length-replicate) (omega arith) in
      same_lists es (table_in p count) (h ∙ sym m) (λ k d l.
      let l' : k < component_limit = omega (arith, h) in
      get_or_default es k d none l ∙ at k l' ∙ sym (table_at k d l'))
