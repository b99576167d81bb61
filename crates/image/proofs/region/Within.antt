-- A change inside a region of a buffer: what is there afterwards, and what is left alone. Assumes nothing.
use mathlib.Core.Path.{◌≡◌, refl, sym, ap, ◌∙◌}
use mathlib.Core.Bool.{Bool, true, false, ◌&&◌}
use mathlib.Core.Logic.{◌⊎◌, inl, inr}
use mathlib.Core.List.{List, ◌++◌, append_assoc}
use Prim.Native.Nat.{ℕ, ◌+◌, ◌-◌, ◌^◌, ◌≤◌, ◌<◌}
use native.Mathlib.Omega.{arith}
use borrow.Author.Tests.{leb-true, le-leb, lt-ltb}
use lib.Dec.{leb, ltb}
use lib.ListN.{length, get_or, take, drop, length-append, length-take, length-drop, length-replicate, get_or-append, take-append-drop}
use lib.Seq.{take_at, drop_at, drop-append-le, get_or-append-add, get_or-take, get_or-drop, ext_get_or, take-take, take-add, drop-drop}
use Rattle.wire.specs.declared.address.RegionAddress.{RegionAddress}
use Rattle.wire.proofs.Tests.{both}
use Rattle.image.specs.Region.{place_of, is_inside, holds, within, region_bytes, blank, put, erase_of, write_of}
use Rattle.image.specs.declared.region.Region.{Region}

-- two regions that do not overlap: one lies before the other
abbrev pub Apart : Region → Region → Type 0
Apart r r' = (r.base.0 + r.len ≤ r'.base.0) ⊎ (r'.base.0 + r'.len ≤ r.base.0)

-- the bytes of a region that the buffer holds are as many as it says
pub region_length : (r : Region) (s : List ℕ) → r.base.0 + r.len ≤ length s → length (region_bytes r s) ≡ r.len
unfolding region_bytes
region_length r s h = simp (length-take, length-drop) (omega arith)

-- an erase leaves as many bytes
pub blank_length : (n : ℕ) → length (blank n) ≡ n
unfolding blank
blank_length n = length-replicate n 0xFF

-- a write keeps the length
pub put_length : (at : ℕ) (bytes l : List ℕ) → at + length bytes ≤ length l → length (put at bytes l) ≡ length l
unfolding put
put_length at bytes l h = simp (length-append, length-take, length-drop) (omega arith)

-- a byte of a region
pub region_byte : (r : Region) (s : List ℕ) (i : ℕ) → i < r.len → get_or (region_bytes r s) i 0 ≡ get_or s (r.base.0 + i) 0
unfolding region_bytes
region_byte r s i h = get_or-take r.len (drop r.base.0 s) i 0 h ∙ get_or-drop r.base.0 s i 0

-- where every byte outside one region stays, so do the bytes of a region that does not overlap it
pub kept_apart : (r r' : Region) (s s' : List ℕ) → length s' ≡ length s → ((j : ℕ) → (j < r.base.0) ⊎ (r.base.0 + r.len ≤ j) → get_or s' j 0 ≡ get_or s j 0)
    → r'.base.0 + r'.len ≤ length s → Apart r r' → region_bytes r' s' ≡ region_bytes r' s
kept_apart r r' s s' l h i a =
    let n = region_length r' s' (omega arith) in
    ext_get_or 0 _ _ (n ∙ sym (region_length r' s i))
    (λ j q. let q' : j < r'.len = omega arith in
    region_byte r' s' j q' ∙ h (r'.base.0 + j) (out j q' a) ∙ sym (region_byte r' s j q'))
  where
    out : (j : ℕ) → j < r'.len → Apart r r' → (r'.base.0 + j < r.base.0) ⊎ (r.base.0 + r.len ≤ r'.base.0 + j)
    out j q (inl z) = inr (omega arith)
    out j q (inr z) = inl (omega arith)

-- only what becomes of the region's own bytes counts
pub within_same : (r : Region) (f g : List ℕ → List ℕ) (s : List ℕ) → f (region_bytes r s) ≡ g (region_bytes r s) → within r.base.0 r.len f s ≡ within r.base.0 r.len g s
unfolding within region_bytes
within_same r f g s e = ap (λ (l : List ℕ). take r.base.0 s ++ (l ++ drop (r.base.0 + r.len) s)) e

module _ (r : Region) (f : List ℕ → List ℕ) (s : List ℕ) (h : r.base.0 + r.len ≤ length s) (k : length (f (region_bytes r s)) ≡ r.len) where
  head_length : length (take r.base.0 s) ≡ r.base.0
  head_length = simp length-take (omega arith)

  front_length : length (take r.base.0 s ++ f (region_bytes r s)) ≡ r.base.0 + r.len
  front_length = rw (length-append, head_length, k)

  -- the buffer keeps its length
  pub within_length : length (within r.base.0 r.len f s) ≡ length s
  unfolding within region_bytes
  within_length = simp (length-append, head_length, k, length-drop) (omega arith)

  take_within : take r.base.0 (within r.base.0 r.len f s) ≡ take r.base.0 s
  unfolding within
  take_within = take_at (take r.base.0 s) _ r.base.0 head_length

  drop_within : drop (r.base.0 + r.len) (within r.base.0 r.len f s) ≡ drop (r.base.0 + r.len) s
  unfolding within region_bytes
  drop_within =
      rw (← (append_assoc (take r.base.0 s) (f (region_bytes r s)) (drop (r.base.0 + r.len) s)))
      (drop_at (take r.base.0 s ++ f (region_bytes r s)) (drop (r.base.0 + r.len) s) (r.base.0 + r.len) front_length)

  -- the region's own bytes are changed by f
  pub within_own : region_bytes r (within r.base.0 r.len f s) ≡ f (region_bytes r s)
  unfolding within region_bytes
  within_own =
      ap (take r.len) (drop_at (take r.base.0 s) (f (region_bytes r s) ++ drop (r.base.0 + r.len) s) r.base.0 head_length)
      ∙ take_at (f (region_bytes r s)) (drop (r.base.0 + r.len) s) r.len k

  -- a second change is one change, after the first
  pub within_twice : (g : List ℕ → List ℕ) → within r.base.0 r.len g (within r.base.0 r.len f s) ≡ within r.base.0 r.len (λ (l : List ℕ). g (f l)) s
  unfolding within region_bytes
  within_twice g = simp (take_within, drop_within, within_own)

  -- a byte outside the region stays
  pub within_out : (j : ℕ) → (j < r.base.0) ⊎ (r.base.0 + r.len ≤ j) → get_or (within r.base.0 r.len f s) j 0 ≡ get_or s j 0
  unfolding within region_bytes
  within_out j (inl q) = get_or-append (take r.base.0 s) _ 0 j (omega (arith, head_length)) ∙ get_or-take r.base.0 s j 0 q
  within_out j (inr q) =
      let n = r.base.0 + r.len in
      let e : length (take r.base.0 s ++ f (region_bytes r s)) + (j - n) ≡ j = omega (arith, front_length) in
      let e' : n + (j - n) ≡ j = omega arith in
      rw (← (append_assoc (take r.base.0 s) (f (region_bytes r s)) (drop n s)))
      (ap (λ (i : ℕ). get_or ((take r.base.0 s ++ f (region_bytes r s)) ++ drop n s) i 0) (sym e)
      ∙ get_or-append-add (take r.base.0 s ++ f (region_bytes r s)) (drop n s) (j - n) 0
      ∙ get_or-drop n s (j - n) 0 ∙ ap (λ (i : ℕ). get_or s i 0) e')

  -- so do the bytes of a region that does not overlap it
  pub within_apart : (r' : Region) → r'.base.0 + r'.len ≤ length s → Apart r r' → region_bytes r' (within r.base.0 r.len f s) ≡ region_bytes r' s
  within_apart r' h' a = kept_apart r r' s _ within_length within_out h' a

module _ (r : Region) (n : ℕ) where
  -- a guard that lets pass says where the region lies
  pub inside : is_inside r n ≡ true → r.base.0 + r.len ≤ n
  inside e = leb-true (r.base.0 + r.len) n (both (leb (r.base.0 + r.len) n) (ltb (r.base.0 + r.len) (2 ^ 32)) e).0

  -- a region that ends in a buffer of less than 4 GiB lies in it
  pub lies_inside : r.base.0 + r.len ≤ n → n < 2 ^ 32 → is_inside r n ≡ true
  lies_inside h k = rw (le-leb (r.base.0 + r.len) n h) (lt-ltb (r.base.0 + r.len) (2 ^ 32) (omega arith))

-- bytes that are put at an address of a region stand at the offset of that address: the region's base turns the one into the other
pub put_place : (r : Region) (a : RegionAddress) (bytes s : List ℕ) → r.base.0 + r.len ≤ length s → a.0 + length bytes ≤ r.len
    → within r.base.0 r.len (put a.0 bytes) s ≡ put (place_of r a).0 bytes s
unfolding within put
put_place r a bytes s h k =
    let b = r.base.0 in
    let m = a.0 + length bytes in
    let own = take r.len (drop b s) in
    let fits : m ≤ length own = simp (length-take, length-drop) (omega arith) in
    let sum : b + m ≡ b + a.0 + length bytes = omega arith in
    let whole : own ++ drop (b + r.len) s ≡ drop b s = rw (← (drop-drop r.len b s)) (take-append-drop r.len (drop b s)) in
    let tail : drop m own ++ drop (b + r.len) s ≡ drop (b + a.0 + length bytes) s
    = sym (drop-append-le m own (drop (b + r.len) s) fits) ∙ rw (whole, drop-drop, sum) in
    let front : take b s ++ take a.0 own ≡ take (b + a.0) s = rw (take-take a.0 r.len (drop b s) (omega arith)) (sym (take-add b a.0 s)) in
    rw (append_assoc, append_assoc, tail, ← (append_assoc (take b s) (take a.0 own) (bytes ++ drop (b + a.0 + length bytes) s)), front)

module _ (r : Region) (s : List ℕ) where
  -- an erase is a change inside the region
  pub erase_inside : is_inside r (length s) ≡ true → erase_of r s ≡ within r.base.0 r.len (λ old. blank r.len) s
  unfolding erase_of
  erase_inside e = rw e

  -- an erase keeps the buffer's length
  pub erase_length : length (erase_of r s) ≡ length s
  unfolding erase_of
  erase_length = go (is_inside r (length s)) refl where
    go : (b : Bool) → is_inside r (length s) ≡ b → length (erase_of r s) ≡ length s
    go true e = rw e (within_length r _ s (inside r (length s) e) (blank_length r.len))
    go false e = rw e

  module _ (a : RegionAddress) (bytes : List ℕ) where
    -- a write puts the bytes at the offset of their address
    pub write_put : is_inside r (length s) ≡ true → holds r a (length bytes) ≡ true → write_of r a bytes s ≡ put (place_of r a).0 bytes s
    unfolding write_of
    write_put e e' = rw (e, e')

    -- so it is a change inside the region
    pub write_inside : is_inside r (length s) ≡ true → holds r a (length bytes) ≡ true → write_of r a bytes s ≡ within r.base.0 r.len (put a.0 bytes) s
    write_inside e e' = write_put e e' ∙ sym (put_place r a bytes s (inside r (length s) e) (leb-true (a.0 + length bytes) r.len e'))

    -- the bytes lie in the buffer
    pub write_fits : is_inside r (length s) ≡ true → holds r a (length bytes) ≡ true → (place_of r a).0 + length bytes ≤ length s
    write_fits e e' = omega (arith, inside r (length s) e, leb-true (a.0 + length bytes) r.len e')

    -- and the buffer keeps its length
    pub write_length : length (write_of r a bytes s) ≡ length s
    unfolding write_of
    write_length = go (is_inside r (length s) && holds r a (length bytes)) refl where
      go : (b : Bool) → (is_inside r (length s) && holds r a (length bytes)) ≡ b → length (write_of r a bytes s) ≡ length s
      go true e = let g = both _ _ e in rw e (put_length (place_of r a).0 bytes s (write_fits g.0 g.1))
      go false e = rw e
