-- The packets: the bytes that a copy leaves, what is cleared after them, and a block's content. Assumes nothing.
use mathlib.Core.Path.{◌≡◌, refl, sym, ap, ◌∙◌}
use mathlib.Core.Bool.{Bool}
use mathlib.Core.List.{List, [], ◌++◌, append-nil}
use Prim.Native.Nat.{ℕ, ◌+◌, ◌-◌, ◌≤◌}
use native.Mathlib.Omega.{arith}
use lib.Dec.{eqb}
use lib.Seq.{take_at}
use Rattle.wire.specs.Bytes.{copy_of}
use Rattle.wire.proofs.Pieces.{put_more}
use Rattle.wire.proofs.words.Copies.{copy_same}
use lib.ListN.{length, take, drop, replicate, length-append, length-take, length-drop, length-replicate, drop_of_length-le}
use Rattle.wire.specs.declared.address.RegionAddress.{RegionAddress}
use Rattle.wire_content.specs.Content.{head_of, content_bytes, cleared}
use Rattle.host_record.specs.Record.{sequence_of}
use Rattle.host_packet.specs.Packet.{flags_of, block_bytes}

-- the k bytes behind the first `at` are cleared
pub clear_rest : (q front last : List ℕ) (at k m : ℕ) → m ≡ k → length q ≡ at + k → take at q ≡ front → last ≡ replicate (length (take m (drop at q))) 0
    → take at q ++ (last ++ drop m (drop at q)) ≡ front ++ replicate k 0
clear_rest q front last at k m p l f e =
    let n : length (take m (drop at q)) ≡ k = simp (length-take, length-drop) (omega arith) in
    let d : drop m (drop at q) ≡ [] = drop_of_length-le (drop at q) {i = m} (simp length-drop (omega arith)) in
    rw (f, d, append-nil, e, n)

-- a record's data in the bytes
pub part_length : (b : List ℕ) (start size : ℕ) → start + size ≤ length b → length (take size (drop start b)) ≡ size
part_length b start size h = simp (length-take, length-drop) (omega arith)

-- a head and data after it, the rest cleared
block_laid : (k : ℕ) (last : Bool) (a : RegionAddress) (d : List ℕ) (size n : ℕ) → length d ≡ size → n ≡ 52 - size
    → (head_of (flags_of (eqb k 0) last) size (sequence_of k) a ++ d) ++ replicate n 0 ≡ block_bytes k last (record { address = a; bytes = d })
unfolding content_bytes cleared
block_laid k last a d size n e p =
    let t : length (d ++ replicate (52 - length d) 0) - length d ≡ n = simp (length-append, length-replicate) (omega arith) in
    rw (t, take_at d (replicate (52 - length d) 0) (length d) refl, e)

-- the head, the record's data after it, the rest cleared: as they are stored in 60 bytes, one after the other
module _ (p head first b second rest : List ℕ) (start n : ℕ) where
  abbrev with_head : List ℕ
  with_head = first ++ drop 8 p

  abbrev with_data : List ℕ
  with_data = take 8 with_head ++ (second ++ drop (8 + n - 8) (drop 8 with_head))

  pub block_stored : (k : ℕ) (last : Bool) (a : RegionAddress) → length p ≡ 60 → n ≤ 52 → start + n ≤ length b
      → head ≡ head_of (flags_of (eqb k 0) last) n (sequence_of k) a
      → first ≡ copy_of (take 8 p) head
      → second ≡ copy_of (take (8 + n - 8) (drop 8 with_head)) (take (start + n - start) (drop start b))
      → rest ≡ replicate (length (take (60 - (8 + n)) (drop (8 + n) with_data))) 0
      → take (8 + n) with_data ++ (rest ++ drop (60 - (8 + n)) (drop (8 + n) with_data)) ≡ block_bytes k last (record { address = a; bytes = take n (drop start b) })
  block_stored k last a e f g h x y z =
      let d = take n (drop start b) in
      let l = part_length b start n g in
      let w = put_more p head first 0 8 8 refl (ap length h) (omega arith) x in
      let m : start + n - start ≡ n = omega arith in
      let v = put_more with_head d second 8 n (8 + n - 8) (omega arith) l (omega (arith, w.0)) (rw m at y) in
      clear_rest with_data (take 8 with_head ++ d) rest (8 + n) (52 - n) (60 - (8 + n)) (omega arith) (omega (arith, v.0, w.0)) v.1 z
      ∙ ap (λ (t : List ℕ). (t ++ d) ++ replicate (52 - n) 0) (w.1 ∙ h)
      ∙ block_laid k last a d n (52 - n) l refl

-- a copy over as many zeros
pub copied : (n : ℕ) (p r : List ℕ) → length p ≡ n → r ≡ copy_of (replicate n 0) p → r ≡ p
copied n p r l e = e ∙ copy_same (replicate n 0) p (length-replicate n 0 ∙ sym l)

-- 16 bytes of the table
pub offer_copied : (b : List ℕ) (at m : ℕ) (r : List ℕ) → m ≡ 16 → at + 16 ≤ length b → r ≡ copy_of (replicate 16 0) (take m (drop at b)) → r ≡ take 16 (drop at b)
offer_copied b at m r e h q = copied 16 (take 16 (drop at b)) r (part_length b at 16 h) (rw e at q)
