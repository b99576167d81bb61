-- What is written into a packet. Assumes nothing.
use mathlib.Core.Path.{◌≡◌}
use mathlib.Core.Bool.{Bool}
use mathlib.Core.List.{List, ◌++◌, append-nil}
use Rattle.std.specs.Prelude.{Some}
use Prim.Native.Nat.{ℕ, ◌+◌, ◌≤◌}
use native.Mathlib.Omega.{arith}
use lib.ListN.{length, take, drop, set, replicate, length-set, length-take, length-drop, length-append, length-replicate}
use lib.Seq.{take_at}
use Rattle.wire_content.specs.Content.{content_bytes, cleared}
use Rattle.bundle_records.specs.Record.{Block}
use Rattle.bundle_layout.specs.Layout.{table_end}
use Rattle.host_packet.specs.declared.answer.Sent.TheVariants as sent
use Rattle.host_packet.specs.Packet.{block_bytes}
use Rattle.host_packet.specs.Made.{sending, laid_by}

-- 16 bytes, filled up by zeros
pub offer_laid : (p l : List ℕ) (cursor : ℕ) → length p ≡ 16 → l ≡ p ++ replicate 44 0
    → laid_by cursor (Some (record { sent = sent.Offer; cursor = cursor })) l ≡ sending p cursor
offer_laid p l cursor n e = rw (e, take_at p (replicate 44 0) 16 n, n)

-- 60 bytes
pub content_laid : (p l : List ℕ) (cursor : ℕ) → length p ≡ 60 → l ≡ p
    → laid_by cursor (Some (record { sent = sent.Content; cursor = cursor })) l ≡ sending p cursor
content_laid p l cursor n e = rw (e, n, append-nil p)

-- the offer of an entry that the bytes have
pub offer_length : (b : List ℕ) (entry token : ℕ) → table_end (entry + 1) ≤ length b → length (set (take 16 (drop (table_end entry) b)) 3 token) ≡ 16
offer_length b entry token h = simp (length-set, length-take, length-drop) (omega arith)

-- a block is 60 bytes
pub block_length : (k : ℕ) (last : Bool) (r : Block) → length r.bytes ≤ 52 → length (block_bytes k last r) ≡ 60
unfolding content_bytes cleared
block_length k last r h = simp (length-append, length-take, length-replicate) (omega arith)
