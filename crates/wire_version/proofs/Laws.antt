-- The version reply reads back. Assumes nothing.
use mathlib.Core.Path.{◌≡◌, refl, sym, ap, ap₂, ◌∙◌}
use mathlib.Core.Bool.{true}
use mathlib.Core.List.{List, [], ◌∷◌, ◌++◌}
use Prim.Native.Nat.{ℕ, zero, suc, ◌*◌, ◌-◌, ◌%◌, ◌≤◌}
use native.Mathlib.Omega.{arith}
use borrow.Author.Tests.{leb-true, eqb-true}
use lib.Dec.{leb, eqb}
use lib.ListN.{length, get_or, take, drop, replicate, length-append, length-replicate}
use lib.Seq.{take_at, length-take-le}
use Rattle.wire.specs.Bytes.{Bytes, Packet, bytes_at}
use Rattle.wire.specs.Codes.{protocol_number, component_limit}
use Rattle.wire.specs.Rows.{served}
use Rattle.wire.proofs.Bounds.{rest_bytes}
use Rattle.wire.proofs.Tests.{both, served_true}
use Rattle.wire.proofs.version.Laws.{parts, version_back}
use Rattle.wire.proofs.words.Laws.{round, back}
use Rattle.wire_version.specs.declared.Running.{Running}
use Rattle.wire_version.specs.declared.VersionReply.{VersionReply}
use Rattle.wire_version.specs.Reply.{reply_size, none, FitsEntry, FitsReply, allowed, entry_bytes, entry_in, flat, entries, clean_entries, reply_bytes, table_in, fields_in, norm, clean_reply, build_of, read_of}
use Rattle.wire_version.specs.RoundTrip.{VersionReplyR1, VersionReplyR2, VersionReplyR3}
use Rattle.wire_version.proofs.Entries.{sofar, length_sofar, length_entries}

-- what is known of a count and a protocol that are not refused
pub known : (count protocol : ℕ) → allowed count protocol ≡ true → (count ≤ component_limit) × (protocol ≡ protocol_number)
known count protocol h = let k = both (leb count component_limit) (eqb protocol protocol_number) h in (leb-true count component_limit k.0, eqb-true protocol protocol_number k.1)

-- one component reads back
entry_back : (e : Running) (z : List ℕ) → FitsEntry e → entry_in (entry_bytes e ++ z) ≡ e
entry_back e z f = simp (parts e.version, round 2 e.platform f.platform)

-- one component that was read is written again, byte 4 zero
bytes_back : (q : List ℕ) → Bytes q → entry_bytes (entry_in q) ≡ bytes_at 4 0 q ++ 0 ∷ bytes_at 3 5 q
bytes_back q h = ap₂ (λ (v l : List ℕ). v ++ 0 ∷ get_or q 5 0 ∷ l) (version_back 0 q h) (back 2 6 q h)

-- components that were written read back
entries_flat : (es : List Running) (z : List ℕ) → ((i : ℕ) → FitsEntry (get_or es i none)) → entries (length es) (flat es ++ z) ≡ es
unfolding entries flat
entries_flat [] z h = refl
entries_flat (e ∷ es) z h = ap₂ (λ (x : Running) (xs : List Running). x ∷ xs) (entry_back e (flat es ++ z) (h 0)) (entries_flat es z (λ i. h (suc i)))

-- components that were read are written again
flat_entries : (n : ℕ) (q : List ℕ) → Bytes q → flat (entries n q) ≡ clean_entries n q
unfolding entries flat clean_entries
flat_entries zero q h = refl
flat_entries (suc n) q h = ap₂ (λ (x y : List ℕ). x ++ y) (bytes_back q h) (flat_entries n (drop 8 q) (rest_bytes 8 q h))

-- reserved bytes change nothing that is read
entries_clean : (n : ℕ) (q z : List ℕ) → entries n (clean_entries n q ++ z) ≡ entries n q
unfolding entries clean_entries
entries_clean zero q z = refl
entries_clean (suc n) q z = ap (λ (t : List Running). entry_in q ∷ t) (entries_clean n (drop 8 q) z)

-- eight bytes for each component
length_clean : (n : ℕ) (q : List ℕ) → length (clean_entries n q) ≡ 8 * n
unfolding clean_entries
length_clean zero q = refl
length_clean (suc n) q = let ih = length_clean n (drop 8 q) in omega arith

-- the first n of components that fit do
fits_take : (n : ℕ) (es : List Running) → ((i : ℕ) → FitsEntry (get_or es i none)) → (i : ℕ) → FitsEntry (get_or (take n es) i none)
fits_take zero es h i = record { version = omega arith; id = omega arith; platform = omega arith }
fits_take (suc n) [] h i = h i
fits_take (suc n) (e ∷ es) h zero = h 0
fits_take (suc n) (e ∷ es) h (suc i) = fits_take n es (λ j. h (suc j)) i

-- a reply that is built, and its packet
module _ (r : VersionReply) (f : FitsReply r) (h : allowed r.count r.protocol ≡ true) where
  packet_length : length (reply_bytes r.count r.protocol r.components) ≡ reply_size
  unfolding reply_bytes sofar
  packet_length = length_sofar r.count r.protocol r.components r.count f.size (known r.count r.protocol h).0

  packet_table : (z : List ℕ) → entries r.count (flat (take r.count r.components) ++ z) ≡ take r.count r.components
  packet_table z =
      let l = known r.count r.protocol h in
      let n = length-take-le r.count r.components (omega (arith, f.size)) in
      let es = take r.count r.components in
      ap (λ (k : ℕ). entries k (flat es ++ z)) (sym n) ∙ entries_flat es z (fits_take r.count r.components f.each)

  protocol_kept : r.protocol % 16 ≡ r.protocol
  protocol_kept = omega (arith, (known r.count r.protocol h).1)

  packet_allowed : allowed (get_or (reply_bytes r.count r.protocol r.components) 0 0) (get_or (reply_bytes r.count r.protocol r.components) 3 0 % 16) ≡ true
  unfolding reply_bytes
  packet_allowed = rw protocol_kept h

  packet_fields : fields_in (reply_bytes r.count r.protocol r.components) ≡ norm r
  unfolding fields_in reply_bytes table_in
  packet_fields = simp (packet_table, protocol_kept)

-- a packet that is read, and the one with its reserved bits zero
module _ (p : List ℕ) (k : Packet reply_size p) (h : allowed (get_or p 0 0) (get_or p 3 0 % 16) ≡ true) where
  clean_length : length (clean_reply p) ≡ reply_size
  unfolding clean_reply
  clean_length =
      let l = known (get_or p 0 0) (get_or p 3 0 % 16) h in
      let n = length_clean (get_or p 0 0) (drop 4 p) in simp (length-append, length-replicate) (omega arith)

  fields_packet_lem : reply_bytes (get_or p 0 0) (get_or p 3 0 % 16) (table_in p (get_or p 0 0)) ≡ clean_reply p
  unfolding reply_bytes table_in clean_reply
  fields_packet_lem =
      simp (
        take_at (entries (get_or p 0 0) (drop 4 p)) (replicate (component_limit - get_or p 0 0) none) (get_or p 0 0) (length_entries (get_or p 0 0) (drop 4 p)),
        flat_entries (get_or p 0 0) (drop 4 p) (rest_bytes 4 p k.bytes),
      )

  protocol_clean : get_or p 3 0 % 16 % 16 ≡ get_or p 3 0 % 16
  protocol_clean = omega arith

  clean_allowed : allowed (get_or (clean_reply p) 0 0) (get_or (clean_reply p) 3 0 % 16) ≡ true
  unfolding clean_reply
  clean_allowed = rw protocol_clean h

  clean_fields : fields_in (clean_reply p) ≡ fields_in p
  unfolding fields_in clean_reply table_in
  clean_fields = simp (protocol_clean, entries_clean)

-- the answer of a build that is not refused
built : (r : VersionReply) → allowed r.count r.protocol ≡ true → build_of r ≡ record { row = served; value = reply_bytes r.count r.protocol r.components }
unfolding build_of
built r h = simp h

-- the answer of a read that is not refused
read : (q : List ℕ) → length q ≡ reply_size → allowed (get_or q 0 0) (get_or q 3 0 % 16) ≡ true → read_of q ≡ record { row = served; value = fields_in q }
unfolding read_of
read q l h = simp (l, h)

-- a build that is served is not refused
build_served : (r : VersionReply) → (build_of r).row ≡ served → allowed r.count r.protocol ≡ true
unfolding build_of
build_served r = served_true (allowed r.count r.protocol) _ _ _

-- a read that is served is not refused
read_served : (p : List ℕ) → Packet reply_size p → (read_of p).row ≡ served → allowed (get_or p 0 0) (get_or p 3 0 % 16) ≡ true
unfolding read_of
read_served p k = simp k.size (served_true (allowed (get_or p 0 0) (get_or p 3 0 % 16)) _ _ _)

-- what is built reads back, components at and past the count empty
pub version_reply_r1 : VersionReplyR1
version_reply_r1 r f s =
    let h = build_served r s in rw (built r h) (read _ (packet_length r f h) (packet_allowed r f h) ∙ rw (packet_fields r f h))

-- what was read and is built again is the packet with its reserved bits zero
pub version_reply_r2 : VersionReplyR2
unfolding fields_in
version_reply_r2 p k s =
    let h = read_served p k s in
    rw (read p k.size h) (built (fields_in p) h ∙ rw (fields_packet_lem p k h))

-- those bits change nothing that is read
pub version_reply_r3 : VersionReplyR3
version_reply_r3 p k s =
    let h = read_served p k s in
    read (clean_reply p) (clean_length p k h) (clean_allowed p k h) ∙ rw (clean_fields p k h) (sym (read p k.size h))
