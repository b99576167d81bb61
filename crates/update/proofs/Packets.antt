-- The packets of a host's actions over an accepted bundle: each is one that a builder answers, and what a list of packets reads in it. Assumes nothing.
use mathlib.Core.Path.{◌≡◌, refl, sym, ap, subst, ◌∙◌}
use mathlib.Core.Bool.{Bool, true, false, ◌&&◌}
use mathlib.Core.List.{List, [], ◌∷◌, ◌++◌}
use Prim.Native.Nat.{ℕ, zero, suc, ◌<◌, ◌≤◌}
use native.Mathlib.Nat.{mod-lt}
use native.Mathlib.Omega.{arith}
use borrow.Author.Tests.{ne_eqb, eq-eqb, lt-ltb, le-leb}
use lib.Dec.{eqb}
use lib.ListN.{length, get_or, set, length-append, length-take, length-replicate, length-set, drop_of_length-le}
use lib.Seq.{get_or-take, get_or-set_other}
use Rattle.wire.specs.Bytes.{Packet, Bytes, bytes_at}
use Rattle.wire.specs.Checks.{All}
use Rattle.wire.specs.Codes.{kind_information, kind_extended}
use Rattle.wire.specs.Rows as packet
use Rattle.wire.specs.Rows.{Told}
use Rattle.wire.proofs.Bounds.{first_bytes}
use Rattle.wire.proofs.words.Laws.{round, split}
use Rattle.wire_offer.specs.Offer as offer
use Rattle.wire_offer.proofs.offer.Laws.{read_allowed, fields_bytes}
use Rattle.wire_content.specs.Content as content
use Rattle.wire_content.specs.declared.content.ContentFields.{ContentFields}
use Rattle.bundle_layout.specs.Layout.{count_in, offer_in, id_in}
use Rattle.bundle.proofs.Accepted.{Accepted}
use Rattle.host_record.specs.Record.{sequence_of}
use Rattle.host.specs.Step.{entry_at, blocks_at, is_last, no_block, block_at, block_packet, packet_of}
use Rattle.host_record.specs.declared.record.Place.{Place}
use Rattle.host_decide.specs.declared.Action.{Action}
use Rattle.host_decide.specs.declared.Action.TheVariants.{Nothing, Information, Notify, Offer, Block}
use Rattle.update.specs.Trace.{opens_pass, about, completes}
use Rattle.update.specs.Ends.{Built, an_information, an_extended, an_offer, a_content}
use Rattle.host_decide.proofs.Moves.{is_taken}
use Rattle.host_packet.proofs.Flags.{flags_sound, flags_last}

-- an action that the bundle has the bytes for
abbrev pub Has : (b : List ℕ) → Action → Type 0
Has b Nothing = Unit {0}
Has b (Information code) = Unit {0}
Has b Notify = Unit {0}
Has b (Offer e) = e < count_in b
Has b (Block p) = (p.entry < count_in b) × (p.block < length (blocks_at b p.entry))

-- a byte among bytes
set_bytes : (l : List ℕ) (i v : ℕ) → Bytes l → v < 256 → Bytes (set l i v)
set_bytes [] i v h k j = omega arith
set_bytes (x ∷ l) zero v h k zero = k
set_bytes (x ∷ l) zero v h k (suc j) = h (suc j)
set_bytes (x ∷ l) (suc i) v h k zero = h zero
set_bytes (x ∷ l) (suc i) v h k (suc j) = set_bytes l i v (λ m. h (suc m)) k j

-- 16 bytes, one by one
sixteen : (q : List ℕ) → length q ≡ 16 → q ≡ bytes_at 16 0 q ++ []
sixteen q h = split 16 q (omega arith) ∙ ap (λ (r : List ℕ). bytes_at 16 0 q ++ r) (drop_of_length-le q {i = 16} (omega arith))

-- an offer with no reserved bit is what is built of its fields
offer_built : (q : List ℕ) → Packet 16 q → get_or q 2 0 ≤ 0xFD → get_or q 1 0 ≡ 0 → get_or q 12 0 ≡ 2 → get_or q 13 0 ≡ 0 → Built q
unfolding offer.build_of offer.clean_offer
offer_built q k l e1 e12 e13 =
    let a = read_allowed q k (ne_eqb (get_or q 2 0) kind_information (omega arith)) (ne_eqb (get_or q 2 0) kind_extended (omega arith)) in
    let w : offer.build_of (offer.fields_in q) ≡ record { row = packet.served; value = q } =
    rw a (ap (λ (v : List ℕ). record { row = packet.served; value = v }) (fields_bytes q k ∙ simp (e1, e12) (sym (sixteen q k.size ∙ simp (e1, e12, e13))))) in
    subst Built (ap (λ (t : Told (List ℕ)). t.value) w) (an_offer (offer.fields_in q) (ap (λ (t : Told (List ℕ)). t.row) w))

-- content with proper flags and length is what is built of its fields
content_built : (c : ContentFields) → content.allowed c.flags c.length ≡ true → Built (content.content_bytes c)
unfolding content.build_of
content_built c a =
    let w : content.build_of c ≡ record { row = packet.served; value = content.content_bytes c } = rw a in
    subst Built (ap (λ (t : Told (List ℕ)). t.value) w) (a_content c (ap (λ (t : Told (List ℕ)). t.row) w))

-- two tests in either order
and_swap : (x y : Bool) → (x && y) ≡ (y && x)
and_swap true true = refl
and_swap true false = refl
and_swap false true = refl
and_swap false false = refl

module _ (b : List ℕ) (α : Accepted b) where
  -- the offer of an entry, with our token
  abbrev pub offer_packet : (token e : ℕ) → List ℕ
  offer_packet token e = set (offer_in (entry_at b e)) 3 token

  -- has the entry's bytes but for the token
  offer_byte : (token e i : ℕ) → i < 16 → (i ≡ 3 → ⊥) → get_or (offer_packet token e) i 0 ≡ get_or (entry_at b e) i 0
  offer_byte token e i l n = get_or-set_other (offer_in (entry_at b e)) 3 i token 0 n ∙ get_or-take 16 (entry_at b e) i 0 l

  -- is 16 bytes
  pub offer_packet_lem : (token e : ℕ) → token < 256 → e < count_in b → Packet 16 (offer_packet token e)
  offer_packet_lem token e t l =
      let k = α.packet e l in
      record {
        size = length-set (offer_in (entry_at b e)) 3 token ∙ length-take 16 (entry_at b e) ∙ omega (arith, k.size);
        bytes = set_bytes (offer_in (entry_at b e)) 3 token (first_bytes 16 (entry_at b e) k.bytes) t;
      }

  -- has its id in byte 2
  pub offer_id : (token e : ℕ) → get_or (offer_packet token e) 2 0 ≡ id_in (entry_at b e)
  offer_id token e = offer_byte token e 2 (omega arith) (omega arith)

  -- a block's data fills 52 bytes
  pub block_length : (p : Place) → p.entry < count_in b → p.block < length (blocks_at b p.entry) → length (block_packet b p) ≡ 60
  unfolding content.content_bytes content.cleared
  block_length p l m =
      let c = (α.carries (entry_at b p.entry)).each p.block no_block m in
      simp (length-append, length-take, length-replicate) (omega arith)

  -- a block is what is built of its fields
  block_built : (p : Place) → p.entry < count_in b → p.block < length (blocks_at b p.entry) → Built (block_packet b p)
  block_built p l m =
      let c = (α.carries (entry_at b p.entry)).each p.block no_block m in
      content_built _ (rw (flags_sound (eqb p.block 0) (is_last b p), le-leb 1 (length (block_at b p).bytes) c.some, le-leb (length (block_at b p).bytes) 52 c.few))

  -- every packet is one that a builder answers
  pub all_built : (token : ℕ) (a : Action) → token < 256 → Has b a → All Built (packet_of b token a)
  unfolding packet_of
  all_built token Nothing t h = tt
  all_built token (Information code) t h = (an_information _, tt)
  all_built token Notify t h = (an_extended _, tt)
  all_built token (Offer e) t h =
      let o = α.offer e h in (
        offer_built (offer_packet token e) (offer_packet_lem token e t h) (omega (arith, offer_id token e, o.high))
            (offer_byte token e 1 (omega arith) (omega arith) ∙ o.flags)
            (offer_byte token e 12 (omega arith) (omega arith) ∙ o.protocol)
            (offer_byte token e 13 (omega arith) (omega arith) ∙ o.reserved),
        tt,
      )
  all_built token (Block p) t h = (block_built p h.0 h.1, tt)

  -- an offer opens no pass
  pub offer_opens : (token e : ℕ) → token < 256 → e < count_in b → opens_pass (offer_packet token e) ≡ false
  offer_opens token e t l =
      let o = α.offer e l in
      simp ((offer_packet_lem token e t l).size, offer_id token e, ne_eqb (id_in (entry_at b e)) kind_information (omega (arith, o.high)))

  -- completes nothing
  pub offer_completes : (token e : ℕ) (reply : List ℕ) → token < 256 → e < count_in b → completes (offer_packet token e) reply ≡ false
  offer_completes token e reply t l = simp (offer_packet_lem token e t l).size

  -- is about its entry
  pub offer_about : (token e id : ℕ) → token < 256 → e < count_in b → about id (offer_packet token e) ≡ id_in (entry_at b e)
  offer_about token e id t l =
      let o = α.offer e l in
      simp ((offer_packet_lem token e t l).size, offer_id token e, lt-ltb (id_in (entry_at b e)) kind_extended (omega (arith, o.high)))

  -- a block opens no pass
  pub block_opens : (p : Place) → p.entry < count_in b → p.block < length (blocks_at b p.entry) → opens_pass (block_packet b p) ≡ false
  block_opens p l m = rw (block_length p l m)

  -- is about no entry
  pub block_about : (p : Place) (id : ℕ) → p.entry < count_in b → p.block < length (blocks_at b p.entry) → about id (block_packet b p) ≡ id
  block_about p id l m = rw (block_length p l m)

  -- completes its entry where it is the last and was taken
  pub block_completes : (p : Place) (reply : List ℕ) → p.entry < count_in b → p.block < length (blocks_at b p.entry)
      → completes (block_packet b p) reply ≡ (is_taken p reply && is_last b p)
  unfolding content.content_bytes
  block_completes p reply l m =
      rw (eq-eqb (length (block_packet b p)) 60 (block_length p l m), flags_last (eqb p.block 0) (is_last b p), round 2 (sequence_of p.block) (mod-lt p.block (omega arith)))
      (and_swap (is_last b p) (is_taken p reply))
