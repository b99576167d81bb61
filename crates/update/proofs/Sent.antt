-- What the device reads in the offers and blocks of the host. Assumes nothing.
use Prim.Native.Nat.{ℕ, ◌+◌, ◌^◌, ◌≤◌, ◌<◌}
use mathlib.Core.Path.{◌≡◌, refl, ap}
use mathlib.Core.Bool.{Bool, true, false, not, cond, ◌||◌}
use mathlib.Core.List.{List, [], ◌∷◌, ◌++◌}
use native.Mathlib.Nat.{mod-lt}
use native.Mathlib.Omega.{arith}
use borrow.Author.Tests.{ne_eqb, le-leb, le-ltb}
use lib.Dec.{leb, ltb, eqb}
use lib.ListN.{length, get_or, set, take, drop, length-set}
use lib.Seq.{take-append_seam}
use Rattle.wire.specs.Codes.{kind_information, kind_extended, flag_first_block, flag_last_block, id_limit}
use Rattle.wire_offer.specs.Offer.{fields_in}
use Rattle.wire_offer.specs.Kind.{offer, kind_in}
use Rattle.wire_offer.specs.declared.offer.OfferFields.{OfferFields}
use Rattle.wire.proofs.words.Laws.{round}
use Rattle.wire_content.specs.Content.{cleared, content_bytes}
use Rattle.wire_content.specs.Head.{head_in}
use Rattle.wire_content.specs.declared.head.ContentHead.{ContentHead}
use Rattle.image.specs.declared.region.Region.{Region}
use Rattle.bundle_layout.specs.Layout.{count_in, offer_in}
use Rattle.bundle.proofs.Accepted.{Accepted}
use Rattle.device_receiving.specs.Content as device
use Rattle.device.proofs.Blocks.{Fitting}
use Rattle.host_record.specs.Record.{sequence_of}
use Rattle.host.specs.Step.{entry_at, is_last, flags_at, block_at, block_packet}
use Rattle.host_record.specs.declared.record.Place.{Place}
use Rattle.update.specs.Run.{is_middle}
use Rattle.update.specs.Claim.{offer_at}
use Rattle.host_packet.proofs.Flags.{flags_sound, flags_last}
use Rattle.update.proofs.Packets.{offer_packet, offer_packet_lem, offer_id}

-- an offer with another token
abbrev pub with_token : OfferFields → ℕ → OfferFields
with_token o token = record {
  segment = o.segment;
  force_immediate_reset = o.force_immediate_reset;
  force_ignore_version = o.force_ignore_version;
  id = o.id;
  token = token;
  version = o.version;
  need = o.need;
  least = o.least;
  protocol = o.protocol;
  platform = o.platform;
}

-- byte 3 is the token, and nothing else reads it
token_set : (l : List ℕ) (token : ℕ) → 4 ≤ length l → fields_in (set l 3 token) ≡ with_token (fields_in l) token
unfolding fields_in
token_set [] token h = absurd (omega arith)
token_set (a ∷ []) token h = absurd (omega arith)
token_set (a ∷ b ∷ []) token h = absurd (omega arith)
token_set (a ∷ b ∷ c ∷ []) token h = absurd (omega arith)
token_set (a ∷ b ∷ c ∷ d ∷ l) token h = refl

-- the first flag of a block
flags_first : (x y : Bool) → leb 128 (cond x flag_first_block 0 + cond y flag_last_block 0) ≡ x
flags_first true true = refl
flags_first true false = refl
flags_first false true = refl
flags_first false false = refl

-- neither flag
flags_none : (x y : Bool) → ltb (cond x flag_first_block 0 + cond y flag_last_block 0) flag_last_block ≡ not (x || y)
flags_none true true = refl
flags_none true false = refl
flags_none false true = refl
flags_none false false = refl

-- the data that counts is the record's
data_back : (bytes zeros : List ℕ) → take (length bytes) (cleared (length bytes) (bytes ++ zeros)) ≡ bytes
unfolding cleared
data_back bytes zeros = rw (take-append_seam bytes zeros) (take-append_seam bytes _)

module _ (b : List ℕ) where
  -- the head of a block as the device reads it
  abbrev pub head_at : Place → ContentHead
  head_at p = record {
    flags = flags_at b p;
    length = length (block_at b p).bytes;
    sequence = sequence_of p.block;
    address = (block_at b p).address;
  }

  -- what is read in the packet of a block
  pub block_reads : (p : Place) → (block_at b p).address.0 < 256 ^ 4 → head_in (block_packet b p) ≡ head_at p
  unfolding content_bytes
  block_reads p h = simp (round 2 (sequence_of p.block) (mod-lt p.block (omega arith)), round 4 (block_at b p).address.0 h)

  -- its data
  pub block_data : (p : Place) → take (length (block_at b p).bytes) (drop 8 (block_packet b p)) ≡ (block_at b p).bytes
  unfolding content_bytes
  block_data p = data_back (block_at b p).bytes _

  -- it fits the session that waits for it, and a region that holds it
  pub block_fits : (p : Place) (r : Region) → 1 ≤ length (block_at b p).bytes → length (block_at b p).bytes ≤ 52
      → (block_at b p).address.0 + length (block_at b p).bytes ≤ r.len → Fitting (head_at p) p.block r
  block_fits p r some few room =
      record {
        shape = rw (ne_eqb (length (block_at b p).bytes) 0 (omega arith), le-ltb 52 (length (block_at b p).bytes) few, flags_sound (eqb p.block 0) (is_last b p));
        first = flags_first (eqb p.block 0) (is_last b p);
        sequence = refl;
        room = le-leb ((block_at b p).address.0 + length (block_at b p).bytes) r.len room;
      }

  -- its last flag
  pub block_is_last : (p : Place) → device.is_last (head_at p) ≡ is_last b p
  block_is_last p = flags_last (eqb p.block 0) (is_last b p)

  -- its sequence
  pub block_sequence : (p : Place) → (head_in (block_packet b p)).sequence ≡ sequence_of p.block
  unfolding content_bytes
  block_sequence p = round 2 (sequence_of p.block) (mod-lt p.block (omega arith))

  -- a block is neither first nor last exactly where it has neither flag
  pub block_middle : (p : Place) → length (block_packet b p) ≡ 60 → is_middle (block_packet b p) ≡ not (eqb p.block 0 || is_last b p)
  unfolding content_bytes
  block_middle p l = rw l (flags_none (eqb p.block 0) (is_last b p))

  module _ (α : Accepted b) where
    -- the offer of an entry, with our token
    pub offer_reads : (token e : ℕ) → token < 256 → e < count_in b → kind_in (offer_packet b α token e) ≡ offer (with_token (offer_at b e) token)
    unfolding kind_in
    offer_reads token e t l =
        let q = offer_packet_lem b α token e t l in
        let id : get_or (offer_packet b α token e) 2 0 ≤ id_limit = omega (arith, offer_id b α token e, (α.offer e l).high) in
        rw (ne_eqb (get_or (offer_packet b α token e) 2 0) kind_information (omega arith), ne_eqb (get_or (offer_packet b α token e) 2 0) kind_extended (omega arith))
        (ap offer (token_set (offer_in (entry_at b e)) token (omega (arith, q.size, length-set (offer_in (entry_at b e)) 3 token))))
