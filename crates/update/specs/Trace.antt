-- What a list of packets sent, each with the reply that was taken for it, shows by itself: its passes, and the offers that were completed. No host and no
-- device is named here (document 01, "The host": the report).
use Rattle.std.specs.Prelude.{ℕ, zero, suc, ◌/◌, ◌%◌, Bool, false, cond, ◌&&◌, ◌||◌, List, [], ◌∷◌, eqb, ltb, length, get_or}
use Rattle.wire.specs.Codes.{kind_information, kind_extended, info_start_offer_list, success_status, short_size, long_size, flag_last_block}
use Rattle.wire.specs.Bytes.{number, bytes_at}

-- a packet that was sent, and the reply that was taken for it
pub record Exchange : Type 0 where
  pub packet : List ℕ
  pub reply : List ℕ

-- code 1 opens a pass: 16 bytes, byte 2 = 0xFF, byte 0 = 1
abbrev pub opens_pass : List ℕ → Bool
opens_pass p = eqb (length p) short_size && (eqb (get_or p 2 0) kind_information && eqb (get_or p 0 0) info_start_offer_list)

-- the passes of a list
unfoldable pub passes_in : List Exchange → ℕ
passes_in [] = zero
passes_in (x ∷ xs) = cond (opens_pass x.packet) (suc (passes_in xs)) (passes_in xs)

-- an offer packet: 16 bytes, byte 2 neither 0xFE nor 0xFF
abbrev pub is_offer : List ℕ → Bool
is_offer p = eqb (length p) short_size && ltb (get_or p 2 0) kind_extended

-- the component of the last offer, after one packet more
abbrev pub about : (id : ℕ) → List ℕ → ℕ
about id p = cond (is_offer p) (get_or p 2 0) id

-- a last content, answered with its own sequence and status 0
abbrev pub completes : (p reply : List ℕ) → Bool
completes p reply =
    (eqb (length p) long_size && eqb (get_or p 0 0 / flag_last_block % 2) 1)
    && (eqb (length reply) short_size && (eqb (number (bytes_at 2 0 reply)) (number (bytes_at 2 2 p)) && eqb (get_or reply 4 0) success_status))

-- the offer for component j was completed, in a list that begins after an offer for component id
unfoldable pub completed_in : (id : ℕ) → List Exchange → (j : ℕ) → Bool
completed_in id [] j = false
completed_in id (x ∷ xs) j = (completes x.packet x.reply && eqb id j) || completed_in (about id x.packet) xs j
