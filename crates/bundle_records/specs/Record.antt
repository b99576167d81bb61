-- One record of a body (document 01, "The bundle"): address (4), length (1), data.
use Rattle.std.specs.Prelude.{ℕ, ◌+◌, ◌-◌, ◌≤◌, ◌<◌, ◌^◌, Bool, cond, ◌&&◌, List, ◌∷◌, ◌++◌, eqb, leb, ltb, length, get_or, take, drop}
use Rattle.wire.specs.Bytes.{Bytes, number, bytes_of, bytes_at}
use Rattle.wire.specs.declared.address.RegionAddress.{RegionAddress}
use Rattle.wire.specs.Codes.{packet_data_size}
use Rattle.bundle_records.specs.declared.Head.{Head}
use Rattle.bundle_records.specs.declared.Head.TheVariants.{Empty, Cut, Whole}

-- the most data in a record
abbrev pub data_limit : ℕ
data_limit = packet_data_size

-- a record: where its data goes in the region, and the data
pub record Block : Type 0 where
  pub address : RegionAddress
  pub bytes : List ℕ

-- a record that can be written: its address in four bytes, data from 1 byte to the limit
pub record Sound (r : Block) : Type 0 where
  pub address : r.address.0 < 256 ^ 4
  pub some : 1 ≤ length r.bytes
  pub few : length r.bytes ≤ data_limit
  pub bytes : Bytes r.bytes

-- the bytes of a record
abbrev pub block_bytes : Block → List ℕ
block_bytes r = bytes_of 4 r.address.0 ++ length r.bytes ∷ r.bytes

-- a length from 1 to 52 with as many bytes in the rest
abbrev pub is_sound : (size rest : ℕ) → Bool
is_sound size rest = (leb 1 size && leb size data_limit) && leb size rest

-- what stands at the start of a body
unfoldable pub head_in : List ℕ → Head
head_in body =
    cond (eqb (length body) 0) Empty
    (cond (ltb (length body) 5) Cut
    (cond (is_sound (get_or body 4 0) (length body - 5)) (Whole (record { 0 = number (bytes_at 4 0 body) }) (get_or body 4 0)) Cut))

-- the record of `size` bytes of data at the start of a body, and what follows it
abbrev pub block_in : RegionAddress → ℕ → List ℕ → Block
block_in address size body = record { address = address; bytes = take size (drop 5 body) }

abbrev pub rest_of : ℕ → List ℕ → List ℕ
rest_of size body = drop (5 + size) body
