-- A body's record as content (document 01, "The host").
use Rattle.std.specs.Prelude.{ℕ, ◌+◌, ◌-◌, Bool, cond, List, ◌++◌, eqb, length, replicate}
use Rattle.wire.specs.Codes.{flag_first_block, flag_last_block, long_size, packet_data_size}
use Rattle.wire_content.specs.Content.{content_bytes}
use Rattle.bundle_records.specs.Record.{Block}
use Rattle.host_record.specs.Record.{sequence_of}

-- the bytes that are lent for a packet
abbrev pub packet_size : ℕ
packet_size = long_size

-- first and last flags as fit
abbrev pub flags_of : (first last : Bool) → ℕ
flags_of first last = cond first flag_first_block 0 + cond last flag_last_block 0

-- block k of a body as content: the record's data, unused data as zero
abbrev pub block_bytes : (k : ℕ) → (last : Bool) → Block → List ℕ
block_bytes k last r = content_bytes (record {
  flags = flags_of (eqb k 0) last;
  length = length r.bytes;
  sequence = sequence_of k;
  address = r.address;
  «data» = r.bytes ++ replicate (packet_data_size - length r.bytes) 0;
})
