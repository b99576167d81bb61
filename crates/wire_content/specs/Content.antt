-- Content (document 01, "Packets"; CFU 5.5): its fields, its 60 bytes, and when building or reading it is refused.
use Rattle.std.specs.Prelude.{ℕ, ◌-◌, ◌%◌, ◌^◌, ◌<◌, ◌≡◌, Bool, cond, ◌&&◌, List, ◌∷◌, ◌++◌, eqb, leb, length, get_or, take, drop, replicate, Result}
use Rattle.wire.specs.Bytes.{Bytes, number, bytes_of, bytes_at}
use Rattle.wire.specs.Rows.{served, row_p, Told, told}
use Rattle.wire.specs.declared.address.RegionAddress.{RegionAddress}
use Rattle.wire.specs.Codes.{flag_last_block, packet_data_size, long_size, data_at}
use Rattle.wire_content.specs.declared.content.ContentFields.{ContentFields}
use Rattle.wire.specs.declared.verdict.PacketRefusal.{PacketRefusal}

-- the values of the type
pub record FitsContent (c : ContentFields) : Type 0 where
  pub size : length c.«data» ≡ packet_data_size
  pub bytes : Bytes c.«data»
  pub flags : c.flags < 256
  pub length : c.length < 256
  pub sequence : c.sequence < 256 ^ 2
  pub address : c.address.0 < 256 ^ 4

-- not P2: no flag but 0x80 and 0x40, and a length from 1 to 52
abbrev pub allowed : (flags length : ℕ) → Bool
allowed flags length = (eqb (flags % flag_last_block) 0 && leb 1 length) && leb length packet_data_size

-- bytes 0-7 in wire order
abbrev pub head_of : (flags length sequence : ℕ) → RegionAddress → List ℕ
head_of flags length sequence address = flags ∷ length ∷ bytes_of 2 sequence ++ bytes_of 4 address.0

-- the data with zeros at and past place n
unfoldable pub cleared : ℕ → List ℕ → List ℕ
cleared n d = take n d ++ replicate (length d - n) 0

-- how many bytes of data count: the length, of the 52 that there are
abbrev pub used_of : ℕ → ℕ
used_of length = cond (leb length packet_data_size) length packet_data_size

-- the 60 bytes, unused data as zero
unfoldable pub content_bytes : ContentFields → List ℕ
content_bytes c = head_of c.flags c.length c.sequence c.address ++ cleared c.length c.«data»

-- what building answers
unfoldable pub build_of : ContentFields → Told (List ℕ)
build_of c =
    cond (allowed c.flags c.length) (record { row = served; value = content_bytes c }) (record { row = row_p 2; value = replicate long_size 0 })

-- the row and the bytes of a built packet
abbrev pub told_built : Result (List ℕ) PacketRefusal → Told (List ℕ)
told_built = told (replicate long_size 0)

-- the fields of 60 bytes, flags and length as they stand, unused data as zero
unfoldable pub fields_in : List ℕ → ContentFields
fields_in p = record {
  flags = get_or p 0 0;
  length = get_or p 1 0;
  sequence = number (bytes_at 2 2 p);
  address = record { 0 = number (bytes_at 4 4 p) };
  «data» = cleared (get_or p 1 0) (drop data_at p);
}

-- all fields zero
abbrev pub blank_content : ContentFields
blank_content = record { flags = 0; length = 0; sequence = 0; address = record { 0 = 0 }; «data» = replicate packet_data_size 0 }

-- what reading answers: P1 with all fields zero, or the fields
unfoldable pub read_of : List ℕ → Told ContentFields
read_of p = cond (eqb (length p) long_size) (record { row = served; value = fields_in p }) (record { row = row_p 1; value = blank_content })

-- the row and the fields of a reader's answer
abbrev pub told_read : Result ContentFields PacketRefusal → Told ContentFields
told_read = told blank_content

-- the fields with unused data as zero
abbrev pub norm : ContentFields → ContentFields
norm c = record {
  flags = c.flags;
  length = c.length;
  sequence = c.sequence;
  address = c.address;
  «data» = cleared c.length c.«data»;
}

-- the packet with unused data as zero
unfoldable pub clean_content : List ℕ → List ℕ
clean_content p = take data_at p ++ cleared (get_or p 1 0) (drop data_at p)
