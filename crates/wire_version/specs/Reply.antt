-- The version reply (document 01, "Packets"; CFU 5.1): its fields, its bytes, and when building or reading it is refused.
use Rattle.std.specs.Prelude.{ℕ, zero, suc, ◌+◌, ◌*◌, ◌-◌, ◌%◌, ◌^◌, ◌<◌, ◌≡◌, Bool, cond, ◌&&◌, List, [], ◌∷◌, ◌++◌, eqb, leb, ltb, length, get_or, take, drop, replicate, Result}
use Rattle.wire.specs.Bytes.{number, bytes_of, bytes_at}
use Rattle.wire.specs.Codes.{protocol_number, component_limit}
use Rattle.wire.specs.Version.{FitsVersion, version_at, version_bytes}
use Rattle.wire.specs.Rows.{Row, served, row_p, Told, told}
use Rattle.wire_version.specs.declared.Running.{Running}
use Rattle.wire_version.specs.declared.VersionReply.{VersionReply}
use Rattle.wire.specs.declared.verdict.PacketRefusal.{PacketRefusal}

-- a head of four bytes, and eight for each component
abbrev pub reply_size : ℕ
reply_size = 4 + 8 * component_limit

-- no component
abbrev pub none : Running
none = record { version = record { 0 = 0 }; id = 0; platform = 0 }

-- the values of the types
pub record FitsEntry (e : Running) : Type 0 where
  pub version : FitsVersion e.version
  pub id : e.id < 256
  pub platform : e.platform < 256 ^ 2

pub record FitsReply (r : VersionReply) : Type 0 where
  pub count : r.count < 256
  pub protocol : r.protocol < 256
  pub size : length r.components ≡ component_limit
  pub each : (i : ℕ) → FitsEntry (get_or r.components i none)

-- not P2, either way: a count up to the limit, and protocol 2
abbrev pub allowed : (count protocol : ℕ) → Bool
allowed count protocol = leb count component_limit && eqb protocol protocol_number

-- the eight bytes of a component in wire order; byte 4 is reserved
abbrev pub entry_bytes : Running → List ℕ
entry_bytes e = version_bytes e.version ++ 0 ∷ e.id ∷ bytes_of 2 e.platform

-- the component in the first eight bytes
abbrev pub entry_in : List ℕ → Running
entry_in q = record { version = version_at 0 q; id = get_or q 5 0; platform = number (bytes_at 2 6 q) }

-- components one after the other
unfoldable pub flat : List Running → List ℕ
flat [] = []
flat (e ∷ es) = entry_bytes e ++ flat es

-- the first n components of q
unfoldable pub entries : ℕ → List ℕ → List Running
entries zero q = []
entries (suc n) q = entry_in q ∷ entries n (drop 8 q)

-- the bytes: the head, the components up to the count, zeros
unfoldable pub reply_bytes : (count protocol : ℕ) → List Running → List ℕ
reply_bytes count protocol es = count ∷ 0 ∷ 0 ∷ protocol ∷ flat (take count es) ++ replicate (8 * component_limit - 8 * count) 0

-- what building answers
unfoldable pub build_of : VersionReply → Told (List ℕ)
build_of r =
    cond (allowed r.count r.protocol) (record { row = served; value = reply_bytes r.count r.protocol r.components })
    (record { row = row_p 2; value = replicate reply_size 0 })

-- the row and the bytes of a built reply
abbrev pub told_built : Result (List ℕ) PacketRefusal → Told (List ℕ)
told_built = told (replicate reply_size 0)

-- component i in a reply's bytes, and an empty one from the count on
abbrev pub entry_of : List ℕ → (count i : ℕ) → Running
entry_of p count i = cond (ltb i count) (entry_in (drop (8 * i) (drop 4 p))) none

-- the components in a reply's bytes up to the count, then empty ones
unfoldable pub table_in : List ℕ → ℕ → List Running
table_in p count = entries count (drop 4 p) ++ replicate (component_limit - count) none

-- the fields in a reply's bytes, reserved bits left out
unfoldable pub fields_in : List ℕ → VersionReply
fields_in p = record { count = get_or p 0 0; protocol = get_or p 3 0 % 16; components = table_in p (get_or p 0 0) }

-- all fields zero
abbrev pub blank_reply : VersionReply
blank_reply = record { count = 0; protocol = 0; components = replicate component_limit none }

-- what a refused reading answers: all fields zero
abbrev pub refused_of : Row → Told VersionReply
refused_of row = record { row = row; value = blank_reply }

-- what reading answers: P1, P2, or the fields
unfoldable pub read_of : List ℕ → Told VersionReply
read_of p =
    cond (eqb (length p) reply_size)
    (cond (allowed (get_or p 0 0) (get_or p 3 0 % 16)) (record { row = served; value = fields_in p }) (refused_of (row_p 2)))
    (refused_of (row_p 1))

-- the row and the fields of a reader's answer
abbrev pub told_read : Result VersionReply PacketRefusal → Told VersionReply
told_read = told blank_reply

-- the fields with components at and past the count empty
abbrev pub norm : VersionReply → VersionReply
norm r = record { count = r.count; protocol = r.protocol; components = take r.count r.components ++ replicate (component_limit - r.count) none }

-- the first n components of q, byte 4 of each as zero
unfoldable pub clean_entries : ℕ → List ℕ → List ℕ
clean_entries zero q = []
clean_entries (suc n) q = bytes_at 4 0 q ++ 0 ∷ bytes_at 3 5 q ++ clean_entries n (drop 8 q)

-- the packet with reserved bits, and all bytes past the listed components, as zero
unfoldable pub clean_reply : List ℕ → List ℕ
clean_reply p =
    get_or p 0 0 ∷ 0 ∷ 0 ∷ get_or p 3 0 % 16 ∷ clean_entries (get_or p 0 0) (drop 4 p) ++ replicate (8 * component_limit - 8 * get_or p 0 0) 0
