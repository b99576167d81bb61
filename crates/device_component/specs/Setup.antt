-- Rows S1 to S5 (document 01, "Numbered refusals"; S5: document 02, A5), tried one after another over the whole list.
use Rattle.std.specs.Prelude.{ℕ, ◌+◌, Bool, not, ◌||◌, ◌&&◌, List, [], ◌∷◌, ltb, eqb, take, Result, Ok, Err, is_err}
use Rattle.wire.specs.Codes.{component_limit, id_limit}
use Rattle.wire.specs.Checks.{first_of, any, pairs}
use Rattle.wire.specs.Version.{variant_of}
use Rattle.wire.specs.declared.version.Version.{Version}
use Rattle.image.specs.declared.region.Region.{Region}
use Rattle.device_component.specs.declared.record.Component.{Component}
use Rattle.device_component.specs.declared.setup.SetupRow.{SetupRow}
use Rattle.device_component.specs.declared.setup.SetupRow.TheVariants.{S1, S2, S3, S4, S5}

-- the rows of documents 01 and 02 that set-up gives out
pub data Row : Type 0 where
  served : Row
  row_s : ℕ → Row

-- a row's number
abbrev pub number_of : SetupRow → ℕ
number_of S1 = 1
number_of S2 = 2
number_of S3 = 3
number_of S4 = 4
number_of S5 = 5

-- the number of the row that an answer refuses by, or 0 where no row refuses
abbrev pub number_told : {A : Type 0} → Result A SetupRow → ℕ
number_told (Ok x) = 0
number_told (Err row) = number_of row

-- what set-up's rows say of a list: it is fine, or the row that refuses it
abbrev pub SetupVerdict : Type 0
SetupVerdict = Result (Unit {0}) SetupRow

-- a row refuses set-up
abbrev pub is_refused : SetupVerdict → Bool
is_refused v = is_err v

abbrev pub row_of : SetupVerdict → Row
row_of (Ok u) = served
row_of (Err row) = row_s (number_of row)

-- the largest staging buffer
abbrev pub staging_limit : ℕ
staging_limit = 65536

-- the shortest region
abbrev pub region_least : ℕ
region_least = 8

-- S1: staging over 65,536 bytes
abbrev pub staging_too_long : ℕ → Bool
staging_too_long n = ltb staging_limit n

-- S2: count not from 1 to the limit
abbrev pub bad_count : ℕ → Bool
bad_count count = ltb count 1 || ltb component_limit count

-- S3: an id outside 1-0xDF
abbrev pub bad_id : ℕ → Bool
bad_id id = ltb id 1 || ltb id_limit id

-- S3: .. or repeated
unfoldable pub bad_ids : List Component → Bool
bad_ids cs = any (λ c. bad_id c.fixed.id) cs || pairs (λ c c'. eqb c.fixed.id c'.fixed.id) cs

-- S4: a region under 8 bytes, or past the buffer
abbrev pub bad_region : ℕ → Region → Bool
bad_region n r = ltb r.len region_least || ltb n (r.base.0 + r.len)

-- S4: two regions overlap
abbrev pub overlap : Region → Region → Bool
overlap r r' = ltb r.base.0 (r'.base.0 + r'.len) && ltb r'.base.0 (r.base.0 + r.len)

-- S4: .. or overlapping another
unfoldable pub bad_regions : ℕ → List Component → Bool
bad_regions n cs = any (λ c. bad_region n c.fixed.region) cs || pairs (λ c c'. overlap c.fixed.region c'.fixed.region) cs

-- S5: a floor with a variant other than 0
abbrev pub bad_floor : Version → Bool
bad_floor floor = not (eqb (variant_of floor) 0)

abbrev pub bad_floors : List Component → Bool
bad_floors cs = any (λ c. bad_floor c.fixed.floor) cs

-- the rows, for a staging buffer of n bytes and the first `count` of the list
unfoldable pub setup_verdict : (n count : ℕ) → List Component → SetupVerdict
setup_verdict n count components =
    first_of (
    (staging_too_long n, Err S1)
    ∷ (bad_count count, Err S2)
    ∷ (bad_ids (take count components), Err S3)
    ∷ (bad_regions n (take count components), Err S4)
    ∷ (bad_floors (take count components), Err S5)
    ∷ [])
    (Ok tt)
