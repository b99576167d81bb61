-- What refuses a list of the writer, and one entry of it with its image: rows W1, W2, W4, W5 and W6 (document 02, A3).
use Rattle.std.specs.Prelude.{ℕ, ◌+◌, ◌%◌, Bool, not, ◌||◌, ◌&&◌, List, ltb, eqb, length}
use Rattle.wire.specs.Version.{version_at}
use Rattle.image.specs.Judge.{is_right, image_id, image_version}
use Rattle.device_component.specs.Setup.{staging_limit, region_least}
use Rattle.bundle_layout.specs.Layout.{offer_limit, entry_size, id_in, offset_in, length_in}
use Rattle.bundle_layout.specs.Rows.{bad_offer}
use Rattle.bundle_given.specs.declared.EntryRule.{EntryRule}
use Rattle.bundle_given.specs.declared.EntryRule.TheVariants.{Offer, Lent, Crc, Bears}
use Rattle.bundle_given.specs.Given.{count_of, image_at}

-- W1: count not 1 to the limit, or bytes after the last whole entry
abbrev pub bad_list : List ℕ → Bool
bad_list list = not (eqb (length list % entry_size) 0) || (ltb (count_of list) 1 || ltb offer_limit (count_of list))

-- W4: image under 8 bytes, over S1's limit or not wholly lent; sums of numbers, which do not wrap
abbrev pub bad_lent : (size : ℕ) → (e : List ℕ) → Bool
bad_lent size e = ltb (length_in e) region_least || (ltb staging_limit (length_in e) || ltb size (offset_in e + length_in e))

-- what W6 asks: the image bears its offer's version, all 32 bits of it, and its id
abbrev pub bears_offer : (m e : List ℕ) → Bool
bears_offer m e = eqb (image_version m).0 (version_at 4 e).0 && eqb (image_id m) (id_in e)

-- what refuses one entry. W2: an offer that B5 refuses; W4; W5: CRC wrong; W6: image version or id not its offer's. W5 and W6 are tried where W4 refuses none,
-- so of images that are wholly lent
abbrev pub breaks : EntryRule → (images e : List ℕ) → Bool
breaks Offer images e = bad_offer e
breaks Lent images e = bad_lent (length images) e
breaks Crc images e = not (is_right (image_at images e))
breaks Bears images e = not (bears_offer (image_at images e) e)
