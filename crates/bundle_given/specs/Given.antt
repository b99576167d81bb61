-- What the writer is given (document 02, A3): a list of entries, and one lent slice that holds the images. An entry of the list has the layout of an entry of a
-- bundle's table: the offer (16), the image's offset in the slice (4) and its length (4).
use Rattle.std.specs.Prelude.{ℕ, ◌/◌, List, length, take, drop}
use Rattle.bundle_layout.specs.Layout.{entry_size, entries_from, offset_in, length_in}

-- how many whole entries a list has, and which; bytes after the last are W1
abbrev pub count_of : List ℕ → ℕ
count_of list = length list / entry_size

unfoldable pub entries_of : List ℕ → List (List ℕ)
entries_of list = entries_from (count_of list) list

-- the image of an entry; of one that is not wholly lent, the bytes that are
unfoldable pub image_at : (images e : List ℕ) → List ℕ
image_at images e = take (length_in e) (drop (offset_in e) images)
