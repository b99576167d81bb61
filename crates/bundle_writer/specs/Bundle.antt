-- The bundle that the writer makes of a list and images (document 02, A3).
use Rattle.std.specs.Prelude.{ℕ, List, map}
use Rattle.bundle_layout.specs.Layout.{offer_in}
use Rattle.bundle.specs.Contents.{Part, bundle_bytes}
use Rattle.bundle_cut.specs.Cut.{image_records}
use Rattle.bundle_given.specs.Given.{entries_of, image_at}

-- the part of the bundle that an entry gives: its offer, and the records of its image
abbrev pub made_part : (images e : List ℕ) → Part
made_part images e = record { offer = offer_in e; blocks = image_records (image_at images e) }

abbrev pub made_parts : (list images : List ℕ) → List Part
made_parts list images = map (made_part images) (entries_of list)

-- the bundle
unfoldable pub made_bundle : (list images : List ℕ) → List ℕ
made_bundle list images = bundle_bytes (made_parts list images)
