-- What is claimed of a run (document 01, "The host": demand 3): good bodies, closed sets of offers and the smallest, and the device and the staging buffer
-- that a set leaves. No run is named here.
use Rattle.std.specs.Prelude.{ℕ, ◌+◌, ◌≤◌, ◌<◌, ◌≡◌, ◌⊎◌, Bool, true, not, ◌&&◌, List, [], ◌∷◌, T, leb, eqb, length, get_or, Some}
use Rattle.wire.specs.Checks.{All, applies}
use Rattle.wire.specs.Version.{release_of}
use Rattle.wire_offer.specs.Offer.{fields_in}
use Rattle.wire_offer.specs.declared.offer.OfferFields.{OfferFields}
use Rattle.bundle_records.specs.Record.{Block}
use Rattle.image.specs.Region.{blank, put, region_bytes}
use Rattle.image.specs.Judge.{is_right, image_id, image_version}
use Rattle.device_component.specs.Record.{with_staged}
use Rattle.device_component.specs.declared.record.Component.{Component}
use Rattle.bundle_layout.specs.Layout.{count_in, offer_in}
use Rattle.device.specs.Record.{find, component, to_idle, idle_with}
use Rattle.device.specs.Offer.{rejections, need_unmet}
use Rattle.device.specs.declared.record.Device.{Device}
use Rattle.host.specs.Step.{entry_at, blocks_at}
use Rattle.update_passes.specs.Sets.{Set}

-- the offer of an entry
abbrev pub offer_at : (b : List ℕ) → ℕ → OfferFields
offer_at b i = fields_in (offer_in (entry_at b i))

-- records written in order
unfoldable pub writes : List ℕ → List Block → List ℕ
writes m [] = m
writes m (r ∷ rs) = writes (put r.address.0 r.bytes m) rs

-- the image of a body: its records written in order over 0xFF
unfoldable pub image_of : (len : ℕ) → List Block → List ℕ
image_of len rs = writes (blank len) rs

-- the records lie inside a region
abbrev pub Inside : (len : ℕ) → List Block → Type 0
Inside len rs = All (λ (r : Block). r.address.0 + length r.bytes ≤ len) rs

-- a good body: its records lie inside the component's region and give an image with a right CRC, that component's id and the offered version
pub record Good (c : Component) (o : OfferFields) (rs : List Block) : Type 0 where
  pub inside : Inside c.fixed.region.len rs
  pub crc : is_right (image_of c.fixed.region.len rs) ≡ true
  pub id : image_id (image_of c.fixed.region.len rs) ≡ o.id
  pub version : image_version (image_of c.fixed.region.len rs) ≡ o.version

-- an offer passes checks 2 to 7, that of the variant (document 02, A1) and that of the floor (A5) among them
abbrev pub is_eligible : Device → OfferFields → Bool
is_eligible d o = not (applies (rejections d o))

-- its need is none, or met by an effective version
abbrev pub is_met : Device → OfferFields → Bool
is_met d o = not (need_unmet d o)

-- the offered version of one offer meets the need of another
abbrev pub feeds : (o' o : OfferFields) → Bool
feeds o' o = not (eqb o.need 0) && (eqb o'.id o.need && leb o.least (release_of o'.version))

-- another member of the set meets the need of entry i
pub record Fed (b : List ℕ) (X : Set) (i : ℕ) : Type 0 where
  pub by : ℕ
  pub listed : by < count_in b
  pub other : by ≡ i → ⊥
  pub member : T (X by)
  pub meets : T (feeds (offer_at b by) (offer_at b i))

-- closed: it holds every offer that passes checks 2 to 7 against the device after code 0 and whose need is none, or met then, or by another member
abbrev pub Closed : Device → (b : List ℕ) → Set → Type 0
Closed d b X = (i : ℕ) → i < count_in b → T (is_eligible (to_idle d) (offer_at b i))
    → T (is_met (to_idle d) (offer_at b i)) ⊎ Fed b X i → T (X i)

-- inside: each listed member of X is one of Y
abbrev pub Within : (b : List ℕ) → (X Y : Set) → Type 0
Within b X Y = (i : ℕ) → i < count_in b → T (X i) → T (Y i)

-- the smallest closed set: every closed set contains it
pub record Smallest (d : Device) (b : List ℕ) (X : Set) : Type 0 where
  pub closed : Closed d b X
  pub least : (Y : Set) → Closed d b Y → Within b X Y

-- no member of X is for the component in slot k
abbrev pub NotTargeted : Device → (b : List ℕ) → Set → (k : ℕ) → Type 0
NotTargeted d b X k = (i : ℕ) → i < count_in b → T (X i) → find d (offer_at b i).id ≡ Some k → ⊥

-- the device that a set leaves: each member's component is pending with the offered version, no other differs; idle, nothing owed, no packet held, all else as
-- before
pub record Leaves (d : Device) (b : List ℕ) (X : Set) (d' : Device) : Type 0 where
  pub same : d' ≡ idle_with d d'.components
  pub slots : length d'.components ≡ length d.components
  pub members : (i k : ℕ) → i < count_in b → T (X i) → find d (offer_at b i).id ≡ Some k → component d' k ≡ with_staged (component d k) (offer_at b i).version
  pub others : (k : ℕ) → NotTargeted d b X k → component d' k ≡ component d k

-- place j lies outside the regions of the members
abbrev pub Untouched : Device → (b : List ℕ) → Set → (j : ℕ) → Type 0
Untouched d b X j = (i k : ℕ) → i < count_in b → T (X i) → find d (offer_at b i).id ≡ Some k
    → (j < (component d k).fixed.region.base.0) ⊎ ((component d k).fixed.region.base.0 + (component d k).fixed.region.len ≤ j)

-- the staging buffer that a set leaves: each member's region is its image, and every other byte is as it was
pub record Fills (d : Device) (b : List ℕ) (X : Set) (s s' : List ℕ) : Type 0 where
  pub long : length s' ≡ length s
  pub images : (i k : ℕ) → i < count_in b → T (X i) → find d (offer_at b i).id ≡ Some k
      → region_bytes (component d k).fixed.region s' ≡ image_of (component d k).fixed.region.len (blocks_at b i)
  pub rest : (j : ℕ) → Untouched d b X j → get_or s' j 0 ≡ get_or s j 0
