-- Good bodies by a test that computes, for every entry of a bundle at once. Assumes nothing.
use mathlib.Core.Path.{◌≡◌, ap}
use mathlib.Core.Bool.{Bool, true, ◌&&◌}
use mathlib.Core.List.{List, [], ◌∷◌}
use Prim.Native.Nat.{ℕ, zero, suc, ◌+◌, ◌<◌}
use native.Mathlib.Nat.{not-suc-le-zero}
use native.Mathlib.Decide.{ℕ_discrete}
use native.Mathlib.Omega.{arith}
use borrow.Author.Tests.{leb-true, eqb-true}
use lib.Dec.{leb, eqb}
use lib.ListN.{length}
use Rattle.wire.proofs.Tests.{both}
use Rattle.wire_offer.specs.declared.offer.OfferFields.{OfferFields}
use Rattle.bundle_records.specs.Record.{Block}
use Rattle.image.specs.Judge.{is_right, image_id, image_version}
use Rattle.device_component.specs.declared.record.Component.{Component}
use Rattle.std.specs.Prelude.{Option, Some, None}
use Rattle.bundle_layout.specs.Layout.{count_in}
use Rattle.device.specs.Record.{find, component}
use Rattle.device.specs.declared.record.Device.{Device}
use Rattle.host.specs.Step.{blocks_at}
use Rattle.update.specs.Claim.{image_of, Inside, Good, offer_at}

-- the records lie inside the region
abbrev pub inside_test : ℕ → List Block → Bool
inside_test len [] = true
inside_test len (r ∷ rs) = leb (r.address.0 + length r.bytes) len && inside_test len rs

inside_of : (len : ℕ) (rs : List Block) → inside_test len rs ≡ true → Inside len rs
inside_of len [] h = tt
inside_of len (r ∷ rs) h =
    let k = both (leb (r.address.0 + length r.bytes) len) (inside_test len rs) h in
    (leb-true (r.address.0 + length r.bytes) len k.0, inside_of len rs k.1)

-- the body is good
abbrev pub good_test : Component → OfferFields → List Block → Bool
good_test c o rs =
    inside_test c.fixed.region.len rs
    && (is_right (image_of c.fixed.region.len rs)
    && (eqb (image_id (image_of c.fixed.region.len rs)) o.id && eqb (image_version (image_of c.fixed.region.len rs)).0 o.version.0))

good_of : (c : Component) (o : OfferFields) (rs : List Block) → good_test c o rs ≡ true → Good c o rs
good_of c o rs h =
    let m = image_of c.fixed.region.len rs in
    let k = both (inside_test c.fixed.region.len rs) (is_right m && (eqb (image_id m) o.id && eqb (image_version m).0 o.version.0)) h in
    let l = both (is_right m) (eqb (image_id m) o.id && eqb (image_version m).0 o.version.0) k.1 in
    let n = both (eqb (image_id m) o.id) (eqb (image_version m).0 o.version.0) l.1 in
    record {
      inside = inside_of c.fixed.region.len rs k.0;
      crc = l.0;
      id = eqb-true (image_id m) o.id n.0;
      version = ap (λ (x : ℕ). record { 0 = x }) (eqb-true (image_version m).0 o.version.0 n.1);
    }

-- the body of an entry is good, where the device has its component
abbrev pub good_in : (b : List ℕ) → Device → ℕ → Option ℕ → Bool
good_in b d i None = true
good_in b d i (Some k) = good_test (component d k) (offer_at b i) (blocks_at b i)

-- so is that of each of the first n entries
abbrev pub all_good : (b : List ℕ) → Device → (n : ℕ) → Bool
all_good b d zero = true
all_good b d (suc n) = good_in b d n (find d (offer_at b n).id) && all_good b d n

one_good : (b : List ℕ) (d : Device) (n i : ℕ) → all_good b d n ≡ true → i < n → good_in b d i (find d (offer_at b i).id) ≡ true
one_good b d zero i h l = absurd (not-suc-le-zero l)
one_good b d (suc n) i h l = go (ℕ_discrete i n) (both (good_in b d n (find d (offer_at b n).id)) (all_good b d n) h) (one_good b d n i)
  where
    go : Dec (i ≡ n) → (good_in b d n (find d (offer_at b n).id) ≡ true) × (all_good b d n ≡ true)
        → (all_good b d n ≡ true → i < n → good_in b d i (find d (offer_at b i).id) ≡ true) → good_in b d i (find d (offer_at b i).id) ≡ true
    go (yes e) k rest = rw e k.0
    go (no ne) k rest = rest k.1 (omega arith)

-- every body of a bundle is good, by the test
pub bodies_good : (b : List ℕ) (d : Device) → all_good b d (count_in b) ≡ true
    → (i k : ℕ) → i < count_in b → find d (offer_at b i).id ≡ Some k → Good (component d k) (offer_at b i) (blocks_at b i)
bodies_good b d h i k l e = good_of (component d k) (offer_at b i) (blocks_at b i) (rw e at (one_good b d (count_in b) i h l))
