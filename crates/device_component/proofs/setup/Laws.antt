-- What holds of a list that set-up does not refuse, and what keeps it so. Assumes nothing.
use mathlib.Core.Path.{◌≡◌, refl, sym, ap, ap₂, ◌∙◌}
use mathlib.Core.Bool.{Bool, true, false, cond, ◌||◌}
use mathlib.Core.Logic.{inl, inr}
use mathlib.Core.List.{List, [], ◌∷◌, map}
use Prim.Native.Nat.{ℕ, ◌+◌, ◌≤◌, ◌<◌}
use native.Mathlib.Decide.{dec_lt}
use native.Mathlib.Omega.{arith}
use borrow.Author.Tests.{ltb-false}
use lib.Dec.{ltb, eqb}
use lib.ListN.{length, take, set}
use lib.Seq.{get_or-take, map-set_same}
use Rattle.wire.specs.Codes.{component_limit, id_limit}
use Rattle.wire.specs.Checks.{first_of, any, pairs}
use Rattle.wire.specs.declared.version.Version.{Version}
use Rattle.image.specs.declared.region.Region.{Region}
use Rattle.image.proofs.region.Within.{Apart}
use Rattle.device_component.specs.Record.{blank_component, with_staged}
use Rattle.device_component.specs.Lists.{component_at}
use Rattle.device_component.specs.Setup.{staging_too_long, bad_count, bad_id, bad_ids, bad_region, overlap, bad_regions, bad_floor, bad_floors, SetupVerdict, setup_verdict}
use Rattle.device_component.specs.declared.record.Component.{Component}
use Rattle.device_component.specs.declared.record.Fixed.{Fixed}
use Rattle.device_component.specs.declared.setup.SetupRow.TheVariants.{S1, S2, S3, S4, S5}
use Rattle.std.specs.Prelude.{Ok, Err}
use Rattle.wire.proofs.Tests.{neither}
use Rattle.device_component.proofs.list.Members.{any_none, pairs_none, map_take, any_map, pairs_map}
use Rattle.device_component.proofs.list.Laws.{slot_taken, ids_differ as ids_differ_where}

-- a verdict, by the tests of the rows
abbrev of_rows : (a b c e f : Bool) → SetupVerdict
of_rows a b c e f = cond a (Err S1) (cond b (Err S2) (cond c (Err S3) (cond e (Err S4) (cond f (Err S5) (Ok tt)))))

-- a list is fine where no row applies
no_row : (a b c e f : Bool) → of_rows a b c e f ≡ Ok tt → (a ≡ false) × (b ≡ false) × (c ≡ false) × (e ≡ false) × (f ≡ false)
no_row true b c e f h = let z : true ≡ false = cc in (z, cc, cc, cc, cc)
no_row false true c e f h = let z : true ≡ false = cc in (refl, z, cc, cc, cc)
no_row false false true e f h = let z : true ≡ false = cc in (refl, refl, z, cc, cc)
no_row false false false true f h = let z : true ≡ false = cc in (refl, refl, refl, z, cc)
no_row false false false false true h = let z : true ≡ false = cc in (refl, refl, refl, refl, z)
no_row false false false false false h = (refl, refl, refl, refl, refl)

-- two regions that do not overlap lie one before the other
pub apart : (r r' : Region) → overlap r r' ≡ false → Apart r r'
apart r r' e = go (ltb r.base.0 (r'.base.0 + r'.len)) refl where
  go : (b : Bool) → ltb r.base.0 (r'.base.0 + r'.len) ≡ b → Apart r r'
  go true t = inl (ltb-false r'.base.0 (r.base.0 + r.len) (rw t at e))
  go false t = inr (ltb-false r.base.0 (r'.base.0 + r'.len) t)

-- whichever is named first
pub apart_sym : (r r' : Region) → Apart r r' → Apart r' r
apart_sym r r' (inl h) = inr h
apart_sym r r' (inr h) = inl h

module _ (n count : ℕ) (components : List Component) (fine : setup_verdict n count components ≡ Ok tt) where
  rows : (staging_too_long n ≡ false) × (bad_count count ≡ false) × (bad_ids (take count components) ≡ false)
      × (bad_regions n (take count components) ≡ false) × (bad_floors (take count components) ≡ false)
  unfolding setup_verdict first_of
  rows = no_row (staging_too_long n) (bad_count count) (bad_ids (take count components)) (bad_regions n (take count components)) (bad_floors (take count components)) fine

  -- S1: the buffer is at most 65,536 bytes long
  pub fine_staging : n ≤ 65536
  fine_staging = ltb-false 65536 n rows.0

  -- S2: there is a component, and no more than the limit
  pub fine_count : (1 ≤ count) × (count ≤ component_limit)
  fine_count =
      let s = neither (ltb count 1) (ltb component_limit count) rows.1 in
      (ltb-false count 1 s.0, ltb-false component_limit count s.1)

  -- S5: no floor is bad
  pub fine_floors : bad_floors (take count components) ≡ false
  fine_floors = rows.4

  -- S3: no id is bad
  pub fine_ids : bad_ids (take count components) ≡ false
  fine_ids = rows.2

  module _ (slots : length components ≡ component_limit) where
    -- a listed slot is there
    pub fine_slot : (k : ℕ) → k < count → k < length components
    fine_slot k h = omega (arith, fine_count.1)

    taken : (k : ℕ) → k < count → k < length (take count components)
    taken k h = slot_taken count components k h (fine_slot k h)

    -- S3: an id is 1 to 0xDF
    pub fine_id : (k : ℕ) → k < count → (1 ≤ (component_at components k).fixed.id) × ((component_at components k).fixed.id ≤ id_limit)
    unfolding bad_ids
    fine_id k h =
        let e = any_none blank_component (λ c. bad_id c.fixed.id) (take count components) (neither (any (λ c. bad_id c.fixed.id) (take count components)) _ rows.2).0 k (taken k h) in
        let s = neither (ltb (component_at components k).fixed.id 1) (ltb id_limit (component_at components k).fixed.id) (rw (get_or-take count components k blank_component h) at e) in
        (ltb-false (component_at components k).fixed.id 1 s.0, ltb-false id_limit (component_at components k).fixed.id s.1)

    -- S3: two slots with one id are one slot
    pub fine_differ : (i j : ℕ) → i < count → j < count → (component_at components i).fixed.id ≡ (component_at components j).fixed.id → i ≡ j
    fine_differ i j i< j< q = ids_differ_where count components rows.2 i j i< (fine_slot i i<) j< (fine_slot j j<) q

    -- S4: a region has 8 bytes or more, and lies in the buffer
    pub fine_region : (k : ℕ) → k < count → (8 ≤ (component_at components k).fixed.region.len) × ((component_at components k).fixed.region.base.0 + (component_at components k).fixed.region.len ≤ n)
    unfolding bad_regions
    fine_region k h =
        let r = (component_at components k).fixed.region in
        let e = any_none blank_component (λ c. bad_region n c.fixed.region) (take count components) (neither (any (λ c. bad_region n c.fixed.region) (take count components)) _ rows.3).0 k (taken k h) in
        let s = neither (ltb r.len 8) (ltb n (r.base.0 + r.len)) (rw (get_or-take count components k blank_component h) at e) in
        (ltb-false r.len 8 s.0, ltb-false n (r.base.0 + r.len) s.1)

    -- S4: of two slots' regions one lies before the other
    pub fine_apart : (i j : ℕ) → i < count → j < count → (i ≡ j → ⊥) → Apart (component_at components i).fixed.region (component_at components j).fixed.region
    unfolding bad_regions
    fine_apart i j i< j< ne = go (dec_lt i j) where
      order : (m k : ℕ) → m < k → m < count → k < count → Apart (component_at components m).fixed.region (component_at components k).fixed.region
      order m k h m< k< =
          apart (component_at components m).fixed.region (component_at components k).fixed.region
          (rw (get_or-take count components m blank_component m<, get_or-take count components k blank_component k<) at
          (pairs_none blank_component (λ c c'. overlap c.fixed.region c'.fixed.region) (take count components) (neither (any (λ c. bad_region n c.fixed.region) (take count components)) _ rows.3).1 m k h (taken k k<)))

      go : Dec (i < j) → Apart (component_at components i).fixed.region (component_at components j).fixed.region
      go (yes h) = order i j h i< j<
      go (no h) = let ji : j < i = omega arith in apart_sym (component_at components j).fixed.region (component_at components i).fixed.region (order j i ji j< i<)

-- what set-up looks at of a component
abbrev pub seen : Component → Fixed
seen c = c.fixed

module _ (n count : ℕ) (components components' : List Component) (e : map seen components ≡ map seen components') where
  -- a row that looks at each of the components in use, and at each two
  row : (p : Fixed → Bool) (q : Fixed → Fixed → Bool)
      → (any (λ c. p (seen c)) (take count components) || pairs (λ c c'. q (seen c) (seen c')) (take count components))
      ≡ (any (λ c. p (seen c)) (take count components') || pairs (λ c c'. q (seen c) (seen c')) (take count components'))
  row p q = at components ∙ ap over e ∙ sym (at components') where
    over : List (Fixed) → Bool
    over t = any p (take count t) || pairs q (take count t)

    at : (l : List Component) → (any (λ c. p (seen c)) (take count l) || pairs (λ c c'. q (seen c) (seen c')) (take count l)) ≡ over (map seen l)
    at l = rw (← (map_take seen count l)) (ap₂ (λ (a b : Bool). a || b) (any_map seen p (take count l)) (pairs_map seen q (take count l)))

  -- a row that looks at each alone
  single : (p : Fixed → Bool) → any (λ c. p (seen c)) (take count components) ≡ any (λ c. p (seen c)) (take count components')
  single p = at components ∙ ap (λ (t : List Fixed). any p (take count t)) e ∙ sym (at components') where
    at : (l : List Component) → any (λ c. p (seen c)) (take count l) ≡ any p (take count (map seen l))
    at l = rw (← (map_take seen count l)) (any_map seen p (take count l))

  -- lists that look the same to set-up get the same verdict
  pub setup_same : setup_verdict n count components ≡ setup_verdict n count components'
  unfolding setup_verdict bad_ids bad_regions
  setup_same =
      ap₂ (verdict (bad_floors (take count components))) (row (λ x. bad_id x.id) (λ x y. eqb x.id y.id)) (row (λ x. bad_region n x.region) (λ x y. overlap x.region y.region))
      ∙ ap (λ (f : Bool). verdict f (bad_ids (take count components')) (bad_regions n (take count components'))) (single (λ x. bad_floor x.floor)) where
        verdict : (f i r : Bool) → SetupVerdict
        verdict f i r = first_of ((staging_too_long n, Err S1) ∷ (bad_count count, Err S2) ∷ (i, Err S3) ∷ (r, Err S4) ∷ (f, Err S5) ∷ []) (Ok tt)

-- a component that becomes pending keeps the verdict
pub setup_staged : (n count : ℕ) (components : List Component) (slot : ℕ) (v : Version) → setup_verdict n count (set components slot (with_staged (component_at components slot) v)) ≡ setup_verdict n count components
setup_staged n count components slot v = setup_same n count _ components (map-set_same seen components slot (with_staged (component_at components slot) v) blank_component refl)
