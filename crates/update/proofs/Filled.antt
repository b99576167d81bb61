-- The staging buffer after a set of offers has landed: one landing more, and that the set decides every byte. Assumes nothing.
use Prim.Native.Nat.{ℕ, ◌+◌, ◌-◌, ◌≤◌, ◌<◌}
use mathlib.Core.Path.{◌≡◌, refl, sym, ap, subst, ◌∙◌}
use mathlib.Core.Logic.{◌⊎◌, inl, inr}
use mathlib.Core.Bool.{Bool, true, false, not, ◌&&◌}
use mathlib.Core.List.{List, [], ◌∷◌}
use native.Mathlib.Decide.{ℕ_discrete}
use native.Mathlib.Omega.{arith}
use lib.Dec.{T, T_not, leb, ltb, eqb, eqb→eq, leb→le, ltb→lt, nleb→lt, nltb→le}
use lib.ListN.{length, get_or}
use lib.Seq.{ext_get_or}
use Rattle.wire.specs.Checks.{any}
use Rattle.wire.specs.Codes.{component_limit}
use Rattle.bundle_records.specs.Record.{Block}
use Rattle.image.specs.Region.{within, region_bytes, blank, put}
use Rattle.image.specs.declared.region.Region.{Region}
use Rattle.image.proofs.region.Within.{region_byte, blank_length, put_length, within_length, within_own, within_out, within_apart}
use Rattle.device_component.specs.Setup.{setup_verdict}
use Rattle.std.specs.Prelude.{Option, None, Some, Ok}
use Rattle.device_component.proofs.setup.Laws.{fine_region, fine_apart}
use Rattle.update_passes.specs.Sets.{Set, ins, none, from}
use Rattle.update_passes.proofs.Tests.{bool_cases, or_cases, and_l, and_r, nand}
use Rattle.update_passes.proofs.Sets.{ins_old, ins_new, some_out, some_in}
use Rattle.update_passes.proofs.Sets as sets
use Rattle.bundle_layout.specs.Layout.{count_in}
use Rattle.bundle.proofs.Accepted.{Accepted}
use Rattle.device.specs.Record.{find, component}
use Rattle.device.specs.Refusals.{breaks_d1}
use Rattle.device.specs.declared.record.Device.{Device}
use Rattle.device_session.proofs.sound.Laws.{passes, fine}
use Rattle.host.specs.Step.{blocks_at}
use Rattle.update.specs.Claim.{offer_at, writes, image_of, Inside, Untouched, Fills}
use Rattle.update.proofs.Landed.{same_slot, numbered, below_count, at_slot, one_offer}

-- what D1 lets pass, set-up finds fine
pub fine_setup : (d : Device) → breaks_d1 d ≡ false → setup_verdict d.staging_len d.count d.components ≡ Ok tt
fine_setup d h = fine _ (passes h).setup

-- records that lie inside leave the length
writes_length : (len : ℕ) (m : List ℕ) (rs : List Block) → length m ≡ len → Inside len rs → length (writes m rs) ≡ len
unfolding writes
writes_length len m [] e h = e
writes_length len m (x ∷ xs) e h = writes_length len (put x.address.0 x.bytes m) xs (put_length x.address.0 x.bytes m (omega (arith, h.0)) ∙ e) h.1

-- an image is as long as its region
pub image_length : (len : ℕ) (rs : List Block) → Inside len rs → length (image_of len rs) ≡ len
unfolding image_of
image_length len rs h = writes_length len (blank len) rs (blank_length len) h

module _ (b : List ℕ) (α : Accepted b) (d : Device) (slots : length d.components ≡ component_limit) (fine : setup_verdict d.staging_len d.count d.components ≡ Ok tt)
    (s : List ℕ) (d2 : length s ≡ d.staging_len) where
  -- the region of a slot lies in the buffer
  pub region_inside : (k : ℕ) → k < d.count → (component d k).fixed.region.base.0 + (component d k).fixed.region.len ≤ d.staging_len
  region_inside k h = (fine_region d.staging_len d.count d.components fine slots k h).1

  -- nothing has landed
  pub fills_none : Fills d b none s s
  fills_none = record { long = refl; images = λ i k l t. absurd t; rest = λ j u. refl }

  -- one landing more
  pub fills_more : (S : Set) (r : List ℕ) (e k : ℕ) → Fills d b S s r → e < count_in b → find d (offer_at b e).id ≡ Some k
      → Inside (component d k).fixed.region.len (blocks_at b e)
      → Fills d b (ins S e) s (within (component d k).fixed.region.base.0 (component d k).fixed.region.len (λ (old : List ℕ). image_of (component d k).fixed.region.len (blocks_at b e)) r)
  fills_more S r e k h l f inside =
      record {
        long = within_length q image r room kept ∙ h.long;
        images = λ i j m t g. by i j m t g (ℕ_discrete i e);
        rest = λ j u. within_out q image r room kept j (u e k l (ins_new S e) f) ∙ h.rest j (λ i k' m t. u i k' m (ins_old S e i t));
      }
    where
      q : Region
      q = (component d k).fixed.region

      image : List ℕ → List ℕ
      image old = image_of (component d k).fixed.region.len (blocks_at b e)

      room : (component d k).fixed.region.base.0 + (component d k).fixed.region.len ≤ length r
      room = omega (arith, region_inside k (at_slot b α d e k f).0, h.long)

      kept : length (image_of (component d k).fixed.region.len (blocks_at b e)) ≡ (component d k).fixed.region.len
      kept = image_length (component d k).fixed.region.len (blocks_at b e) inside

      by : (i j : ℕ) → i < count_in b → T (ins S e i) → find d (offer_at b i).id ≡ Some j → Dec (i ≡ e)
          → region_bytes (component d j).fixed.region (within q.base.0 q.len image r) ≡ image_of (component d j).fixed.region.len (blocks_at b i)
      by i j m t g (yes z) =
          let w : j ≡ k = same_slot (find d (offer_at b e).id) j k (subst (λ (n : ℕ). find d (offer_at b n).id ≡ Some j) z g) f in
          rw (w, z) (within_own q image r room kept)
      by i j m t g (no z) =
          within_apart q image r room kept (component d j).fixed.region (omega (arith, region_inside j (at_slot b α d i j g).0, h.long))
          (fine_apart d.staging_len d.count d.components fine slots k j (at_slot b α d e k f).0 (at_slot b α d i j g).0 (λ w. z (one_offer b α d i e k m l (g ∙ ap Some (sym w)) f)))
          ∙ h.images i j m (or_cases (eqb i e) (S i) (λ w. absurd (z (eqb→eq i e w))) (λ w. w) t) g

  -- a byte lies in the region of a slot
  covers : Option ℕ → ℕ → Bool
  covers None j = false
  covers (Some k) j = leb (component d k).fixed.region.base.0 j && ltb j ((component d k).fixed.region.base.0 + (component d k).fixed.region.len)

  -- a member has that byte in its region
  abbrev touched : Set → (j i : ℕ) → Bool
  touched S j i = S i && covers (find d (offer_at b i).id) j

  -- the set decides every byte
  pub fills_same : (S : Set) (r r' : List ℕ) → Fills d b S s r → Fills d b S s r' → r ≡ r'
  unfolding covers
  fills_same S r r' h h' =
      ext_get_or 0 r r' (h.long ∙ sym h'.long) (λ j q. bool_cases (any (touched S j) (from 0 (count_in b))) (in_one j) (in_none j))
    where
      in_slot : (j i : ℕ) → i < count_in b → T (S i) → (f : Option ℕ) → find d (offer_at b i).id ≡ f → T (covers f j) → get_or r j 0 ≡ get_or r' j 0
      in_slot j i l t None q c = absurd c
      in_slot j i l t (Some k) q c =
          let base = (component d k).fixed.region.base.0 in
          let len = (component d k).fixed.region.len in
          let lo : base ≤ j = leb→le base j (and_l (leb base j) (ltb j (base + len)) c) in
          let hi : j < base + len = ltb→lt j (base + len) (and_r (leb base j) (ltb j (base + len)) c) in
          let at : j ≡ base + (j - base) = omega arith in
          let in_it : j - base < len = omega arith in
          ap (λ (n : ℕ). get_or r n 0) at ∙ sym (region_byte (component d k).fixed.region r (j - base) in_it)
          ∙ ap (λ (m : List ℕ). get_or m (j - base) 0) (h.images i k l t q ∙ sym (h'.images i k l t q))
          ∙ region_byte (component d k).fixed.region r' (j - base) in_it ∙ ap (λ (n : ℕ). get_or r' n 0) (sym at)

      in_one : (j : ℕ) → T (any (touched S j) (from 0 (count_in b))) → get_or r j 0 ≡ get_or r' j 0
      in_one j t =
          let x : sets.Some (from 0 (count_in b)) (touched S j) = some_out (from 0 (count_in b)) (touched S j) t in
          in_slot j x.j (below_count b x.j x.listed) (and_l (S x.j) _ x.has) (find d (offer_at b x.j).id) refl (and_r (S x.j) _ x.has)

      in_none : (j : ℕ) → T (not (any (touched S j) (from 0 (count_in b)))) → get_or r j 0 ≡ get_or r' j 0
      in_none j z = h.rest j out ∙ sym (h'.rest j out)
        where
          far : (k : ℕ) → T (not (covers (Some k) j)) → (j < (component d k).fixed.region.base.0) ⊎ ((component d k).fixed.region.base.0 + (component d k).fixed.region.len ≤ j)
          far k =
              nand (leb (component d k).fixed.region.base.0 j) (ltb j ((component d k).fixed.region.base.0 + (component d k).fixed.region.len)) (λ w. inl (nleb→lt _ _ w)) (λ w. inr (nltb→le _ _ w))

          not_both : (x y : Bool) → T x → (T (x && y) → ⊥) → T (not y)
          not_both true true p n = absurd (n tt)
          not_both true false p n = tt
          not_both false y p n = elim p [ ]

          out : Untouched d b S j
          out i k l t q =
              far k (not_both (S i) (covers (Some k) j) t
              (λ w. T_not (any (touched S j) (from 0 (count_in b))) z
              (some_in (from 0 (count_in b)) (touched S j) i (numbered b i l) (subst (λ (f : Option ℕ). T (S i && covers f j)) (sym q) w))))
