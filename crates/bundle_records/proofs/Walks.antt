-- What stands at a place of a body, and what the records from there on are. Assumes nothing.
use mathlib.Core.Path.{◌≡◌, refl, sym, subst, ◌∙◌}
use mathlib.Core.Bool.{Bool, true, false, cond, ◌&&◌}
use mathlib.Core.List.{List, [], ◌∷◌}
use Prim.Native.Nat.{ℕ, ◌+◌, ◌-◌, ◌≤◌}
use native.Mathlib.Omega.{arith}
use borrow.Author.Tests.{leb-true, le-leb}
use lib.Dec.{leb}
use lib.ListN.{length, take, drop, length-take, length-drop}
use lib.Seq.{drop-drop, take-take}
use Rattle.wire.specs.declared.address.RegionAddress.{RegionAddress}
use Rattle.wire.proofs.Tests.{both}
use Rattle.bundle_records.specs.declared.Head.{Head}
use Rattle.bundle_records.specs.declared.Head.TheVariants.{Empty, Cut, Whole}
use Rattle.bundle_records.specs.declared.Next.{Next}
use Rattle.bundle_records.specs.declared.Next.TheVariants.{End, Bad, Record}
use Rattle.bundle_records.specs.Record.{Block, head_in}
use Rattle.bundle_records.specs.Parse.{Parsed, whole, broken, more, records_of}
use Rattle.bundle_records.specs.Walk.{between, placed, next_of}
use Rattle.bundle_records.proofs.Parts.{drop_take}
use Rattle.bundle_records.proofs.Heads.{Seen, seen}
use Rattle.bundle_records.proofs.Parsing.{records_by}
use Rattle.bundle_records.proofs.walk.Laws.{rest_between}

-- a record that stands at place `at` of the bytes
pub record Stands (bytes : List ℕ) (at end : ℕ) (address : RegionAddress) (start size next : ℕ) : Type 0 where
  pub some : 1 ≤ size
  pub few : size ≤ 52
  pub fits : start + size ≤ length bytes
  pub inside : next ≤ end
  pub reads : records_of (between bytes at end) ≡ more (record { address = address; bytes = take size (drop start bytes) }) (records_of (between bytes next end))

module _ (bytes : List ℕ) (at end : ℕ) where
  -- what a step says of the records from its place on
  abbrev pub Says : Next → Type 0
  Says End = records_of (between bytes at end) ≡ whole []
  Says Bad = at ≤ end → end ≤ length bytes → records_of (between bytes at end) ≡ broken
  Says (Record address start size next) = Stands bytes at end address start size next

  -- the data of a record within the part is that of the bytes
  data_is : (size : ℕ) → at + 5 + size ≤ end → take size (drop 5 (between bytes at end)) ≡ take size (drop (at + 5) bytes)
  data_is size h =
      let l : size ≤ end - at - 5 = omega arith in
      rw (drop_take 5 (end - at) (drop at bytes), take-take size (end - at - 5) (drop 5 (drop at bytes)) l, drop-drop 5 at bytes)

  says_by : (b : Bool) (d : Head) → (leb at end && leb end (length bytes)) ≡ b → head_in (between bytes at end) ≡ d → Says (cond b (placed at d) Bad)
  says_by false d p e = λ h k. let z : ◌≡◌ {A = ℕ} 0 1 = cc (le-leb at end h, le-leb end (length bytes) k) in absurd (omega arith)
  says_by true Empty p e = rw (records_by (between bytes at end), e)
  says_by true Cut p e = λ h k. rw (records_by (between bytes at end), e)
  says_by true (Whole a size) p e =
      let w = both (leb at end) (leb end (length bytes)) p in
      let h = leb-true at end w.0 in
      let k = leb-true end (length bytes) w.1 in
      let l : length (between bytes at end) ≡ end - at = simp (length-take, length-drop) (omega arith) in
      let s = subst (Seen (between bytes at end)) e (seen (between bytes at end)) in
      let m : at + 5 + size ≤ end = omega (arith, s.fits) in
      record {
        some = s.some;
        few = s.few;
        fits = omega arith;
        inside = m;
        reads = rw (records_by (between bytes at end), e, rest_between bytes at end size, data_is size m);
      }

  -- one step
  pub says : Says (next_of bytes at end)
  unfolding next_of
  says = says_by _ _ refl refl

  -- what a step finds where a record is due: it, and the place from which on the others stand
  abbrev pub Goes : (x : Block) (xs : List Block) → Next → Type 0
  Goes x xs End = ⊥
  Goes x xs Bad = ⊥
  Goes x xs (Record address start size next) =
      (record { address = address; bytes = take size (drop start bytes) } ≡ x) × (next ≤ end) × (records_of (between bytes next end) ≡ whole xs)

  -- the first record of some, and the rest
  more_whole : (r : Block) (q : Parsed) (x : Block) (xs : List Block) → more r q ≡ whole (x ∷ xs) → (r ≡ x) × (q ≡ whole xs)
  more_whole r (whole ts) x xs h = (cc, cc)
  more_whole r broken x xs h = let z : ◌≡◌ {A = ℕ} 0 1 = cc in absurd (omega arith)

  goes_by : (x : Block) (xs : List Block) → at ≤ end → end ≤ length bytes → records_of (between bytes at end) ≡ whole (x ∷ xs) → (r : Next) → Says r → Goes x xs r
  goes_by x xs l m q End h = let z : ◌≡◌ {A = ℕ} 0 1 = cc in omega arith
  goes_by x xs l m q Bad h = let k = h l m in let z : ◌≡◌ {A = ℕ} 0 1 = cc in omega arith
  goes_by x xs l m q (Record a start size next) h =
      let w = more_whole (record { address = a; bytes = take size (drop start bytes) }) (records_of (between bytes next end)) x xs (sym h.reads ∙ q) in
      (w.0, h.inside, w.1)

  pub goes : (x : Block) (xs : List Block) → at ≤ end → end ≤ length bytes → records_of (between bytes at end) ≡ whole (x ∷ xs) → Goes x xs (next_of bytes at end)
  goes x xs l m q = goes_by x xs l m q (next_of bytes at end) says
