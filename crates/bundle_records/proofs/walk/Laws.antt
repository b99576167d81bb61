-- A walk from place to place counts the records of the part that it walks. Assumes nothing.
use mathlib.Core.Path.{◌≡◌, refl, ap, subst, ◌∙◌}
use mathlib.Core.Bool.{Bool, true, false, cond, ◌&&◌}
use mathlib.Core.List.{List}
use Prim.Native.Nat.{ℕ, suc, ◌+◌, ◌-◌, ◌<◌, ◌≤◌}
use native.Mathlib.Omega.{arith}
use borrow.Author.Tests.{leb-true, le-leb}
use lib.Dec.{leb}
use lib.ListN.{length, drop, length-take, length-drop}
use lib.Seq.{drop-drop}
use Rattle.wire.proofs.Tests.{both}
use Rattle.bundle_records.specs.declared.Head.{Head}
use Rattle.bundle_records.specs.declared.Head.TheVariants.{Empty, Cut, Whole}
use Rattle.bundle_records.specs.declared.Next.{Next}
use Rattle.bundle_records.specs.declared.Next.TheVariants.{End, Bad, Record}
use Rattle.std.specs.Prelude.{Option, Some, None}
use Rattle.bundle_records.specs.Record.{Block, head_in, block_in, rest_of}
use Rattle.bundle_records.specs.Parse.{Parsed, whole, broken, more, records_of, tally_from}
use Rattle.bundle_records.specs.Walk.{between, placed, next_of}
use Rattle.bundle_records.proofs.Parts.{drop_take}
use Rattle.bundle_records.proofs.Heads.{Seen, seen}
use Rattle.bundle_records.proofs.Parsing.{records_by}

-- what follows a record is the part from its end on
pub rest_between : (bytes : List ℕ) (at end size : ℕ) → rest_of size (between bytes at end) ≡ between bytes (at + 5 + size) end
rest_between bytes at end size =
    let e : end - at - (5 + size) ≡ end - (at + 5 + size) = omega arith in
    let f : at + (5 + size) ≡ at + 5 + size = omega arith in
    drop_take (5 + size) (end - at) (drop at bytes) ∙ rw (drop-drop (5 + size) at bytes, e, f)

-- one record more in front is one more to count
tally_more : (n : ℕ) (r : Block) (p : Parsed) → tally_from (n + 1) p ≡ tally_from n (more r p)
tally_more n r (whole rs) = let e : n + 1 + length rs ≡ n + suc (length rs) = omega arith in ap Some e
tally_more n r broken = refl

-- what the whole walk answers after n records, at place `at`
abbrev pub tallied_from : ℕ → List ℕ → (at end : ℕ) → Option ℕ
tallied_from n bytes at end = cond (leb at end && leb end (length bytes)) (tally_from n (records_of (between bytes at end))) None

module _ (bytes : List ℕ) (at end n : ℕ) where
  -- what a step says of the walk's answer: it, or that it is the answer from the next place on
  abbrev pub Step : Next → Type 0
  Step End = Some n ≡ tallied_from n bytes at end
  Step Bad = None ≡ tallied_from n bytes at end
  Step (Record address start size next) =
      (tallied_from (n + 1) bytes next end ≡ tallied_from n bytes at end) × (at < next) × (next ≤ end) × (end ≤ length bytes)

  step_by : (b : Bool) (d : Head) → (leb at end && leb end (length bytes)) ≡ b → head_in (between bytes at end) ≡ d → Step (cond b (placed at d) Bad)
  step_by false d p e = rw p
  step_by true Empty p e = let z : n ≡ n + 0 = omega arith in rw (p, records_by (between bytes at end), e) (ap Some z)
  step_by true Cut p e = rw (p, records_by (between bytes at end), e)
  step_by true (Whole a size) p e =
      let w = both (leb at end) (leb end (length bytes)) p in
      let h = leb-true at end w.0 in
      let k = leb-true end (length bytes) w.1 in
      let l : length (between bytes at end) ≡ end - at = simp (length-take, length-drop) (omega arith) in
      let s = (subst (Seen (between bytes at end)) e (seen (between bytes at end))).fits in
      let m : at + 5 + size ≤ end = omega arith in (
        rw (p, le-leb (at + 5 + size) end m, w.1, records_by (between bytes at end), e, rest_between bytes at end size)
            (tally_more n (block_in a size (between bytes at end)) (records_of (between bytes (at + 5 + size) end))),
        omega arith,
        m,
        k,
      )

  -- one step
  pub step : Step (next_of bytes at end)
  unfolding next_of
  step = step_by _ _ refl refl
