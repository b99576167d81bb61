-- `write`: each row from the tests that lead to it. Assumes nothing.
use mathlib.Core.Path.{◌≡◌, ◌∙◌}
use mathlib.Core.Bool.{false}
use mathlib.Core.List.{[], ◌∷◌}
use Prim.Native.Nat.{ℕ}
use native.Mathlib.Omega.{arith}
use lib.ListN.{length}
use Rattle.wire.specs.Checks.{first_of}
use Rattle.wire.proofs.Chain.{by}
use Rattle.bundle_layout.proofs.Places.{some_placed, none_placed}
use Rattle.bundle_given.specs.declared.EntryRule.{EntryRule}
use Rattle.bundle_given.specs.declared.EntryRule.TheVariants.{Offer, Lent, Crc, Bears}
use Rattle.bundle_writer.specs.Bundle.{made_bundle}
use Rattle.bundle_given.specs.Entry.{bad_list}
use Rattle.bundle_writer.specs.Rows.{Row, first_breaking, row_w3, write_row}
use Rattle.bundle_writer.specs.Answer.{make_of}
use Rattle.bundle_writer.proofs.Refusals.{refusal, size_rows, from, rows_from, too_long, no_room, all_fits}
use Rattle.bundle_writer.proofs.write.Goals.{Else-bad_list, In_default-first_breaking-3, In_default-first_breaking-2, In_default-first_breaking, In_default, In_default-repeated_place}
use Rattle.bundle_writer.proofs.write.Goals as goal

-- past W1: the row, the entries that the rows name, and the bundle's length
abbrev row : Else-bad_list → Row
row c = let a = c.args in write_row a.list.now a.images.now (length a.out.now)

abbrev at : Else-bad_list → EntryRule → ℕ
at c rule = let a = c.args in first_breaking rule a.list.now a.images.now

abbrev again : Else-bad_list → ℕ
again c = row_w3 c.args.list.now

abbrev size : Else-bad_list → ℕ
size c = let a = c.args in length (made_bundle a.list.now a.images.now)

abbrev room : Else-bad_list → ℕ
room c = length c.args.out.now

abbrev last : Else-bad_list → Row
last c = size_rows (room c) (size c)

good : (c : Else-bad_list) → bad_list c.args.list.now ≡ false
good c = by c.bad_list.ensures c.if-bad_list.false

-- what is left of the rows past each
past_1 : (c : Else-bad_list) → row c ≡ from 2 (at c Offer ∷ again c ∷ at c Lent ∷ at c Crc ∷ at c Bears ∷ []) (last c)
past_1 c = rows_from _ _ _ (good c)

past_2 : (c : In_default) → let d = (goal.at.In_default c).Else-bad_list in row d ≡ from 3 (again d ∷ at d Lent ∷ at d Crc ∷ at d Bears ∷ []) (last d)
past_2 c = past_1 (goal.at.In_default c).Else-bad_list ∙ rw (none_placed _ _ c.first_breaking.ensures c.in_default.is)

past_3 : (c : In_default-repeated_place) → let d = (goal.at.In_default-repeated_place c).Else-bad_list in row d ≡ from 4 (at d Lent ∷ at d Crc ∷ at d Bears ∷ []) (last d)
past_3 c = past_2 (goal.at.In_default-repeated_place c).In_default ∙ rw (none_placed _ _ c.repeated_place.ensures c.in_default-repeated_place.is)

past_4 : (c : In_default-first_breaking) → let d = (goal.at.In_default-first_breaking c).Else-bad_list in row d ≡ from 5 (at d Crc ∷ at d Bears ∷ []) (last d)
past_4 c = past_3 (goal.at.In_default-first_breaking c).In_default-repeated_place ∙ rw (none_placed _ _ c.first_breaking-2.ensures c.in_default-first_breaking.is)

past_5 : (c : In_default-first_breaking-2) → let d = (goal.at.In_default-first_breaking-2 c).Else-bad_list in row d ≡ from 6 (at d Bears ∷ []) (last d)
past_5 c = past_4 (goal.at.In_default-first_breaking-2 c).In_default-first_breaking ∙ rw (none_placed _ _ c.first_breaking-3.ensures c.in_default-first_breaking-2.is)

past_6 : (c : In_default-first_breaking-3) → let d = (goal.at.In_default-first_breaking-3 c).Else-bad_list in row d ≡ from 7 ([]) (last d)
past_6 c = past_5 (goal.at.In_default-first_breaking-3 c).In_default-first_breaking-2 ∙ rw (none_placed _ _ c.first_breaking-4.ensures c.in_default-first_breaking-3.is)

-- W4 names none, so each image is wholly lent
lent : (c : In_default-first_breaking) → at (goal.at.In_default-first_breaking c).Else-bad_list Lent ≡ 0
lent c = none_placed _ _ c.first_breaking-2.ensures c.in_default-first_breaking.is

pub returns-then-bad_list : goal.returns-then-bad_list
unfolding write_row first_of
returns-then-bad_list c = rw c.refused.ensures (refusal _ _ _ 1 0 (rw (by c.bad_list.ensures c.if-bad_list.true)))

pub returns-in-Some : goal.returns-in-Some
returns-in-Some c =
    let e = some_placed _ _ _ c.first_breaking.ensures c.in-Some.is in
    rw (c.refused-in-Some.ensures, e.0) (refusal _ _ _ 2 _ (past_1 (goal.at.returns-in-Some c).Else-bad_list ∙ rw e.1))

pub returns-in-Some-repeated_place : goal.returns-in-Some-repeated_place
returns-in-Some-repeated_place c =
    let e = some_placed _ _ _ c.repeated_place.ensures c.in-Some-repeated_place.is in
    rw (c.refused-in-Some-repeated_place.ensures, e.0) (refusal _ _ _ 3 _ (past_2 (goal.at.returns-in-Some-repeated_place c).In_default ∙ rw e.1))

pub returns-in-Some-first_breaking : goal.returns-in-Some-first_breaking
returns-in-Some-first_breaking c =
    let e = some_placed _ _ _ c.first_breaking-2.ensures c.in-Some-first_breaking.is in
    rw (c.refused-in-Some-first_breaking.ensures, e.0) (refusal _ _ _ 4 _ (past_3 (goal.at.returns-in-Some-first_breaking c).In_default-repeated_place ∙ rw e.1))

pub returns-in-Some-first_breaking-2 : goal.returns-in-Some-first_breaking-2
returns-in-Some-first_breaking-2 c =
    let e = some_placed _ _ _ c.first_breaking-3.ensures c.in-Some-first_breaking-2.is in
    rw (c.refused-in-Some-first_breaking-2.ensures, e.0) (refusal _ _ _ 5 _ (past_4 (goal.at.returns-in-Some-first_breaking-2 c).In_default-first_breaking ∙ rw e.1))

pub returns-in-Some-first_breaking-3 : goal.returns-in-Some-first_breaking-3
returns-in-Some-first_breaking-3 c =
    let e = some_placed _ _ _ c.first_breaking-4.ensures c.in-Some-first_breaking-3.is in
    rw (c.refused-in-Some-first_breaking-3.ensures, e.0) (refusal _ _ _ 6 _ (past_5 (goal.at.returns-in-Some-first_breaking-3 c).In_default-first_breaking-2 ∙ rw e.1))

pub returns-then-size-gt-BUNDLE_LIMIT : goal.returns-then-size-gt-BUNDLE_LIMIT
returns-then-size-gt-BUNDLE_LIMIT c =
    let e = c.bundle_length-size.ensures in
    let f = (goal.at.returns-then-size-gt-BUNDLE_LIMIT c).In_default-first_breaking-3 in
    let d = (goal.at.returns-then-size-gt-BUNDLE_LIMIT c).Else-bad_list in
    rw c.refused-then-size-gt-BUNDLE_LIMIT.ensures (refusal _ _ _ 7 0 (past_6 f ∙ too_long (room d) (size d) (rw (← e) c.if-size-gt-BUNDLE_LIMIT.true)))

pub returns-then-out-size : goal.returns-then-out-size
returns-then-out-size c =
    let e = c.bundle_length-size.ensures in
    let f = (goal.at.returns-then-out-size c).In_default-first_breaking-3 in
    let d = (goal.at.returns-then-out-size c).Else-bad_list in
    rw c.refused-then-out-size.ensures (refusal _ _ _ 8 0 (past_6 f ∙ no_room (room d) (size d) (rw (← e) (omega arith)) (rw (← e) (omega arith))))

pub put_bundle-requires : goal.put_bundle-requires
put_bundle-requires c =
    let e = c.bundle_length-size.ensures in
    let f = (goal.at.put_bundle-requires c).In_default-first_breaking in
    record {
      list_value = (good (goal.at.put_bundle-requires c).Else-bad_list, lent f);
      images_len_bound = (rw (← e) (omega arith), rw (← e) (omega arith));
    }

pub returns : goal.returns
unfolding make_of
returns c =
    let e = c.bundle_length-size.ensures in
    let f = (goal.at.returns c).In_default-first_breaking-3 in
    let d = (goal.at.returns c).Else-bad_list in
    let r = past_6 f ∙ all_fits (room d) (size d) (rw (← e) (omega arith)) (rw (← e) (omega arith)) in
    rw (c.put_bundle.ensures, e, r)

pub first_breaking-requires : goal.first_breaking-requires
first_breaking-requires c = good c

pub repeated_place-requires : goal.repeated_place-requires
repeated_place-requires c = good (goal.at.repeated_place-requires c).Else-bad_list

pub first_breaking-requires-2 : goal.first_breaking-requires-2
first_breaking-requires-2 c = good (goal.at.first_breaking-requires-2 c).Else-bad_list

pub first_breaking-requires-3 : goal.first_breaking-requires-3
first_breaking-requires-3 c = good (goal.at.first_breaking-requires-3 c).Else-bad_list

pub first_breaking-requires-4 : goal.first_breaking-requires-4
first_breaking-requires-4 c = good (goal.at.first_breaking-requires-4 c).Else-bad_list

pub bundle_length-size-requires : goal.bundle_length-size-requires
bundle_length-size-requires c = (good (goal.at.bundle_length-size-requires c).Else-bad_list, lent (goal.at.bundle_length-size-requires c).In_default-first_breaking)
