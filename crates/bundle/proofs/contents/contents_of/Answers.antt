-- `contents::contents_of`: the entries that are left give the row, and the table has those that were read. Assumes nothing.
use mathlib.Core.Path.{◌≡◌, refl, sym, ap, ◌∙◌}
use mathlib.Core.List.{List}
use Prim.Native.Nat.{ℕ}
use native.Mathlib.Omega.{arith}
use borrow.Author.Tests.{eq-eqb, ne_eqb}
use lib.Dec.{eqb}
use lib.ListN.{take}
use lib.Seq.{take-length}
use Rattle.bundle_records.specs.Parse.{records_of}
use Rattle.bundle_layout.specs.declared.Entry.{Entry}
use Rattle.bundle_layout.specs.Layout.{offer_limit, count_in, entries_in, body_in}
use Rattle.bundle_layout.specs.Rows.{bad_offer, bad_body, row_b5, row_b8}
use Rattle.bundle.specs.Contents.{entry_in}
use Rattle.bundle.proofs.table.Laws.{entry_at, length_entries, first_here, first_on, first_end, none_bad}
use Rattle.bundle.proofs.chain.Laws.{bodies_inside}
use Rattle.bundle.proofs.contents.Laws.{bad_none, fill_more}
use Rattle.bundle.proofs.contents.contents_of.Goals.{After-contents_in-x}
use Rattle.bundle.proofs.contents.contents_of.Goals as goal

abbrev bundle : After-contents_in-x → List ℕ
bundle c = c.args.b.now

-- the entry of this turn, and what row B8 says of it
read : (c : After-contents_in-x) → c.contents_in-x.result ≡ entry_in (bundle c) (entry_at (bundle c) c.loop-i.i)
read c = c.contents_in-x.ensures ∙ ap (entry_in (bundle c)) c.entry_at-e.ensures.0

judged : (c : After-contents_in-x) → bad_body (bundle c) (entry_at (bundle c) c.loop-i.i) ≡ eqb c.contents_in-x.result.records 0
judged c = bad_none (records_of (body_in (bundle c) (entry_at (bundle c) c.loop-i.i))) ∙ ap (λ (x : Entry). eqb x.records 0) (sym (read c))

pub loop-i-init : goal.loop-i-init
unfolding row_b8
loop-i-init c = (refl, c.no_entries-table.ensures)

pub contents_in-x-requires : goal.contents_in-x-requires
unfolding row_b5
contents_in-x-requires c =
    let s = c in
    let b = s.args.b.now in
    let i = c.loop-i.i in record {
      e_len = (c.entry_at-e.ensures.1, rw c.entry_at-e.ensures.0 (none_bad b bad_offer s.requires.b_value.0 i (omega arith)));
      e_in_bounds = (rw c.entry_at-e.ensures.0 (bodies_inside b s.requires.b_value.1 i (omega arith)), s.requires.b_bound.2);
    }

pub returns-then-x-eq0 : goal.returns-then-x-eq0
returns-then-x-eq0 c =
    let l = c.loop-i in
    let e = first_here (bundle (goal.at.returns-then-x-eq0 c).After-contents_in-x) (bad_body (bundle (goal.at.returns-then-x-eq0 c).After-contents_in-x)) l.i (omega arith) (judged (goal.at.returns-then-x-eq0 c).After-contents_in-x ∙ eq-eqb _ _ c.if-x-eq0.true) ∙ l.invariant.0 in
    record { place_value = (e, omega arith); table_value = tt }

pub loop-i-preserved : goal.loop-i-preserved
loop-i-preserved c =
    let l = c.loop-i in
    let b = bundle (goal.at.loop-i-preserved c).After-contents_in-x in (
      first_on b (bad_body b) l.i (omega arith) (judged (goal.at.loop-i-preserved c).After-contents_in-x ∙ ne_eqb _ _ c.if-x-eq0.false) ∙ l.invariant.0,
      rw (l.invariant.1, read (goal.at.loop-i-preserved c).After-contents_in-x) (fill_more b offer_limit l.i (omega arith) (omega arith)),
    )

pub returns : goal.returns
returns c =
    let l = c.loop-i in
    let b = c.args.b.now in
    let n : l.i ≡ count_in b = omega arith in
    let t : take (count_in b) (entries_in b) ≡ entries_in b = rw (← length_entries b) (take-length (entries_in b)) in
    record { place_value = tt; table_value = (sym (first_end b (bad_body b) l.i (omega arith) ∙ l.invariant.0), l.invariant.1 ∙ rw (n, t)) }
