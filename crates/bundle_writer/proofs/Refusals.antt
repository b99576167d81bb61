-- The rows of the writer one after another, and the answer of a refusal. Assumes nothing.
use mathlib.Core.Path.{◌≡◌, sym, ap}
use mathlib.Core.Bool.{false, cond}
use mathlib.Core.List.{List, [], ◌∷◌}
use Prim.Native.Nat.{ℕ, suc, ◌≤◌, ◌<◌}
use borrow.Author.Tests.{lt-ltb, le-ltb}
use lib.Dec.{ltb}
use lib.ListN.{length}
use Rattle.wire.specs.Checks.{first_of}
use Rattle.bundle_layout.specs.Layout.{bundle_limit}
use Rattle.bundle_layout.specs.Rows.{named}
use Rattle.bundle_given.specs.declared.EntryRule.{EntryRule}
use Rattle.bundle_given.specs.declared.EntryRule.TheVariants.{Offer, Lent, Crc, Bears}
use Rattle.bundle_writer.specs.Bundle.{made_bundle}
use Rattle.bundle_given.specs.Entry.{bad_list}
use Rattle.bundle_writer.specs.Rows.{Row, served, row_w, first_breaking, row_w3, write_row}
use Rattle.bundle_writer.specs.Answer.{made_by, make_of}

-- a refusal leaves the output
pub refusal : (list images out : List ℕ) (k entry : ℕ) → write_row list images (length out) ≡ row_w k entry
    → record { row = row_w k entry; place = entry; length = 0; out = out } ≡ make_of list images out
unfolding make_of
refusal list images out k entry e = ap (λ r. made_by r list images out) (sym e)

-- the rows W7 and W8, of the bundle's length
abbrev pub size_rows : (room size : ℕ) → Row
size_rows room size = cond (ltb bundle_limit size) (row_w 7 0) (cond (ltb room size) (row_w 8 0) served)

-- the rows from number k on, by the entries that they name, and those after them
abbrev pub from : ℕ → List ℕ → Row → Row
from k [] last = last
from k (e ∷ es) last = cond (named e) (row_w k e) (from (suc k) es last)

-- past W1
pub rows_from : (list images : List ℕ) (room : ℕ) → bad_list list ≡ false →
    let at : EntryRule → ℕ = λ rule. first_breaking rule list images in
    write_row list images room
    ≡ from 2 (at Offer ∷ row_w3 list ∷ at Lent ∷ at Crc ∷ at Bears ∷ []) (size_rows room (length (made_bundle list images)))
unfolding write_row first_of
rows_from list images room e = rw e

-- the rows of the length
pub too_long : (room size : ℕ) → bundle_limit < size → size_rows room size ≡ row_w 7 0
too_long room size h = rw (lt-ltb bundle_limit size h)

pub no_room : (room size : ℕ) → size ≤ bundle_limit → room < size → size_rows room size ≡ row_w 8 0
no_room room size h k = rw (le-ltb bundle_limit size h, lt-ltb room size k)

pub all_fits : (room size : ℕ) → size ≤ bundle_limit → size ≤ room → size_rows room size ≡ served
all_fits room size h k = rw (le-ltb bundle_limit size h, le-ltb room size k)
