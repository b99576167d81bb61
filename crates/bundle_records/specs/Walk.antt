-- What stands at a place of a body, for a walker that steps from place to place.
use Rattle.std.specs.Prelude.{Option, None, ℕ, ◌+◌, ◌-◌, cond, ◌&&◌, List, leb, length, take, drop}
use Rattle.bundle_records.specs.declared.Head.{Head}
use Rattle.bundle_records.specs.declared.Head.TheVariants.{Empty, Cut, Whole}
use Rattle.bundle_records.specs.declared.Next.{Next}
use Rattle.bundle_records.specs.declared.Next.TheVariants.{End, Bad, Record}
use Rattle.bundle_records.specs.Record.{head_in}
use Rattle.bundle_records.specs.Parse.{records_of, tally_from}

-- the bytes from place `at` to place `end`
abbrev pub between : List ℕ → (at end : ℕ) → List ℕ
between bytes at end = take (end - at) (drop at bytes)

-- what stands at the start of a part, given by places
abbrev pub placed : ℕ → Head → Next
placed at Empty = End
placed at Cut = Bad
placed at (Whole address size) = Record address (at + 5) size (at + 5 + size)

-- what stands at place `at` of a body that ends at `end`; places that the bytes do not have are bad
unfoldable pub next_of : List ℕ → (at end : ℕ) → Next
next_of bytes at end = cond (leb at end && leb end (length bytes)) (placed at (head_in (between bytes at end))) Bad

-- how many records stand from place `at` to place `end`; none where the body is broken
unfoldable pub tally_of : List ℕ → (at end : ℕ) → Option ℕ
tally_of bytes at end = cond (leb at end && leb end (length bytes)) (tally_from 0 (records_of (between bytes at end))) None
