-- The records of a body, in order, and a body written out of records.
use Rattle.std.specs.Prelude.{Option, Some, None, ℕ, zero, suc, ◌+◌, ◌≡◌, List, [], ◌∷◌, ◌++◌, length}
use Rattle.wire.specs.Bytes.{Bytes}
use Rattle.wire.specs.Checks.{All}
use Rattle.bundle_records.specs.declared.Head.{Head}
use Rattle.bundle_records.specs.declared.Head.TheVariants.{Empty, Cut, Whole}
use Rattle.bundle_records.specs.Record.{Block, Sound, block_bytes, head_in, block_in, rest_of}

-- a body is a list of records, or broken: a cut record, or a length of 0 or over 52
pub data Parsed : Type 0 where
  whole : List Block → Parsed
  broken : Parsed

-- one record more, in front
abbrev pub more : Block → Parsed → Parsed
more r (whole rs) = whole (r ∷ rs)
more r broken = broken

-- by what stands at its start, and what becomes of the rest
abbrev pub after : (List ℕ → Parsed) → List ℕ → Head → Parsed
after next body Empty = whole []
after next body Cut = broken
after next body (Whole address size) = more (block_in address size body) (next (rest_of size body))

-- the records of a body of at most `fuel` bytes
unfoldable pub parse : ℕ → List ℕ → Parsed
parse zero body = whole []
parse (suc fuel) body = after (parse fuel) body (head_in body)

-- the records of a body
abbrev pub records_of : List ℕ → Parsed
records_of body = parse (length body) body

-- how many records, after n; none where the body is broken
abbrev pub tally_from : ℕ → Parsed → Option ℕ
tally_from n (whole rs) = Some (n + length rs)
tally_from n broken = None

-- the records that there are, and none where the body is broken
abbrev pub blocks_of : Parsed → List Block
blocks_of (whole rs) = rs
blocks_of broken = []

-- records written out, one after the other
unfoldable pub written : List Block → List ℕ
written [] = []
written (r ∷ rs) = block_bytes r ++ written rs

-- what is written out is read back
abbrev pub WrittenReads : Type 0
WrittenReads = (rs : List Block) → All Sound rs → records_of (written rs) ≡ whole rs

-- a body that reads as records is those records written out
abbrev pub ReadsWritten : Type 0
ReadsWritten = (body : List ℕ) (rs : List Block) → Bytes body → records_of body ≡ whole rs → (All Sound rs) × (written rs ≡ body)
