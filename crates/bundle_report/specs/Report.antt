-- What a program prints of a check (document 01, E14), beside the row's number: an entry's numbers, and the check of input that may be longer than its buffer.
use Rattle.std.specs.Prelude.{ℕ, Bool, cond, List}
use Rattle.wire.specs.Version.{major_of, minor_of, variant_of}
use Rattle.bundle_layout.specs.declared.Entry.{Entry}
use Rattle.bundle_report.specs.declared.Line.{Line}
use Rattle.bundle_layout.specs.Rows.{row_b}
use Rattle.bundle.specs.Contents.{Contents, contents_by, check_of}

-- the numbers of an entry's line: id, the three parts of the version, how many records
abbrev pub line_of : Entry → Line
line_of e = record {
  id = e.offer.id;
  major = major_of e.offer.version;
  minor = minor_of e.offer.version;
  variant = variant_of e.offer.version;
  records = e.records;
}

-- a full buffer with more to come is B1; otherwise the input is what was read
abbrev pub input_of : (more : Bool) → List ℕ → Contents
input_of more buffer = cond more (contents_by (row_b 1 0) buffer) (check_of buffer)
