-- Content without its data (document 01, "Packets"; CFU 5.5).
use Rattle.std.specs.Prelude.{ℕ, List, get_or}
use Rattle.wire.specs.Bytes.{number, bytes_at}
use Rattle.wire_content.specs.declared.head.ContentHead.{ContentHead}

-- the fields of bytes 0-7, as they stand
abbrev pub head_in : List ℕ → ContentHead
head_in p = record {
  flags = get_or p 0 0;
  length = get_or p 1 0;
  sequence = number (bytes_at 2 2 p);
  address = record { 0 = number (bytes_at 4 4 p) };
}
