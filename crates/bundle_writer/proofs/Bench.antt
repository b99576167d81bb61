-- The examples of the writer, computed. Assumes nothing.
use mathlib.Core.Path.{refl}
use mathlib.Core.List.{flatten}
use Rattle.wire.specs.Checks.{first_of, any}
use Rattle.crc16.specs.Crc.{bit_step, bit_steps, byte_step, crc_from, crc_of}
use Rattle.bundle_records.specs.Parse.{written}
use Rattle.bundle_layout.specs.Layout.{entries_from}
use Rattle.bundle_layout.specs.Rows.{first_entry, repeated}
use Rattle.bundle.specs.Contents.{table_bytes, bundle_bytes}
use Rattle.bundle_cut.specs.Cut.{leading, reach, piece_at, cut_from}
use Rattle.bundle_given.specs.Given.{entries_of, image_at}
use Rattle.bundle_writer.specs.Bundle.{made_bundle}
use Rattle.bundle_writer.specs.Rows.{first_breaking, row_w3, write_row}
use Rattle.bundle_writer.specs.Answer.{make_of}
use Rattle.bundle_writer.specs.Bench.{WriterBench}

pub writer_bench : WriterBench
unfolding flatten first_of any bit_step bit_steps byte_step crc_from crc_of written entries_from first_entry repeated table_bytes bundle_bytes leading reach piece_at cut_from entries_of image_at made_bundle first_breaking row_w3 write_row make_of
writer_bench = record { one = refl; two = refl; kept = refl; cut_anew = refl; w1 = refl; w2 = refl; w3 = refl; w4 = refl; w5 = refl; w6_id = refl; w6_version = refl; w8 = refl }
