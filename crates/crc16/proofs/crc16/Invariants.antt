-- `crc16::crc16` meets its contract: what is left of the message, from the register, gives the CRC of the whole. Assumes nothing.
use mathlib.Core.Path.{◌≡◌}
use lib.ListN.{drop}
use Rattle.crc16.specs.Crc.{crc_from, crc_of}
use Rattle.crc16.specs.Table.{crc_table}
use Rattle.crc16.proofs.crc16.Given as goal

abbrev pub invariant-loop-b : goal.invariant-loop-b
invariant-loop-b l = (l.table ≡ crc_table) × (crc_from l.r (drop l.b-index l.bytes) ≡ crc_of l.bytes)
