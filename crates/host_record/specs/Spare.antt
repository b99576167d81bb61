-- What deciding requires of a record: each number that may go up by one then still fits its 32 bits, and the entry of a block has a bit in the mask. It holds
-- of every record that N1 does not refuse.
use Rattle.std.specs.Prelude.{ℕ, ◌+◌, ◌^◌, ◌<◌}
use Rattle.host_record.specs.declared.record.Host.{Host}
use Rattle.host_record.specs.declared.record.HostStage.{HostStage}
use Rattle.host_record.specs.declared.record.HostStage.TheVariants.{Fresh, Opening, Listing, Offering, Waiting, Sending, Closing, Ended}

-- one more fits
abbrev pub Spare : ℕ → Type 0
Spare n = n + 1 < 2 ^ 32

-- the entry and the block of a stage can go up by one, and the entry of a block has a bit in the mask
abbrev pub SpareIn : HostStage → Type 0
SpareIn Fresh = Unit {0}
SpareIn Opening = Unit {0}
SpareIn Listing = Unit {0}
SpareIn (Offering t) = Spare t.entry
SpareIn (Waiting t) = Spare t.entry
SpareIn (Sending a) = (a.place.entry < 32) × Spare a.place.block
SpareIn Closing = Unit {0}
SpareIn (Ended e) = Unit {0}

-- the counts of packets and passes can go up by one
abbrev pub SpareCounts : Host → Type 0
SpareCounts h = Spare h.packets × Spare h.passes
