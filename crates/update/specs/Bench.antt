-- Example E13 (document 01, "Bench examples"): the bundle of E12, each body records of 52 and 12 bytes, component 1 needing component 2's new
-- version; its run in both orders.
use Rattle.std.specs.Prelude.{ℕ, zero, suc, ◌+◌, ◌*◌, ◌-◌, ◌/◌, ◌%◌, ◌≡◌, cond, List, [], ◌∷◌, ◌++◌, map, eqb, length, get_or, take, drop, replicate}
use Rattle.wire.specs.Codes.{component_limit, kind_information, offer_skip, offer_accept, offer_reject, reject_swap_pending, success_status}
use Rattle.wire.specs.Version.{version_bytes, version_of}
use Rattle.wire.specs.declared.version.Version.{Version}
use Rattle.crc16.specs.Crc.{crc_of}
use Rattle.bundle_records.specs.Record.{Block}
use Rattle.bundle_layout.specs.Rows as rows
use Rattle.bundle.specs.Contents.{Part, bundle_bytes}
use Rattle.device_component.specs.Record.{with_staged, blank_component}
use Rattle.device.specs.Record.{component, idle_with}
use Rattle.device.specs.Bench.{bench}
use Rattle.device.specs.declared.record.Device.{Device}
use Rattle.device_session.specs.declared.stage.Stage.TheVariants.{Idle}
use Rattle.host_record.specs.declared.record.HostStage.TheVariants.{Ended}
use Rattle.host_record.specs.declared.record.End.TheVariants.{Done}
use Rattle.update.specs.Trace.{Exchange, passes_in}
use Rattle.update.specs.Run.{System, once, last_of}
use Rattle.update.specs.Demand.{Premise}

-- bytes that depend on their place: (37 i + 11) mod 256 at byte i
unfoldable pub placed : (i n : ℕ) → List ℕ
placed i zero = []
placed i (suc n) = (37 * i + 11) % 256 ∷ placed (suc i) n

-- the bytes of an image, and their CRC, high byte first
abbrev pub with_crc : List ℕ → List ℕ
with_crc m = m ++ (crc_of m / 256 ∷ crc_of m % 256 ∷ [])

-- an image of 64 bytes
unfoldable pub image : Version → (id : ℕ) → List ℕ
image v id = with_crc (version_bytes v ++ id ∷ placed 5 57)

-- as records of 52 and 12 bytes
abbrev pub in_two : List ℕ → List Block
in_two m = record { address = record { 0 = 0 }; bytes = take 52 m } ∷ record { address = record { 0 = 52 }; bytes = drop 52 m } ∷ []

-- component 1 at 1.3.0, needing component 2 at 1.2; component 2 at 1.2.0
abbrev pub one : Part
one = record {
  offer = 0 ∷ 0 ∷ 1 ∷ 0 ∷ 0x00 ∷ 0x03 ∷ 0x00 ∷ 0x01 ∷ 2 ∷ 0x02 ∷ 0x00 ∷ 0x01 ∷ 2 ∷ 0 ∷ 0x42 ∷ 0x00 ∷ [];
  blocks = in_two (image (version_of 1 3 0) 1);
}

abbrev pub two : Part
two = record {
  offer = 0 ∷ 0 ∷ 2 ∷ 0 ∷ 0x00 ∷ 0x02 ∷ 0x00 ∷ 0x01 ∷ 0 ∷ 0 ∷ 0 ∷ 0 ∷ 2 ∷ 0 ∷ 0x42 ∷ 0x00 ∷ [];
  blocks = in_two (image (version_of 1 2 0) 2);
}

abbrev pub one_first : List ℕ
one_first = bundle_bytes (one ∷ two ∷ [])

abbrev pub two_first : List ℕ
two_first = bundle_bytes (two ∷ one ∷ [])

-- an exchange of a run by what it is: a code, an offer with its status and reason, or a block with its status
pub data Said : Type 0 where
  code : ℕ → Said
  offered : (id status reason : ℕ) → Said
  block : (status : ℕ) → Said

abbrev pub said : Exchange → Said
said x =
    cond (eqb (length x.packet) 60) (block (get_or x.reply 4 0))
    (cond (eqb (get_or x.packet 2 0) kind_information) (code (get_or x.packet 0 0))
    (offered (get_or x.packet 2 0) (get_or x.reply 12 0) (get_or x.reply 8 0)))

-- the bench device with a staging buffer of zeros, and a host with token 0xA5
abbrev pub comes_to : List ℕ → System
comes_to b = last_of b once 0xA5 (bench Idle) (replicate 128 0) []

-- what both orders leave: both components pending with their new versions, and the two images side by side
abbrev pub updated : Device
updated =
    idle_with (bench Idle) (
    with_staged (component (bench Idle) 0) (version_of 1 3 0)
    ∷ with_staged (component (bench Idle) 1) (version_of 1 2 0)
    ∷ replicate (component_limit - 2) blank_component)

-- a run on the bench: the bundle of 204 bytes is accepted, demand 3's premise holds, the run has these exchanges, and the host is done
pub record Runs (b : List ℕ) (p n : ℕ) (saying : List Said) : Type 0 where
  pub size : length b ≡ 204
  pub accepted : rows.bundle_row b ≡ rows.served
  pub premise : Premise b 0xA5 (bench Idle) (replicate 128 0)
  pub done : (comes_to b).host.stage ≡ Ended Done
  pub says : map said (comes_to b).trace ≡ saying
  pub packets : ((comes_to b).host.packets ≡ n) × (length (comes_to b).trace ≡ n)
  pub passes : ((comes_to b).host.passes ≡ p) × (passes_in (comes_to b).trace ≡ p)
  pub device : (comes_to b).device ≡ updated
  pub staging : (comes_to b).staging ≡ image (version_of 1 3 0) 1 ++ image (version_of 1 2 0) 2

-- component 1 first: 13 packets and 2 passes
abbrev pub OneFirst : Type 0
OneFirst = Runs one_first 2 13 (
    code 0
    ∷ code 1 ∷ offered 1 offer_skip 0 ∷ offered 2 offer_accept 0 ∷ block success_status ∷ block success_status ∷ code 2
    ∷ code 1 ∷ offered 1 offer_accept 0 ∷ block success_status ∷ block success_status ∷ offered 2 offer_reject reject_swap_pending ∷ code 2
    ∷ [])

-- component 2 first: 9 packets and 1 pass
abbrev pub TwoFirst : Type 0
TwoFirst = Runs two_first 1 9 (
    code 0
    ∷ code 1 ∷ offered 2 offer_accept 0 ∷ block success_status ∷ block success_status ∷ offered 1 offer_accept 0 ∷ block success_status ∷ block success_status ∷ code 2
    ∷ [])
