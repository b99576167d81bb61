-- The customer's cases, by the rules in force and without the request that decides them: a debug build of the number that runs as a production build, as an offer,
-- an image and a staged version (document 02, A1); a block that a hub delivers twice (A4); and a floor that stands above the running version (A5), also in lists of calls
-- from set-up on.
use Rattle.std.specs.Prelude.{ℕ, ◌-◌, ◌≡◌, List, [], ◌∷◌, ◌++◌, replicate}
use Rattle.wire.specs.Codes.{component_limit, offer_accept, offer_reject, reject_old_fw, reject_wrong_variant, success_status, error_version, error_no_offer, error_invalid}
use Rattle.wire.specs.Version.{version_of}
use Rattle.wire.specs.declared.version.Version.{Version}
use Rattle.device_component.specs.Record.{floored, plain, with_staged, blank_component}
use Rattle.device_component.specs.Setup as setup
use Rattle.device_component.specs.declared.record.Component.{Component}
use Rattle.device_component.specs.declared.record.Listed.{Listed}
use Rattle.device_session.specs.Effect.{blank_packet, idle, in_stage}
use Rattle.device_session.specs.declared.stage.Stage.TheVariants.{Receiving}
use Rattle.device_session.specs.declared.effect.Session.{Session}
use Rattle.device.specs.declared.record.Device.{Device}
use Rattle.device.specs.declared.answer.Channel.TheVariants.{Offer, Content}
use Rattle.device.specs.Bench.{for_one, no_need, answer}
use Rattle.device.specs.Refusals.{Outcome, served, row_d}
use Rattle.device.specs.Entries.{Reset}
use Rattle.device.specs.Calls.{packet, reset, Event, call, lends, after_events, from_set_up}
use Rattle.device_rules.specs.Rules.{Rules, in_force, without_a5, document01}
use Rattle.device_rules.specs.Entries.{set_up_by, serve_by, serve_staging_by, reset_by}

-- component 1 as the production build 1.2.0, with a region of 8 bytes; here variant 0 stands for a production build and 1 for a debug build, the papers fix none
abbrev pub production : Component
production = plain 1 0x01000200 0 8

-- the debug build of that number
abbrev pub debug : Version
debug = version_of 1 2 1

-- a device with that component alone
abbrev pub device_of : Component → Session → Device
device_of c session = record {
  platform = 0x0042;
  staging_len = 8;
  count = 1;
  components = c ∷ replicate (component_limit - 1) blank_component;
  session = session;
}

-- what an offer of the debug build comes to, with token 0xA5
abbrev pub offering : Rules → Outcome
offering rules =
    serve_by rules (device_of production idle) Offer (replicate 8 0)
    (0x00 ∷ 0x00 ∷ 0x01 ∷ 0xA5 ∷ 0x01 ∷ 0x02 ∷ 0x00 ∷ 0x01 ∷ no_need ++ 0x02 ∷ 0x00 ∷ 0x42 ∷ 0x00 ∷ [])

-- what its whole image in one block comes to, with sequence 0
abbrev pub sending : Rules → Outcome
sending rules =
    serve_by rules (device_of production (in_stage idle for_one blank_packet)) Content (replicate 8 0)
    (0xC0 ∷ 8 ∷ replicate 6 0x00 ++ (0x01 ∷ 0x02 ∷ 0x00 ∷ 0x01 ∷ 0x01 ∷ 0x00 ∷ 0x05 ∷ 0x22 ∷ replicate 44 0x00))

abbrev pub status : ℕ → List (List ℕ)
status s = (replicate 4 0x00 ++ s ∷ replicate 11 0x00) ∷ []

-- what a reset comes to where it is staged
abbrev pub resetting : Rules → Reset
resetting rules = reset_by rules (device_of (with_staged production debug) idle)

-- document 01's rules accept it, stage it and start it; those in force reject it with 0xE2, answer its image with 0x07 and do not stage it, and refuse the record
-- with it by D1
pub record A1Differs : Type 0 where
  pub offered01 : ((offering document01).sent ≡ answer 0 offer_accept) × ((offering document01).device ≡ device_of production (in_stage idle for_one blank_packet))
  pub offered : ((offering in_force).sent ≡ answer reject_wrong_variant offer_reject) × ((offering in_force).device ≡ device_of production idle)
  pub image01 : ((sending document01).sent ≡ status success_status) × ((sending document01).device ≡ device_of (with_staged production debug) idle)
  pub image : ((sending in_force).sent ≡ status error_version) × ((sending in_force).device ≡ device_of production idle)
  pub staged01 : resetting document01 ≡ record { row = served; device = device_of (plain 1 0x01000201 0 8) idle }
  pub staged : resetting in_force ≡ record { row = row_d 1; device = device_of (with_staged production debug) idle }

-- a block of one byte for address 2, with these flags and this sequence, and the 52 bytes of its data, of which the first counts
abbrev pub one_byte : (flags low high : ℕ) → List ℕ → List ℕ
one_byte flags low high bytes = flags ∷ 1 ∷ low ∷ high ∷ 2 ∷ 0 ∷ 0 ∷ 0 ∷ bytes

-- neither first nor last, with sequence 4; the same with another byte that counts, and with another that does not; and a first block with sequence 4
abbrev pub middle : List ℕ
middle = one_byte 0x00 4 0 (0x77 ∷ replicate 51 0x00)

abbrev pub other_byte : List ℕ
other_byte = one_byte 0x00 4 0 (0x78 ∷ replicate 51 0x00)

abbrev pub other_unused : List ℕ
other_unused = one_byte 0x00 4 0 (0x77 ∷ replicate 50 0x00 ++ (0x01 ∷ []))

abbrev pub first_block : List ℕ
first_block = one_byte 0x80 4 0 (0x77 ∷ replicate 51 0x00)

-- a last block with sequence 4
abbrev pub last_block : List ℕ
last_block = one_byte 0x40 4 0 (0x77 ∷ replicate 51 0x00)

-- neither first nor last, with sequence 65,535
abbrev pub before_wrap : List ℕ
before_wrap = one_byte 0x00 0xFF 0xFF (0x77 ∷ replicate 51 0x00)

-- a session that receives, with the next sequence and the packet that it holds
abbrev pub receives : (next : ℕ) → (previous : List ℕ) → Session
receives next previous = in_stage idle (Receiving (record { slot = 0; token = 0xA5; next = next })) previous

-- what a packet comes to there, with a staging buffer of zeros, and the bytes afterwards
abbrev pub delivering : Rules → Session → List ℕ → Outcome
delivering rules session p = serve_by rules (device_of production session) Content (replicate 8 0) p

abbrev pub leaving : Rules → Session → List ℕ → List ℕ
leaving rules session p = serve_staging_by rules (device_of production session) Content (replicate 8 0) p

-- one reply with this sequence and status, the record and the buffer as they were
abbrev pub Only : Rules → Session → List ℕ → (low high status : ℕ) → Type 0
Only rules session p low high status =
    ((delivering rules session p).sent ≡ (low ∷ high ∷ 0 ∷ 0 ∷ status ∷ replicate 11 0x00) ∷ [])
    × ((delivering rules session p).device ≡ device_of production session)
    × (leaving rules session p ≡ replicate 8 0)

-- a block that is delivered once more: document 01's rules answer 0x0B, those in force 0, also where the next sequence is 0 after 65,535. Where a byte differs, be
-- it one that counts or not, and for a first block, both answer 0x0B; a last block, whose session is over, both answer 0x0A. A record whose previous packet is not just before the next one is served by document 01's
-- rules and refused by D1 in force
pub record A4Differs : Type 0 where
  pub copy01 : Only document01 (receives 5 middle) middle 4 0 error_invalid
  pub copy : Only in_force (receives 5 middle) middle 4 0 success_status
  pub wrap01 : Only document01 (receives 0 before_wrap) before_wrap 0xFF 0xFF error_invalid
  pub wrap : Only in_force (receives 0 before_wrap) before_wrap 0xFF 0xFF success_status
  pub byte01 : Only document01 (receives 5 middle) other_byte 4 0 error_invalid
  pub byte : Only in_force (receives 5 middle) other_byte 4 0 error_invalid
  pub unused01 : Only document01 (receives 5 middle) other_unused 4 0 error_invalid
  pub unused : Only in_force (receives 5 middle) other_unused 4 0 error_invalid
  pub first01 : Only document01 (receives 5 first_block) first_block 4 0 error_invalid
  pub first : Only in_force (receives 5 first_block) first_block 4 0 error_invalid
  pub last01 : Only document01 idle last_block 4 0 error_no_offer
  pub last : Only in_force idle last_block 4 0 error_no_offer
  pub previous01 : Only document01 (receives 6 middle) middle 4 0 error_invalid
  pub previous : ((delivering in_force (receives 6 middle) middle).row ≡ row_d 1) × ((reset_by in_force (device_of production (receives 6 middle))).row ≡ row_d 1)

-- component 1 runs 1.2.0, and its floor is 1.5.0
abbrev pub raised : Component
raised = floored 0x01000500 1 0x01000200 0 8

-- an offer for it, at 1.minor.variant, and what that comes to
abbrev pub offer_raised : (minor variant : ℕ) → List ℕ
offer_raised minor variant = 0x00 ∷ 0x00 ∷ 0x01 ∷ 0xA5 ∷ variant ∷ minor ∷ 0x00 ∷ 0x01 ∷ no_need ++ 0x02 ∷ 0x00 ∷ 0x42 ∷ 0x00 ∷ []

abbrev pub offering_raised : Rules → (minor variant : ℕ) → Outcome
offering_raised rules minor variant = serve_by rules (device_of raised idle) Offer (replicate 8 0) (offer_raised minor variant)

-- its whole image in one block, at 1.minor.0 and with this CRC, and what that comes to
abbrev pub image_raised : (minor high low : ℕ) → List ℕ
image_raised minor high low = 0xC0 ∷ 8 ∷ replicate 6 0x00 ++ (0x00 ∷ minor ∷ 0x00 ∷ 0x01 ∷ 0x01 ∷ 0x00 ∷ high ∷ low ∷ replicate 44 0x00)

abbrev pub sending_raised : Rules → (minor high low : ℕ) → Outcome
sending_raised rules minor high low = serve_by rules (device_of raised (in_stage idle for_one blank_packet)) Content (replicate 8 0) (image_raised minor high low)

-- what a reset comes to where 1.minor.0 is staged
abbrev pub resetting_raised : Rules → (minor : ℕ) → Reset
resetting_raised rules minor = reset_by rules (device_of (with_staged raised (version_of 1 minor 0)) idle)

-- a list of two components with these floors, of which the second has a region of `len` bytes behind the first one's 8
abbrev pub listed_with : (floor len other : ℕ) → List Listed
listed_with floor len other =
    record { fixed = (floored floor 1 0x01000200 0 8).fixed; running = version_of 1 2 0 }
    ∷ record { fixed = (floored other 2 0x01000200 8 len).fixed; running = version_of 1 2 0 }
    ∷ replicate (component_limit - 2) (record { fixed = blank_component.fixed; running = blank_component.running })

-- the row that set-up comes to with the first `count` of them, for a staging buffer of 16 bytes
abbrev pub setting_up : Rules → (count floor len other : ℕ) → setup.Row
setting_up rules count floor len other = (set_up_by rules 0x0042 (listed_with floor len other) count 16).row

-- just below the floor, at 1.4.0: without A5 it is accepted, staged and started; in force it is rejected with 0, or with 0xE2 where its variant is another, its image is
-- answered with 0x07 and not staged, and the record with it is refused by D1. At the floor, at 1.5.0, and above it, at 1.6.0, it is accepted and staged, and what is
-- staged is started by a reset, and the floor stays. A floor with a variant, 1 or 0x80, in the first slot or the second, is refused by S5, after S4, unless its slot is not
-- in use, and makes D1; a floor above the running version does not
pub record A5Differs : Type 0 where
  pub offered_before : ((offering_raised without_a5 4 0).sent ≡ answer 0 offer_accept) × ((offering_raised without_a5 4 0).device ≡ device_of raised (in_stage idle for_one blank_packet))
  pub offered : ((offering_raised in_force 4 0).sent ≡ answer reject_old_fw offer_reject) × ((offering_raised in_force 4 0).device ≡ device_of raised idle)
  pub variant : ((offering_raised in_force 4 1).sent ≡ answer reject_wrong_variant offer_reject) × ((offering_raised in_force 4 1).device ≡ device_of raised idle)
  pub offered_floor : ((offering_raised in_force 5 0).sent ≡ answer 0 offer_accept) × ((offering_raised in_force 5 0).device ≡ device_of raised (in_stage idle for_one blank_packet))
  pub offered_above : ((offering_raised in_force 6 0).sent ≡ answer 0 offer_accept) × ((offering_raised in_force 6 0).device ≡ device_of raised (in_stage idle for_one blank_packet))
  pub image_before : ((sending_raised without_a5 4 0x8D 0x07).sent ≡ status success_status) × ((sending_raised without_a5 4 0x8D 0x07).device ≡ device_of (with_staged raised (version_of 1 4 0)) idle)
  pub image : ((sending_raised in_force 4 0x8D 0x07).sent ≡ status error_version) × ((sending_raised in_force 4 0x8D 0x07).device ≡ device_of raised idle)
  pub image_floor : ((sending_raised in_force 5 0x27 0x56).sent ≡ status success_status) × ((sending_raised in_force 5 0x27 0x56).device ≡ device_of (with_staged raised (version_of 1 5 0)) idle)
  pub image_above : ((sending_raised in_force 6 0xC9 0x84).sent ≡ status success_status) × ((sending_raised in_force 6 0xC9 0x84).device ≡ device_of (with_staged raised (version_of 1 6 0)) idle)
  pub staged_before : resetting_raised without_a5 4 ≡ record { row = served; device = device_of (floored 0x01000500 1 0x01000400 0 8) idle }
  pub staged : resetting_raised in_force 4 ≡ record { row = row_d 1; device = device_of (with_staged raised (version_of 1 4 0)) idle }
  pub staged_floor : resetting_raised in_force 5 ≡ record { row = served; device = device_of (floored 0x01000500 1 0x01000500 0 8) idle }
  pub staged_above : resetting_raised in_force 6 ≡ record { row = served; device = device_of (floored 0x01000500 1 0x01000600 0 8) idle }
  pub set_up_before : setting_up without_a5 2 0 8 0x01000501 ≡ setup.served
  pub set_up : setting_up in_force 2 0 8 0x01000501 ≡ setup.row_s 5
  pub set_up_first : setting_up in_force 2 0x01000580 8 0 ≡ setup.row_s 5
  pub set_up_order : setting_up in_force 2 0x01000501 7 0 ≡ setup.row_s 4
  pub set_up_unused : setting_up in_force 1 0 8 0x01000501 ≡ setup.served
  pub set_up_floor : setting_up in_force 2 0x01000500 8 0 ≡ setup.served
  pub judged : (reset_by in_force (device_of (floored 0x01000580 1 0x01000200 0 8) idle)).row ≡ row_d 1

-- the device that a list of calls leaves, from set-up with that component alone on
abbrev pub leaves_raised : List Event → Device
leaves_raised events =
    (after_events (
    from_set_up 0x0042
    (record { fixed = raised.fixed; running = raised.running } ∷ replicate (component_limit - 1) (record { fixed = blank_component.fixed; running = blank_component.running }))
    1 (replicate 8 0))
    events
    ).device

-- an offer at 1.minor.0, its image in one block, and a reset; with a staging buffer of so many bytes lent from the image on
abbrev pub updating : (minor high low n : ℕ) → List Event
updating minor high low n =
    call (packet Offer (offer_raised minor 0)) ∷ lends (replicate n 0) ∷ call (packet Content (image_raised minor high low)) ∷ call reset ∷ []

-- the same component at 1.minor.0
abbrev pub runs : (minor : ℕ) → Device
runs minor = device_of (floored 0x01000500 1 (version_of 1 minor 0).0 0 8) idle

-- the module that lacks the fix: just below the floor nothing is taken, at the floor and above it the fix is, and what runs 1.6 does not go back to 1.5; with a buffer of
-- another length the image is refused, and the reset leaves what ran
pub record ModuleStory : Type 0 where
  pub before : leaves_raised [] ≡ runs 2
  pub below : leaves_raised (updating 4 0x8D 0x07 8) ≡ runs 2
  pub fix : leaves_raised (updating 5 0x27 0x56 8) ≡ runs 5
  pub later : leaves_raised (updating 6 0xC9 0x84 8) ≡ runs 6
  pub back : (after_events (record { device = runs 6; staging = replicate 8 0 }) (updating 5 0x27 0x56 8)).device ≡ runs 6
  pub lent : leaves_raised (updating 5 0x27 0x56 7) ≡ runs 2
