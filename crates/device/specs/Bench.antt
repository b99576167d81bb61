-- The bench examples E1 to E10 (document 01, "Bench examples"), rows of one table under one claim: what is sent, and the stage and the staging
-- buffer afterwards.
use Rattle.std.specs.Prelude.{ℕ, ◌-◌, ◌≡◌, List, [], ◌∷◌, ◌++◌, replicate}
use Rattle.wire.specs.Codes.{component_limit}
use Rattle.device_component.specs.Record.{plain, blank_component}
use Rattle.device.specs.declared.record.Device.{Device}
use Rattle.device_session.specs.Effect.{blank_packet, idle, in_stage}
use Rattle.device_session.specs.declared.stage.Stage.{Stage}
use Rattle.device_session.specs.declared.stage.Stage.TheVariants.{Idle, Offered, Receiving}
use Rattle.device.specs.declared.answer.Channel.{Channel}
use Rattle.device.specs.declared.answer.Channel.TheVariants.{Offer, Content}
use Rattle.device.specs.Entries.{version_entry, serve_entry, serve_staging}

-- platform 0x0042; id 1 at 0x01000200, region 0-63; id 2 at 0x01000100, region 64-127
abbrev pub bench : Stage → Device
bench stage = record {
  platform = 0x0042;
  staging_len = 128;
  count = 2;
  components =
      plain 1 0x01000200 0 64 ∷ plain 2 0x01000100 64 64 ∷ replicate (component_limit - 2) blank_component;
  session = in_stage idle stage blank_packet;
}

-- offered for component 1, with token 0xA5
abbrev pub for_one : Stage
for_one = Offered (record { slot = 0; token = 0xA5 })

-- what is asked of an entry
pub data Asked : Type 0 where
  versions : Asked
  packet : Channel → List ℕ → Asked

abbrev pub sent : Device → Asked → List (List ℕ)
sent d versions = (version_entry d).packet ∷ []
sent d (packet channel p) = (serve_entry d channel (replicate 128 0) p).sent

abbrev pub leaves : Device → Asked → Stage
leaves d versions = d.session.stage
leaves d (packet channel p) = (serve_entry d channel (replicate 128 0) p).device.session.stage

-- the staging buffer, zero before
abbrev pub untouched : List ℕ
untouched = replicate 128 0

abbrev pub bytes_left : Device → Asked → List ℕ
bytes_left d versions = untouched
bytes_left d (packet channel p) = serve_staging d channel untouched p

-- a row: the stage before, what is asked, what is sent, the stage and the staging buffer after
pub record Example : Type 0 where
  pub before : Stage
  pub asked : Asked
  pub replies : List (List ℕ)
  pub after : Stage
  pub bytes : List ℕ

abbrev pub Holds : List Example → Type 0
Holds [] = Unit {0}
Holds (x ∷ xs) =
    (sent (bench x.before) x.asked ≡ x.replies)
    × (leaves (bench x.before) x.asked ≡ x.after)
    × (bytes_left (bench x.before) x.asked ≡ x.bytes)
    × Holds xs

-- the offer of E2, with its four version bytes, four need bytes and byte 12
abbrev pub offer : (v n : List ℕ) → ℕ → Asked
offer v n protocol = packet Offer (0x00 ∷ 0x00 ∷ 0x01 ∷ 0xA5 ∷ v ++ n ++ protocol ∷ 0x00 ∷ 0x42 ∷ 0x00 ∷ [])

abbrev pub new : List ℕ
new = 0x00 ∷ 0x03 ∷ 0x00 ∷ 0x01 ∷ []

abbrev pub old : List ℕ
old = 0x00 ∷ 0x02 ∷ 0x00 ∷ 0x01 ∷ []

abbrev pub no_need : List ℕ
no_need = replicate 4 0x00

-- the reply to an offer with token 0xA5
abbrev pub answer : (reason status : ℕ) → List (List ℕ)
answer reason status = (0x00 ∷ 0x00 ∷ 0x00 ∷ 0xA5 ∷ replicate 4 0x00 ++ reason ∷ replicate 3 0x00 ++ status ∷ replicate 3 0x00) ∷ []

-- a block with the first flag and sequence 0x1234; its data are the numbers from 1 on
abbrev pub data52 : List ℕ
data52 =
    1 ∷ 2 ∷ 3 ∷ 4 ∷ 5 ∷ 6 ∷ 7 ∷ 8 ∷ 9 ∷ 10 ∷ 11 ∷ 12 ∷ 13 ∷ 14 ∷ 15 ∷ 16 ∷ 17 ∷ 18 ∷ 19 ∷ 20 ∷ 21 ∷ 22 ∷ 23 ∷ 24 ∷ 25 ∷ 26
    ∷ 27 ∷ 28 ∷ 29 ∷ 30 ∷ 31 ∷ 32 ∷ 33 ∷ 34 ∷ 35 ∷ 36 ∷ 37 ∷ 38 ∷ 39 ∷ 40 ∷ 41 ∷ 42 ∷ 43 ∷ 44 ∷ 45 ∷ 46 ∷ 47 ∷ 48 ∷ 49 ∷ 50 ∷ 51 ∷ 52 ∷ []

abbrev pub block : (length : ℕ) → (address : List ℕ) → Asked
block length address = packet Content (0x80 ∷ length ∷ 0x34 ∷ 0x12 ∷ address ++ data52)

-- its reply
abbrev pub status : ℕ → List (List ℕ)
status s = (0x34 ∷ 0x12 ∷ 0x00 ∷ 0x00 ∷ s ∷ replicate 11 0x00) ∷ []

abbrev pub examples : List Example
examples =
    -- E1: the version reply
    record {
      before = Idle;
      asked = versions;
      replies = (
          0x02 ∷ 0x00 ∷ 0x00 ∷ 0x02 ∷ 0x00 ∷ 0x02 ∷ 0x00 ∷ 0x01 ∷ 0x00 ∷ 0x01 ∷ 0x42 ∷ 0x00
          ∷ 0x00 ∷ 0x01 ∷ 0x00 ∷ 0x01 ∷ 0x00 ∷ 0x02 ∷ 0x42 ∷ 0x00 ∷ replicate 40 0x00
          ) ∷ [];
      after = Idle;
      bytes = untouched;
    }
    -- E2: accepted
    ∷ record { before = Idle; asked = offer new no_need 0x02; replies = answer 0 1; after = for_one; bytes = untouched }
    -- E3: an old version, REJECT 0
    ∷ record { before = Idle; asked = offer old no_need 0x02; replies = answer 0 2; after = Idle; bytes = untouched }
    -- E4: another protocol, REJECT 0xE0, also when the version is old
    ∷ record { before = Idle; asked = offer new no_need 0x01; replies = answer 0xE0 2; after = Idle; bytes = untouched }
    ∷ record { before = Idle; asked = offer old no_need 0x01; replies = answer 0xE0 2; after = Idle; bytes = untouched }
    -- E5: a need that is not met, SKIP
    ∷ record { before = Idle; asked = offer new (0x02 ∷ 0x02 ∷ 0x00 ∷ 0x01 ∷ []) 0x02; replies = answer 0 0; after = Idle; bytes = untouched }
    -- E6: a need that is met, ACCEPT
    ∷ record { before = Idle; asked = offer new (0x02 ∷ 0x01 ∷ 0x00 ∷ 0x01 ∷ []) 0x02; replies = answer 0 1; after = for_one; bytes = untouched }
    -- E7: content when idle
    ∷ record { before = Idle; asked = block 1 (0 ∷ 0 ∷ 0 ∷ 0 ∷ []); replies = status 0x0A; after = Idle; bytes = untouched }
    -- E8: 52 bytes at address 12 are taken, and at 13 not
    ∷ record {
      before = for_one;
      asked = block 52 (12 ∷ 0 ∷ 0 ∷ 0 ∷ []);
      replies = status 0;
      after = Receiving (record { slot = 0; token = 0xA5; next = 0x1235 });
      bytes = replicate 12 0xFF ++ data52 ++ replicate 64 0;
    }
    ∷ record { before = for_one; asked = block 52 (13 ∷ 0 ∷ 0 ∷ 0 ∷ []); replies = status 0x09; after = for_one; bytes = untouched }
    -- E9: one byte at the last address
    ∷ record { before = for_one; asked = block 1 (0xFF ∷ 0xFF ∷ 0xFF ∷ 0xFF ∷ []); replies = status 0x09; after = for_one; bytes = untouched }
    -- E10: 53 bytes
    ∷ record { before = for_one; asked = block 53 (0 ∷ 0 ∷ 0 ∷ 0 ∷ []); replies = status 0x0B; after = for_one; bytes = untouched }
    ∷ []

-- the claim
abbrev pub BenchHolds : Type 0
BenchHolds = Holds examples
