-- The layouts of include/cfu.h in literal bytes. Every byte of every number and of the previous packet differs from every other, and the flags of two records
-- differ in each pair of places, so that no other layout that reads back can take their place.
use Rattle.std.specs.Prelude.{ℕ, ◌*◌, ◌-◌, ◌≡◌, true, false, List, [], ◌∷◌, ◌++◌, map, length, replicate, Some, None}
use Rattle.wire.specs.Codes.{component_limit}
use Rattle.wire_offer.specs.Offer.{blank_offer}
use Rattle.bundle_layout.specs.Layout.{offer_limit, blank_entry}
use Rattle.bundle_layout.specs.Rows.{served}
use Rattle.bundle_layout.specs.declared.Entry.{Entry}
use Rattle.bundle.specs.Contents.{Contents}
use Rattle.device_component.specs.Record.{blank_component}
use Rattle.device_component.specs.declared.record.Component.{Component}
use Rattle.device_component.specs.declared.record.Fixed.{Fixed}
use Rattle.device_session.specs.Effect.{blank_packet, no_replies}
use Rattle.device_session.specs.declared.effect.Replies.{Replies}
use Rattle.device_session.specs.declared.effect.Session.{Session}
use Rattle.device_session.specs.declared.stage.Stage.TheVariants.{Offered, Receiving}
use Rattle.device.specs.Refusals.{sent_with}
use Rattle.device.specs.declared.record.Device.{Device}
use Rattle.device_component_bytes.specs.Layout.{component_size, component_bytes, listed_in}
use Rattle.device_session_bytes.specs.Layout.{session_bytes}
use Rattle.device_bytes.specs.Layout.{device_bytes}
use Rattle.host_record.specs.Record.{sent_at, passed_at, fresh_host}
use Rattle.host_record.specs.declared.record.Host.{Host}
use Rattle.host_record.specs.declared.record.Place.{Place}
use Rattle.host_record.specs.declared.record.Turn.{Turn}
use Rattle.host_record.specs.declared.record.HostStage.{HostStage}
use Rattle.host_record.specs.declared.record.HostStage.TheVariants.{Fresh, Opening, Listing, Offering, Waiting, Sending, Closing, Ended}
use Rattle.host_record.specs.declared.record.End.TheVariants as end
use Rattle.host_bytes.specs.Layout.{host_size, body_part_size, stage_bytes, host_bytes, contents_bytes}
use Rattle.c_device_packet.specs.Packet.{replies_size, replies_left}

-- what set-up fixes of a component
abbrev pub fixed : Fixed
fixed = record { id = 0x16; region = record { base = record { 0 = 0x09080706 }; len = 0x0D0C0B0A }; floor = record { 0 = 0x11100F0E } }

-- a component that is pending
abbrev pub pending : Component
pending = record { fixed = fixed; running = record { 0 = 0x05040302 }; staged = Some (record { 0 = 0x15141312 }) }

-- the 60 bytes of a packet that a session holds
abbrev pub packet : List ℕ
packet =
    9 ∷ 10 ∷ 11 ∷ 12 ∷ 13 ∷ 14 ∷ 15 ∷ 16 ∷ 17 ∷ 18 ∷ 19 ∷ 20 ∷ 21 ∷ 22 ∷ 23 ∷ 24 ∷ 25 ∷ 26 ∷ 27 ∷ 28
    ∷ 29 ∷ 30 ∷ 31 ∷ 32 ∷ 33 ∷ 34 ∷ 35 ∷ 36 ∷ 37 ∷ 38 ∷ 39 ∷ 40 ∷ 41 ∷ 42 ∷ 43 ∷ 44 ∷ 45 ∷ 46 ∷ 47 ∷ 48
    ∷ 49 ∷ 50 ∷ 51 ∷ 52 ∷ 53 ∷ 54 ∷ 55 ∷ 56 ∷ 57 ∷ 58 ∷ 59 ∷ 60 ∷ 61 ∷ 62 ∷ 63 ∷ 64 ∷ 65 ∷ 66 ∷ 67 ∷ 68
    ∷ []

-- two sessions: offered, owing nothing and holding no packet; receiving, owing a READY and holding one
abbrev pub offered : Session
offered = record { stage = Offered (record { slot = 3; token = 4 }); owed = None; previous = blank_packet }

abbrev pub receiving : Session
receiving = record { stage = Receiving (record { slot = 3; token = 4; next = 0x0605 }); owed = Some 8; previous = packet }

-- a device that lists one such component and receives
abbrev pub device : Device
device = record {
  platform = 0x0201;
  staging_len = 0x06050403;
  count = 7;
  components = pending ∷ replicate (component_limit - 1) blank_component;
  session = receiving;
}

-- every stage and every end of a host
abbrev pub turn : Turn
turn = record { entry = 0x04030201; busy = 0x08070605 }

abbrev pub place : Place
place = record { entry = 0x04030201; block = 0x08070605 }

abbrev pub stages : List HostStage
stages =
    Fresh
    ∷ Opening
    ∷ Listing
    ∷ Offering turn
    ∷ Waiting turn
    ∷ Sending (sent_at place)
    ∷ Sending (passed_at place)
    ∷ Closing
    ∷ Ended end.Done
    ∷ Ended (end.Status 9)
    ∷ Ended end.Foreign
    ∷ Ended end.Unexpected
    ∷ Ended end.Busy
    ∷ []

abbrev pub host : Host
host = record {
  token = 1;
  stage = Sending (passed_at (record { entry = 0x05040302; block = 0x09080706 }));
  mask = 0x0D0C0B0A;
  packets = 0x11100F0E;
  passes = 0x15141312;
  skipped = true;
  landed = false;
}

-- the same with the flags of the pass exchanged
abbrev pub other_flags : Host
other_flags = record {
  token = host.token;
  stage = host.stage;
  mask = host.mask;
  packets = host.packets;
  passes = host.passes;
  skipped = false;
  landed = true;
}

-- the contents of a bundle of one body, and the block that the cursor is kept for
abbrev pub body : Entry
body = record { offer = blank_offer; offset = 0x04030201; length = 0x08070605; records = 0x0C0B0A09 }

abbrev pub contents : Contents
contents = record { row = served; place = 0; count = 1; table = body ∷ replicate (offer_limit - 1) blank_entry }

abbrev pub hand : Place
hand = record { entry = 0x100F0E0D; block = 0x14131211 }

-- a reply that is due, and with it the READY that was owed to token 0x5A
abbrev pub reply : List ℕ
reply = 1 ∷ 2 ∷ 3 ∷ 4 ∷ 5 ∷ 6 ∷ 7 ∷ 8 ∷ 9 ∷ 10 ∷ 11 ∷ 12 ∷ 13 ∷ 14 ∷ 15 ∷ 16 ∷ []

abbrev pub due_alone : Replies
due_alone = record { due = true; reply = reply; ready = None }

abbrev pub due_then_ready : Replies
due_then_ready = record { due = true; reply = reply; ready = Some 0x5A }

pub record LayoutsHold : Type 0 where
  -- a component of the device's record, and one of set-up's list
  pub component : component_bytes pending ≡ 0x16 ∷ 2 ∷ 3 ∷ 4 ∷ 5 ∷ 6 ∷ 7 ∷ 8 ∷ 9 ∷ 10 ∷ 11 ∷ 12 ∷ 13 ∷ 14 ∷ 15 ∷ 16 ∷ 17 ∷ 1 ∷ 18 ∷ 19 ∷ 20 ∷ 21 ∷ []
  pub listed : listed_in (0x16 ∷ 2 ∷ 3 ∷ 4 ∷ 5 ∷ 6 ∷ 7 ∷ 8 ∷ 9 ∷ 10 ∷ 11 ∷ 12 ∷ 13 ∷ 14 ∷ 15 ∷ 16 ∷ 17 ∷ []) ≡ record { fixed = fixed; running = record { 0 = 0x05040302 } }
  -- the session, and the device's record around both
  pub offering : session_bytes offered ≡ 1 ∷ 3 ∷ 4 ∷ 0 ∷ 0 ∷ 0 ∷ 0 ∷ replicate 60 0
  pub receives : session_bytes receiving ≡ 2 ∷ 3 ∷ 4 ∷ 5 ∷ 6 ∷ 1 ∷ 8 ∷ packet
  pub records : device_bytes device
      ≡ 1 ∷ 2 ∷ 3 ∷ 4 ∷ 5 ∷ 6 ∷ 7 ∷ session_bytes receiving ++ (component_bytes pending ++ replicate ((component_limit - 1) * component_size) 0)
  -- the stages and ends of a host, its record, and the fresh one with token 0
  pub awaits : map stage_bytes stages
      ≡ (0 ∷ 0 ∷ 0 ∷ 0 ∷ 0 ∷ 0 ∷ 0 ∷ 0 ∷ 0 ∷ [])
      ∷ (1 ∷ 0 ∷ 0 ∷ 0 ∷ 0 ∷ 0 ∷ 0 ∷ 0 ∷ 0 ∷ [])
      ∷ (2 ∷ 0 ∷ 0 ∷ 0 ∷ 0 ∷ 0 ∷ 0 ∷ 0 ∷ 0 ∷ [])
      ∷ (3 ∷ 1 ∷ 2 ∷ 3 ∷ 4 ∷ 5 ∷ 6 ∷ 7 ∷ 8 ∷ [])
      ∷ (4 ∷ 1 ∷ 2 ∷ 3 ∷ 4 ∷ 5 ∷ 6 ∷ 7 ∷ 8 ∷ [])
      ∷ (5 ∷ 1 ∷ 2 ∷ 3 ∷ 4 ∷ 5 ∷ 6 ∷ 7 ∷ 8 ∷ [])
      ∷ (5 ∷ 1 ∷ 2 ∷ 3 ∷ 4 ∷ 5 ∷ 6 ∷ 7 ∷ 8 ∷ [])
      ∷ (6 ∷ 0 ∷ 0 ∷ 0 ∷ 0 ∷ 0 ∷ 0 ∷ 0 ∷ 0 ∷ [])
      ∷ (7 ∷ 0 ∷ 0 ∷ 0 ∷ 0 ∷ 0 ∷ 0 ∷ 0 ∷ 0 ∷ [])
      ∷ (7 ∷ 1 ∷ 0 ∷ 0 ∷ 0 ∷ 9 ∷ 0 ∷ 0 ∷ 0 ∷ [])
      ∷ (7 ∷ 2 ∷ 0 ∷ 0 ∷ 0 ∷ 0 ∷ 0 ∷ 0 ∷ 0 ∷ [])
      ∷ (7 ∷ 3 ∷ 0 ∷ 0 ∷ 0 ∷ 0 ∷ 0 ∷ 0 ∷ 0 ∷ [])
      ∷ (7 ∷ 4 ∷ 0 ∷ 0 ∷ 0 ∷ 0 ∷ 0 ∷ 0 ∷ 0 ∷ [])
      ∷ []
  pub hosts : host_bytes host
      ≡ 1 ∷ 5 ∷ 2 ∷ 3 ∷ 4 ∷ 5 ∷ 6 ∷ 7 ∷ 8 ∷ 9 ∷ 10 ∷ 11 ∷ 12 ∷ 13 ∷ 14 ∷ 15 ∷ 16 ∷ 17 ∷ 18 ∷ 19 ∷ 20 ∷ 21 ∷ 1 ∷ 0 ∷ 1 ∷ []
  pub flags : host_bytes other_flags
      ≡ 1 ∷ 5 ∷ 2 ∷ 3 ∷ 4 ∷ 5 ∷ 6 ∷ 7 ∷ 8 ∷ 9 ∷ 10 ∷ 11 ∷ 12 ∷ 13 ∷ 14 ∷ 15 ∷ 16 ∷ 17 ∷ 18 ∷ 19 ∷ 20 ∷ 21 ∷ 0 ∷ 1 ∷ 1 ∷ []
  pub fresh : host_bytes (fresh_host 0) ≡ replicate host_size 0
  -- the contents of a checked bundle: row, entry, count, bodies, the block in hand, the cursor
  pub keeps : contents_bytes contents hand 0x1C1B1A1918171615
      ≡ 0 ∷ 0 ∷ 1 ∷ 1 ∷ 2 ∷ 3 ∷ 4 ∷ 5 ∷ 6 ∷ 7 ∷ 8 ∷ 9 ∷ 10 ∷ 11 ∷ 12
      ∷ replicate ((offer_limit - 1) * body_part_size) 0
      ++ 13 ∷ 14 ∷ 15 ∷ 16 ∷ 17 ∷ 18 ∷ 19 ∷ 20 ∷ 21 ∷ 22 ∷ 23 ∷ 24 ∷ 25 ∷ 26 ∷ 27 ∷ 28 ∷ []
  -- the replies of the device: none, one, or one and the READY behind it
  pub silent : replies_left no_replies ≡ replicate replies_size 0
  pub single : replies_left due_alone ≡ reply ++ replicate 16 0
  pub double : replies_left due_then_ready ≡ reply ++ (0 ∷ 0 ∷ 0 ∷ 0x5A ∷ 0 ∷ 0 ∷ 0 ∷ 0 ∷ 0 ∷ 0 ∷ 0 ∷ 0 ∷ 4 ∷ 0 ∷ 0 ∷ 0 ∷ [])
  pub counts : map (λ (r : Replies). length (sent_with r)) (no_replies ∷ due_alone ∷ due_then_ready ∷ []) ≡ 0 ∷ 1 ∷ 2 ∷ []
