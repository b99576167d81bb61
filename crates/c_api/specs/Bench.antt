-- The bench device of document 01, and a small bundle, as C sees them: what each call but those that build and read packets answers and leaves. The layouts in
-- literal bytes are Layouts', the packets Packets'.
use Rattle.std.specs.Prelude.{ℕ, ◌*◌, ◌-◌, ◌≡◌, true, false, set, take, replicate, Some}
use mathlib.Core.List.{List, [], ◌∷◌, ◌++◌, flatten}
use Rattle.wire.specs.Codes.{component_limit, short_size, long_size}
use Rattle.wire_offer.specs.Offer.{blank_offer}
use Rattle.bundle_layout.specs.Rows.{served, row_b}
use Rattle.bundle_layout.specs.Layout.{offer_limit, blank_entry}
use Rattle.bundle_layout.specs.declared.Entry.{Entry}
use Rattle.bundle.specs.Contents.{Contents}
use Rattle.device_session.specs.Effect.{blank_packet, idle, in_stage, owing}
use Rattle.device_session.specs.declared.effect.Session.{Session}
use Rattle.device_session.specs.declared.stage.Stage.TheVariants.{Idle, Receiving}
use Rattle.device.specs.Record.{with_session}
use Rattle.device.specs.Bench as bench
use Rattle.device.specs.declared.record.Device.{Device}
use Rattle.device_component_bytes.specs.Layout.{component_size}
use Rattle.device_session_bytes.specs.Layout.{session_bytes}
use Rattle.device_bytes.specs.Layout.{device_size, list_size, device_bytes}
use Rattle.host_record.specs.Record.{sent_at}
use Rattle.host_record.specs.declared.record.Host.{Host}
use Rattle.host_record.specs.declared.record.HostStage.TheVariants.{Sending, Ended}
use Rattle.host_record.specs.declared.record.End.TheVariants as end
use Rattle.host_bytes.specs.Layout.{host_size, body_part_size, contents_size, host_bytes, no_place, contents_bytes}
use Rattle.c_types.specs.declared.types.CVersion.{CVersion}
use Rattle.c_types.specs.declared.types.COffer.{COffer}
use Rattle.c_types.specs.declared.types.CListed.{CListed}
use Rattle.c_types.specs.Numbers.{served_number, filled_to}
use Rattle.c_types.specs.Lent.{leaves}
use Rattle.c_device.specs.Device.{set_up_call, versions_call, reset_call}
use Rattle.c_device_packet.specs.Packet.{replies_size, offer_call, content_call, content_call_staging}
use Rattle.bundle_writer.specs.Bench.{eight, offer_one, given, record8}
use Rattle.c_host.specs.Check.{check_call}
use Rattle.c_writer.specs.Write.{write_call}
use Rattle.c_host.specs.Host.{fresh_call, report_call}
use Rattle.c_host_step.specs.Step.{StepLeft, refused_step, step_call, step_checked_call, step_checked_contents}
use Rattle.c_access.specs.Access.{no_version, no_component, no_entry, list_call, component_call, entry_call}
use Rattle.c_build.specs.Build.{build_offer_call}
use Rattle.c_read.specs.Read.{read_offer_call}
use Rattle.c_api.specs.Layouts.{LayoutsHold}
use Rattle.c_api.specs.Packets.{PacketsHold}

-- what set-up is told of the two components: id, running version, region base, region length, floor; five slots are not in use
abbrev pub one : List ℕ
one = 1 ∷ 0x00 ∷ 0x02 ∷ 0x00 ∷ 0x01 ∷ 0 ∷ 0 ∷ 0 ∷ 0 ∷ 64 ∷ 0 ∷ 0 ∷ 0 ∷ 0 ∷ 0 ∷ 0 ∷ 0 ∷ []

abbrev pub two : List ℕ
two = 2 ∷ 0x00 ∷ 0x01 ∷ 0x00 ∷ 0x01 ∷ 64 ∷ 0 ∷ 0 ∷ 0 ∷ 64 ∷ 0 ∷ 0 ∷ 0 ∷ 0 ∷ 0 ∷ 0 ∷ 0 ∷ []

abbrev pub list : List ℕ
list = filled_to list_size (one ++ two)

-- a version 1.n.0, and the two components by their numbers
abbrev pub minor_one : (n : ℕ) → CVersion
minor_one n = record { major = 1; minor = n; variant = 0 }

abbrev pub listed_one : CListed
listed_one = record { id = 1; running = minor_one 2; base = 0; length = 64; floor = no_version }

abbrev pub listed_two : CListed
listed_two = record { id = 2; running = minor_one 1; base = 64; length = 64; floor = no_version }

-- the first with floor 1.5.0, by its numbers; with floor 1.5.variant, as bytes of the list; and the record that set-up makes of the list with it alone, with floor
-- 1.5.0 (document 02, A5)
abbrev pub listed_raised : CListed
listed_raised = record { id = 1; running = minor_one 2; base = 0; length = 64; floor = minor_one 5 }

abbrev pub raised : (variant : ℕ) → List ℕ
raised variant = 1 ∷ 0x00 ∷ 0x02 ∷ 0x00 ∷ 0x01 ∷ 0 ∷ 0 ∷ 0 ∷ 0 ∷ 64 ∷ 0 ∷ 0 ∷ 0 ∷ variant ∷ 0x05 ∷ 0x00 ∷ 0x01 ∷ []

abbrev pub raised_record : List ℕ
raised_record = 0x42 ∷ 0x00 ∷ 128 ∷ 0 ∷ 0 ∷ 0 ∷ 1 ∷ replicate 67 0 ++ filled_to (component_limit * component_size) (raised 0)

-- the components of a record, with nothing staged
abbrev pub components : List ℕ
components = filled_to (component_limit * component_size) (one ++ (replicate 5 0 ++ two))

-- .. and with 1.3.0 staged for the first
abbrev pub staged_components : List ℕ
staged_components = filled_to (component_limit * component_size) (one ++ (1 ∷ 0x00 ∷ 0x03 ∷ 0x00 ∷ 0x01 ∷ two))

-- what stands before the session: platform, staging length, count
abbrev pub head : List ℕ
head = 0x42 ∷ 0x00 ∷ 128 ∷ 0 ∷ 0 ∷ 0 ∷ 2 ∷ []

-- the report that an example of the bench asks about
abbrev pub report_of : bench.Asked → List ℕ
report_of bench.versions = []
report_of (bench.packet channel p) = p

-- a first block of one byte with sequence 0x1234
abbrev pub block : List ℕ
block = report_of (bench.block 1 (replicate 4 0))

-- the bench device with a session: offered on slot 0 with token 0xA5, owing nothing, or a READY to token 0x5A; receiving, with sequence 0x1235 next, owing it
-- and holding the packet of the block before
abbrev pub bench_in : Session → Device
bench_in session = with_session (bench.bench Idle) (bench.bench Idle).components session

abbrev pub offered : Session
offered = in_stage idle bench.for_one blank_packet

abbrev pub offered_owing : Session
offered_owing = owing offered (Some 0x5A)

abbrev pub receiving_owing : Session
receiving_owing = owing (in_stage idle (Receiving (record { slot = 0; token = 0xA5; next = 0x1235 })) block) (Some 0x5A)

-- idle, with other bytes where an idle session and a component with nothing staged have none; and what E2's offer leaves of it: the session is written anew
abbrev pub strewn_components : List ℕ
strewn_components = set components (component_size - 1) 9

abbrev pub strewn : List ℕ
strewn = head ++ (0 ∷ 9 ∷ 9 ∷ 9 ∷ 9 ∷ 0 ∷ 9 ∷ replicate long_size 9 ++ strewn_components)

abbrev pub strewn_offered : List ℕ
strewn_offered = head ++ (session_bytes offered ++ strewn_components)

-- the version reply of E1
abbrev pub first_replies : List bench.Example → List (List ℕ)
first_replies [] = []
first_replies (x ∷ xs) = x.replies

-- E2's offer and its reply; the reply to the block
abbrev pub offer : List ℕ
offer = report_of (bench.offer bench.new bench.no_need 0x02)

abbrev pub accepted : List ℕ
accepted = filled_to replies_size (flatten (bench.answer 0 1))

abbrev pub taken : List ℕ
taken = filled_to replies_size (flatten (bench.status 0))

-- a block of one byte that is neither first nor last, with sequence 4 (document 02, A4); the session that has just taken it; and one that holds it although
-- sequence 6 is next
abbrev pub middle : List ℕ
middle = 0x00 ∷ 1 ∷ 4 ∷ 0 ∷ 2 ∷ 0 ∷ 0 ∷ 0 ∷ 0x77 ∷ replicate 51 0

abbrev pub after_middle : Session
after_middle = in_stage idle (Receiving (record { slot = 0; token = 0xA5; next = 5 })) middle

abbrev pub strayed : Session
strayed = in_stage idle (Receiving (record { slot = 0; token = 0xA5; next = 6 })) middle

-- an offer with every field another value
abbrev pub fields : COffer
fields = record {
  segment = 3;
  force_immediate_reset = 1;
  force_ignore_version = 0;
  id = 9;
  token = 0xA5;
  version = record { major = 1; minor = 0x0203; variant = 4 };
  need = 5;
  least = 0x060708;
  protocol = 2;
  platform = 0x0A0B;
}

abbrev pub fields_packet : List ℕ
fields_packet = 3 ∷ 0x40 ∷ 9 ∷ 0xA5 ∷ 4 ∷ 0x03 ∷ 0x02 ∷ 1 ∷ 5 ∷ 0x08 ∷ 0x07 ∷ 0x06 ∷ 2 ∷ 0 ∷ 0x0B ∷ 0x0A ∷ []

-- a host that awaits the reply to block 4 of entry 2, after 300 packets in 2 passes, with entries 0 and 1 completed and a completed image in this pass
abbrev pub sending_host : Host
sending_host = record {
  token = 0xA5;
  stage = Sending (sent_at (record { entry = 2; block = 4 }));
  mask = 3;
  packets = 300;
  passes = 2;
  skipped = false;
  landed = true;
}

-- a host that ended by H1 with status 5
abbrev pub failed_host : Host
failed_host = record { token = 0xA5; stage = Ended (end.Status 5); mask = 0; packets = 5; passes = 1; skipped = true; landed = false }

-- an entry whose body has so many records
abbrev pub body : (offset length records : ℕ) → Entry
body offset length records = record { offer = blank_offer; offset = offset; length = length; records = records }

-- E12's bodies: at 56 and 130, 74 bytes of two records each
abbrev pub contents : Contents
contents = record { row = served; place = 0; count = 2; table = body 56 74 2 ∷ body 130 74 2 ∷ replicate (offer_limit - 2) blank_entry }

-- a bundle that B5 refuses at its second entry
abbrev pub refused_contents : Contents
refused_contents = record { row = row_b 5 2; place = 2; count = 0; table = replicate offer_limit blank_entry }

-- what stands behind the bodies where no block is in hand
abbrev pub no_hand : List ℕ
no_hand = replicate 8 0xFF ++ replicate 8 0

-- what the check leaves of seven bytes: B1, no entry and no offers
abbrev pub short_contents : List ℕ
short_contents = 1 ∷ 0 ∷ 0 ∷ replicate (offer_limit * body_part_size) 0 ++ no_hand

-- the same offer with V for I
abbrev pub other_fields : COffer
other_fields = record {
  segment = 3;
  force_immediate_reset = 0;
  force_ignore_version = 1;
  id = 9;
  token = 0xA5;
  version = record { major = 1; minor = 0x0203; variant = 4 };
  need = 5;
  least = 0x060708;
  protocol = 2;
  platform = 0x0A0B;
}

-- a bundle of one offer, whose body has one record of one byte; what its check leaves; a fresh host, and that host after its first step
abbrev pub small : List ℕ
small =
    1 ∷ 1 ∷ 0 ∷ 0 ∷ 0 ∷ 0 ∷ 0 ∷ 0
    ∷ 0 ∷ 0 ∷ 1 ∷ 0 ∷ 0 ∷ 3 ∷ 0 ∷ 1 ∷ 0 ∷ 0 ∷ 0 ∷ 0 ∷ 2 ∷ 0 ∷ 0x42 ∷ 0 ∷ 32 ∷ 0 ∷ 0 ∷ 0 ∷ 6 ∷ 0 ∷ 0 ∷ 0
    ∷ 0 ∷ 0 ∷ 0 ∷ 0 ∷ 1 ∷ 7
    ∷ []

abbrev pub small_contents : List ℕ
small_contents = 0 ∷ 0 ∷ 1 ∷ 32 ∷ 0 ∷ 0 ∷ 0 ∷ 6 ∷ 0 ∷ 0 ∷ 0 ∷ 1 ∷ 0 ∷ 0 ∷ 0 ∷ replicate ((offer_limit - 1) * body_part_size) 0 ++ no_hand

abbrev pub fresh_one : List ℕ
fresh_one = 0xA5 ∷ replicate (host_size - 1) 0

abbrev pub begun : StepLeft
begun = record {
  step = record { number = served_number; entry = 0; length = short_size };
  host = 0xA5 ∷ 1 ∷ replicate 12 0 ++ 1 ∷ replicate 10 0;
  packet = 0 ∷ 0 ∷ 0xFF ∷ 0xA5 ∷ replicate (long_size - 4) 0;
}

-- a bundle of one offer, whose body has two records of one byte, and what its check leaves
abbrev pub pair : List ℕ
pair =
    1 ∷ 1 ∷ 0 ∷ 0 ∷ 0 ∷ 0 ∷ 0 ∷ 0
    ∷ 0 ∷ 0 ∷ 1 ∷ 0 ∷ 0 ∷ 3 ∷ 0 ∷ 1 ∷ 0 ∷ 0 ∷ 0 ∷ 0 ∷ 2 ∷ 0 ∷ 0x42 ∷ 0 ∷ 32 ∷ 0 ∷ 0 ∷ 0 ∷ 12 ∷ 0 ∷ 0 ∷ 0
    ∷ 0 ∷ 0 ∷ 0 ∷ 0 ∷ 1 ∷ 7 ∷ 1 ∷ 0 ∷ 0 ∷ 0 ∷ 1 ∷ 8
    ∷ []

abbrev pub pair_contents : List ℕ
pair_contents = 0 ∷ 0 ∷ 1 ∷ 32 ∷ 0 ∷ 0 ∷ 0 ∷ 12 ∷ 0 ∷ 0 ∷ 0 ∷ 2 ∷ 0 ∷ 0 ∷ 0 ∷ replicate ((offer_limit - 1) * body_part_size) 0 ++ no_hand

-- the same once the second block is in hand: its entry and number, and the cursor behind it
abbrev pub pair_hand : List ℕ
pair_hand = take (contents_size - 16) pair_contents ++ 0 ∷ 0 ∷ 0 ∷ 0 ∷ 1 ∷ 0 ∷ 0 ∷ 0 ∷ 44 ∷ replicate 7 0

-- a host that awaits the reply to its second block, after 5 packets in 1 pass, and has passed over a reply (1) or none (0)
abbrev pub second_awaited : (passed : ℕ) → List ℕ
second_awaited passed = 0xA5 ∷ 5 ∷ 0 ∷ 0 ∷ 0 ∷ 0 ∷ 1 ∷ replicate 7 0 ++ 5 ∷ 0 ∷ 0 ∷ 0 ∷ 1 ∷ 0 ∷ 0 ∷ 0 ∷ 0 ∷ 0 ∷ passed ∷ []

-- the reply to the first block once more: nothing is sent, and the record changes in its last byte alone (document 02, A4)
abbrev pub passed_reply : StepLeft
passed_reply = record { step = record { number = served_number; entry = 0; length = 0 }; host = second_awaited 1; packet = replicate long_size 0 }

-- what the calls leave, byte for byte
pub record CallsHold : Type 0 where
  pub records : (session : Session) → device_bytes (bench_in session) ≡ head ++ (session_bytes session ++ components)
  pub idle_session : session_bytes idle ≡ replicate 67 0
  pub offered_session : session_bytes offered ≡ 1 ∷ 0 ∷ 0xA5 ∷ 0 ∷ 0 ∷ 0 ∷ 0 ∷ replicate 60 0
  pub receiving_session : session_bytes receiving_owing ≡ 2 ∷ 0 ∷ 0xA5 ∷ 0x35 ∷ 0x12 ∷ 1 ∷ 0x5A ∷ block
  pub sets_up : set_up_call (replicate device_size 0) 0x0042 list 2 128 ≡ leaves served_number (device_bytes (bench_in idle))
  pub versions : versions_call (device_bytes (bench_in idle)) (replicate long_size 9) ≡ leaves served_number (flatten (first_replies bench.examples))
  pub accepts : offer_call (device_bytes (bench_in idle)) 128 offer (replicate replies_size 9)
      ≡ record { number = served_number; count = 1; device = device_bytes (bench_in offered); replies = accepted }
  pub passes_over : offer_call strewn 128 offer (replicate replies_size 9) ≡ record { number = served_number; count = 1; device = strewn_offered; replies = accepted }
  pub takes : content_call (device_bytes (bench_in offered_owing)) (replicate 128 0) block (replicate replies_size 9)
      ≡ record { number = served_number; count = 1; device = device_bytes (bench_in receiving_owing); replies = taken }
  pub writes : content_call_staging (device_bytes (bench_in offered_owing)) (replicate 128 0) block (replicate replies_size 9)
      ≡ 1 ∷ replicate 63 0xFF ++ replicate 64 0
  pub again : content_call (device_bytes (bench_in after_middle)) (replicate 128 7) middle (replicate replies_size 9)
      ≡ record { number = served_number; count = 1; device = device_bytes (bench_in after_middle); replies = filled_to replies_size (4 ∷ []) }
  pub again_writes : content_call_staging (device_bytes (bench_in after_middle)) (replicate 128 7) middle (replicate replies_size 9) ≡ replicate 128 7
  pub judges : content_call (device_bytes (bench_in strayed)) (replicate 128 7) middle (replicate replies_size 9)
      ≡ record { number = 0x4401; count = 0; device = device_bytes (bench_in strayed); replies = replicate replies_size 0 }
  pub resets : reset_call (device_bytes (bench_in receiving_owing)) ≡ leaves served_number (device_bytes (bench_in idle))
  pub refuses : offer_call (device_bytes (bench_in idle)) 127 offer (replicate replies_size 9)
      ≡ record { number = 0x4402; count = 0; device = device_bytes (bench_in idle); replies = replicate replies_size 0 }
  pub sending : host_bytes sending_host
      ≡ 0xA5 ∷ 5 ∷ 2 ∷ 0 ∷ 0 ∷ 0 ∷ 4 ∷ 0 ∷ 0 ∷ 0 ∷ 3 ∷ 0 ∷ 0 ∷ 0 ∷ 0x2C ∷ 0x01 ∷ 0 ∷ 0 ∷ 2 ∷ 0 ∷ 0 ∷ 0 ∷ 0 ∷ 1 ∷ 0 ∷ []
  pub failed : host_bytes failed_host
      ≡ 0xA5 ∷ 7 ∷ 1 ∷ 0 ∷ 0 ∷ 0 ∷ 5 ∷ 0 ∷ 0 ∷ 0 ∷ 0 ∷ 0 ∷ 0 ∷ 0 ∷ 5 ∷ 0 ∷ 0 ∷ 0 ∷ 1 ∷ 0 ∷ 0 ∷ 0 ∷ 1 ∷ 0 ∷ 0 ∷ []
  pub kept : contents_bytes contents (record { entry = 1; block = 0 }) 187
      ≡ 0 ∷ 0 ∷ 2 ∷ 56 ∷ 0 ∷ 0 ∷ 0 ∷ 74 ∷ 0 ∷ 0 ∷ 0 ∷ 2 ∷ 0 ∷ 0 ∷ 0 ∷ 130 ∷ 0 ∷ 0 ∷ 0 ∷ 74 ∷ 0 ∷ 0 ∷ 0 ∷ 2 ∷ 0 ∷ 0 ∷ 0
      ∷ replicate ((offer_limit - 2) * body_part_size) 0 ++ 1 ∷ 0 ∷ 0 ∷ 0 ∷ 0 ∷ 0 ∷ 0 ∷ 0 ∷ 187 ∷ replicate 7 0
  pub named : contents_bytes refused_contents no_place 0 ≡ 5 ∷ 2 ∷ 0 ∷ replicate (offer_limit * body_part_size) 0 ++ no_hand
  pub rejects : check_call (replicate 7 0) (replicate contents_size 9)
      ≡ record { check = record { number = 0x4201; entry = 0; count = 0 }; contents = short_contents }
  pub checks : check_call small (replicate contents_size 9) ≡ record { check = record { number = served_number; entry = 0; count = 1 }; contents = small_contents }
  pub makes : write_call (given offer_one 0 8) eight (replicate 52 9)
      ≡ record {
        written = record { number = served_number; entry = 0; length = 50 };
        out = 1 ∷ 1 ∷ replicate 6 0 ++ (given offer_one 32 18 ++ (record8 0 6 (0x00 ∷ 0x03 ∷ 0x00 ∷ 0x01 ∷ 1 ∷ 7 ∷ []) ++ (record8 6 2 (0x9A ∷ 0x34 ∷ []) ++ (9 ∷ 9 ∷ []))));
      }
  pub makes_none : write_call (set (given offer_one 0 8) 2 2) eight (replicate 50 9) ≡ record { written = record { number = 0x5706; entry = 1; length = 0 }; out = replicate 50 9 }
  pub starts : fresh_call (replicate host_size 9) 0xA5 ≡ leaves served_number fresh_one
  pub begins : step_call fresh_one small [] (replicate long_size 9) ≡ begun
  pub begins_checked : step_checked_call fresh_one small_contents small [] (replicate long_size 9) ≡ begun
  pub passes_reply : step_call (second_awaited 0) pair (replicate short_size 0) (replicate long_size 9) ≡ passed_reply
  pub passes_checked : step_checked_call (second_awaited 0) pair_contents pair (replicate short_size 0) (replicate long_size 9) ≡ passed_reply
  pub passes_keeps : step_checked_contents (second_awaited 0) pair_contents pair (replicate short_size 0) (replicate long_size 9) ≡ pair_hand
  pub passes_once : step_call (second_awaited 1) pair (replicate short_size 0) (replicate long_size 9)
      ≡ record {
        step = record { number = served_number; entry = 0; length = 0 };
        host = 0xA5 ∷ 7 ∷ 2 ∷ replicate 11 0 ++ 5 ∷ 0 ∷ 0 ∷ 0 ∷ 1 ∷ replicate 6 0;
        packet = replicate long_size 0;
      }
  pub still_runs : report_call (second_awaited 1) ≡ record { number = served_number; completed = 0; mask = 0; packets = 5; passes = 1; ending = 0; status = 0 }
  pub reports_done : report_call (0xA5 ∷ 7 ∷ replicate 12 0 ++ 5 ∷ 0 ∷ 0 ∷ 0 ∷ 1 ∷ replicate 6 0)
      ≡ record { number = served_number; completed = 0; mask = 0; packets = 5; passes = 1; ending = 1; status = 0 }
  pub reports : report_call (host_bytes sending_host)
      ≡ record { number = served_number; completed = 2; mask = 3; packets = 300; passes = 2; ending = 0; status = 0 }
  pub reports_failed : report_call (host_bytes failed_host)
      ≡ record { number = served_number; completed = 0; mask = 0; packets = 5; passes = 1; ending = 0x4801; status = 5 }
  pub steps : step_checked_call (replicate host_size 0) short_contents (replicate 7 0) [] (replicate long_size 9) ≡ refused_step 0x4201 (replicate host_size 0) (replicate long_size 0)
  pub leaves_contents : step_checked_contents (replicate host_size 0) short_contents (replicate 7 0) [] (replicate long_size 9) ≡ short_contents
  pub unchecked : step_checked_call (replicate host_size 0) (replicate contents_size 0) (replicate 7 0) [] (replicate long_size 9) ≡ refused_step 0x4301 (replicate host_size 0) (replicate long_size 9)
  pub builds : build_offer_call fields (replicate short_size 9) ≡ leaves served_number fields_packet
  pub reads : read_offer_call fields_packet ≡ record { number = served_number; kind = 1; offer = fields; signal = record { code = 0; token = 0 } }
  pub builds_other : build_offer_call other_fields (replicate short_size 9) ≡ leaves served_number (set fields_packet 1 0x80)
  pub reads_other : read_offer_call (set fields_packet 1 0x80)
      ≡ record { number = served_number; kind = 1; offer = other_fields; signal = record { code = 0; token = 0 } }
  pub lists_one : list_call (replicate list_size 0) 0 listed_one ≡ leaves served_number (filled_to list_size one)
  pub lists_two : list_call (filled_to list_size one) 1 listed_two ≡ leaves served_number list
  pub lists_raised : list_call (replicate list_size 0) 0 listed_raised ≡ leaves served_number (filled_to list_size (raised 0))
  pub sets_up_raised : set_up_call (replicate device_size 0) 0x0042 (filled_to list_size (raised 0)) 1 128 ≡ leaves served_number raised_record
  pub sets_up_none : set_up_call (replicate device_size 9) 0x0042 (filled_to list_size (raised 1)) 1 128 ≡ leaves 0x5305 (replicate device_size 9)
  pub rejects_raised : offer_call raised_record 128 offer (replicate replies_size 9)
      ≡ record { number = served_number; count = 1; device = raised_record; replies = filled_to replies_size (flatten (bench.answer 0 2)) }
  pub tells_raised : component_call raised_record 0
      ≡ record { number = served_number; id = 1; running = minor_one 2; base = 0; length = 64; floor = minor_one 5; pending = 0; staged = no_version }
  pub lists_no_more : list_call list component_limit listed_two ≡ leaves 0x4304 list
  pub tells_two : component_call (device_bytes (bench_in idle)) 1
      ≡ record { number = served_number; id = 2; running = minor_one 1; base = 64; length = 64; floor = no_version; pending = 0; staged = no_version }
  pub tells_staged : component_call (head ++ (replicate 67 0 ++ staged_components)) 0
      ≡ record { number = served_number; id = 1; running = minor_one 2; base = 0; length = 64; floor = no_version; pending = 1; staged = minor_one 3 }
  pub tells_no_more : component_call (device_bytes (bench_in idle)) 2 ≡ no_component 0x4304
  pub tells_of_none : component_call (replicate device_size 0) 0 ≡ no_component 0x4401
  pub enters : entry_call (contents_bytes contents no_place 0) 0 ≡ record { number = served_number; entry = 0; offset = 56; length = 74; records = 2 }
  pub enters_no_more : entry_call (contents_bytes contents no_place 0) 2 ≡ no_entry 0x4304 0
  pub enters_refused : entry_call (contents_bytes refused_contents no_place 0) 0 ≡ no_entry 0x4205 2
  pub layouts : LayoutsHold
  pub packets : PacketsHold
