-- Every code, status and reject reason (document 01, "Packets" and "The device"), by CFU's names where it has one, and the sizes and limits of packets. The
-- reasons 0xE0 to 0xE2 are of the range that CFU leaves to the vendor: 0xE0 and 0xE1 by document 01, 0xE2 by document 02 (A1).
use Rattle.std.specs.Prelude.{ℕ, ◌+◌}

-- The protocol's number; no other is supported.
abbrev pub protocol_number : ℕ
protocol_number = 2

-- The most components that a device has: as many as a version reply holds.
abbrev pub component_limit : ℕ
component_limit = 7

-- The highest id of a component; the lowest is 1.
abbrev pub id_limit : ℕ
id_limit = 0xDF

-- The size of a packet on the offer channel, which is also that of both replies. Of a content packet: where its data start, how many bytes of data it has room
-- for, and its size.
abbrev pub short_size : ℕ
short_size = 16

abbrev pub data_at : ℕ
data_at = 8

abbrev pub packet_data_size : ℕ
packet_data_size = 52

abbrev pub long_size : ℕ
long_size = data_at + packet_data_size

-- Byte 2 of a packet on the offer channel that is not an offer.
abbrev pub kind_information : ℕ
kind_information = 0xFF

abbrev pub kind_extended : ℕ
kind_extended = 0xFE

-- Information codes.
abbrev pub info_start_entire_transaction : ℕ
info_start_entire_transaction = 0

abbrev pub info_start_offer_list : ℕ
info_start_offer_list = 1

abbrev pub info_end_offer_list : ℕ
info_end_offer_list = 2

-- Extended codes.
abbrev pub notify_on_ready : ℕ
notify_on_ready = 1

-- Offer reply, status.
abbrev pub offer_skip : ℕ
offer_skip = 0

abbrev pub offer_accept : ℕ
offer_accept = 1

abbrev pub offer_reject : ℕ
offer_reject = 2

abbrev pub offer_busy : ℕ
offer_busy = 3

abbrev pub offer_ready : ℕ
offer_ready = 4

abbrev pub offer_unsupported : ℕ
offer_unsupported = 0xFF

-- Offer reply, reject reason.
abbrev pub reject_old_fw : ℕ
reject_old_fw = 0

abbrev pub reject_inv_component : ℕ
reject_inv_component = 1

abbrev pub reject_swap_pending : ℕ
reject_swap_pending = 2

abbrev pub reject_wrong_protocol : ℕ
reject_wrong_protocol = 0xE0

abbrev pub reject_wrong_segment : ℕ
reject_wrong_segment = 0xE1

abbrev pub reject_wrong_variant : ℕ
reject_wrong_variant = 0xE2

-- Content, flags.
abbrev pub flag_first_block : ℕ
flag_first_block = 0x80

abbrev pub flag_last_block : ℕ
flag_last_block = 0x40

-- Content reply, status.
abbrev pub success_status : ℕ
success_status = 0

abbrev pub error_verify : ℕ
error_verify = 0x04

abbrev pub error_crc : ℕ
error_crc = 0x05

abbrev pub error_version : ℕ
error_version = 0x07

abbrev pub error_invalid_addr : ℕ
error_invalid_addr = 0x09

abbrev pub error_no_offer : ℕ
error_no_offer = 0x0A

abbrev pub error_invalid : ℕ
error_invalid = 0x0B
