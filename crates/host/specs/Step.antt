-- A step of the host (document 01, "The host" and rows B, N1): the bundle is judged, then the record, then the reply; and the packet is made.
use Rattle.std.specs.Prelude.{ℕ, Bool, cond, List, [], ◌∷◌, eqb, length, get_or, set}
use Rattle.wire.specs.Codes.{notify_on_ready}
use Rattle.wire_offer.specs.Signal.{information_bytes, extended_bytes}
use Rattle.bundle_records.specs.Record.{Block}
use Rattle.bundle_layout.specs.Layout.{count_in, entries_in, offer_in}
use Rattle.bundle_layout.specs.Rows as bundle
use Rattle.bundle.specs.Contents.{blocks_in}
use Rattle.host_record.specs.declared.record.Host.{Host}
use Rattle.host_record.specs.declared.record.Place.{Place}
use Rattle.host_record.specs.declared.record.HostStage.{HostStage}
use Rattle.host_record.specs.Fits.{stage_breaks, record_breaks, is_last_of, last_of, in_hand}
use Rattle.host_decide.specs.declared.Action.{Action}
use Rattle.host_decide.specs.declared.Action.TheVariants as action
use Rattle.host_decide.specs.declared.Move.{Move}
use Rattle.host_decide.specs.Decide.{decide_of}
use Rattle.host_packet.specs.Packet.{flags_of, block_bytes}
use Rattle.host_packet.specs.Answer.{row_b, row_n, Step, filled, refused_by}
pub use Rattle.host_packet.specs.Answer.{served}

-- an entry of a bundle's table, and the records of its body
abbrev pub entry_at : (b : List ℕ) → ℕ → List ℕ
entry_at b i = get_or (entries_in b) i []

abbrev pub blocks_at : (b : List ℕ) → ℕ → List Block
blocks_at b i = blocks_in b (entry_at b i)

abbrev pub records_at : (b : List ℕ) → ℕ → ℕ
records_at b i = length (blocks_at b i)

-- N1 over a bundle
abbrev pub bad_stage : (b : List ℕ) → HostStage → Bool
bad_stage b stage = stage_breaks (count_in b) (records_at b (in_hand stage)) stage

unfoldable pub breaks_n1 : (b : List ℕ) → Host → Bool
breaks_n1 b h = record_breaks (count_in b) (records_at b (in_hand h.stage)) h

-- the block in hand is the last of its body
abbrev pub is_last : (b : List ℕ) → Place → Bool
is_last b p = is_last_of (records_at b p.entry) p

abbrev pub last_in : (b : List ℕ) → HostStage → Bool
last_in b stage = last_of (records_at b (in_hand stage)) stage

-- its flags
abbrev pub flags_at : (b : List ℕ) → Place → ℕ
flags_at b p = flags_of (eqb p.block 0) (is_last b p)

-- past the last record
abbrev pub no_block : Block
no_block = record { address = record { 0 = 0 }; bytes = [] }

abbrev pub block_at : (b : List ℕ) → Place → Block
block_at b p = get_or (blocks_at b p.entry) p.block no_block

abbrev pub block_packet : (b : List ℕ) → Place → List ℕ
block_packet b p = block_bytes p.block (is_last b p) (block_at b p)

-- the packet of an action; an offer is the table's 16 bytes with our token in byte 3
unfoldable pub packet_of : (b : List ℕ) → (token : ℕ) → Action → List (List ℕ)
packet_of b token action.Nothing = []
packet_of b token (action.Information code) = information_bytes (record { code = code; token = token }) ∷ []
packet_of b token action.Notify = extended_bytes (record { code = notify_on_ready; token = token }) ∷ []
packet_of b token (action.Offer entry) = set (offer_in (entry_at b entry)) 3 token ∷ []
packet_of b token (action.Block p) = block_packet b p ∷ []

abbrev pub moved : (b : List ℕ) → Move → Step
moved b m = record {
  row = served;
  sent = packet_of b m.host.token m.action;
  packet = filled (packet_of b m.host.token m.action);
  host = m.host;
}

-- over an accepted bundle: N1, or the move
unfoldable pub step_on : (b : List ℕ) → Host → (reply : List ℕ) → Step
step_on b h reply = cond (breaks_n1 b h) (refused_by (row_n 1) h) (moved b (decide_of (count_in b) (last_in b h.stage) h reply))

abbrev pub step_by : bundle.Row → (b : List ℕ) → Host → (reply : List ℕ) → Step
step_by bundle.served b h reply = step_on b h reply
step_by (bundle.row_b k entry) b h reply = refused_by (row_b k entry) h

-- the step: the bundle's rows, N1, the end, the reply
unfoldable pub step_of : (b : List ℕ) → Host → (reply : List ℕ) → Step
step_of b h reply = step_by (bundle.bundle_row b) b h reply
