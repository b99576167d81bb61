-- The device's calls from C for packets: what each answers and leaves in each lent buffer. A refused call leaves the record as it is.
use Rattle.std.specs.Prelude.{ℕ, ◌*◌, length, Result, Ok, Err}
use mathlib.Core.List.{List, flatten}
use Rattle.wire.specs.Codes.{short_size}
use Rattle.device_session.specs.Effect.{no_replies}
use Rattle.device_session.specs.declared.effect.Replies.{Replies}
use Rattle.device.specs.Refusals.{row_of, sent_with, Outcome}
use Rattle.device.specs.Offer.{offer_entry}
use Rattle.device.specs.Content.{content_entry, content_staging}
use Rattle.device_bytes.specs.Layout.{device_size, read_device}
use Rattle.device.specs.declared.answer.Refusal.{Refusal}
use Rattle.device_in_place.specs.InPlace.{offer_leaves, content_leaves}
use Rattle.c_types.specs.declared.types.CReplies.{CReplies}
use Rattle.c_types.specs.Numbers.{served_number, wrong_record, wrong_output, sized, filled_to}
use Rattle.c_device.specs.Numbers.{device_number}

-- the size of a buffer for replies: two at the most
abbrev pub replies_size : ℕ
replies_size = 2 * short_size

-- what an offer or a content packet leaves: the record, and the replies one after the other, zeros behind them
pub record Replied : Type 0 where
  pub number : ℕ
  pub count : ℕ
  pub device : List ℕ
  pub replies : List ℕ

abbrev pub told_replies : CReplies → (device replies : List ℕ) → Replied
told_replies r device replies = record { number = r.number; count = r.count; device = device; replies = replies }

abbrev pub refused_replies : (number : ℕ) → (device replies : List ℕ) → Replied
refused_replies number device replies = record { number = number; count = 0; device = device; replies = replies }

-- what an answer tells, and the replies that it leaves: one after the other, zeros behind them
abbrev pub answered_by : Result Replies Refusal → CReplies
answered_by (Ok replies) = record { number = served_number; count = length (sent_with replies) }
answered_by (Err refusal) = record { number = device_number (row_of refusal); count = 0 }

abbrev pub replies_left : Replies → List ℕ
replies_left replies = filled_to replies_size (flatten (sent_with replies))

abbrev pub answer_left : Result Replies Refusal → List ℕ
answer_left (Ok replies) = replies_left replies
answer_left (Err refusal) = replies_left no_replies

abbrev pub replied_by : (left : List ℕ) → Outcome → Replied
replied_by left o = record {
  number = device_number o.row;
  count = length o.sent;
  device = left;
  replies = filled_to replies_size (flatten o.sent);
}

unfoldable pub offer_call : (device : List ℕ) → (n : ℕ) → (report replies : List ℕ) → Replied
offer_call device n report replies =
    sized device device_size (refused_replies wrong_record device replies)
    (sized replies replies_size (refused_replies wrong_output device replies)
    (replied_by (offer_leaves device (offer_entry (read_device device) n report)) (offer_entry (read_device device) n report)))

unfoldable pub content_call : (device staging report replies : List ℕ) → Replied
content_call device staging report replies =
    sized device device_size (refused_replies wrong_record device replies)
    (sized replies replies_size (refused_replies wrong_output device replies)
    (replied_by (content_leaves device (content_entry (read_device device) staging report)) (content_entry (read_device device) staging report)))

-- the staging buffer after a content packet
unfoldable pub content_call_staging : (device staging report replies : List ℕ) → List ℕ
content_call_staging device staging report replies =
    sized device device_size staging (sized replies replies_size staging (content_staging (read_device device) staging report))
