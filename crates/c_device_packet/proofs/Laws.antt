-- The replies of an answer, one after the other, and what a call leaves. Assumes nothing.
use mathlib.Core.Path.{◌≡◌, refl, sym, ap, ap₂, ◌∙◌}
use mathlib.Core.Bool.{true}
use mathlib.Core.List.{List, [], ◌∷◌, ◌++◌, flatten, append-nil}
use Prim.Native.Nat.{ℕ, ◌-◌}
use native.Mathlib.Omega.{arith}
use borrow.Author.Tests.{eqb-true}
use lib.Dec.{eqb}
use lib.ListN.{length, take, drop, replicate, length-append}
use lib.Seq.{take_all}
use Rattle.wire.specs.Bytes.{copy_of}
use Rattle.wire.proofs.Pieces.{put_more}
use Rattle.device.specs.Refusals.{Outcome}
use Rattle.device.specs.Offer.{offer_entry}
use Rattle.device.specs.Content.{content_entry, content_staging}
use Rattle.device.specs.declared.record.Device.{Device}
use Rattle.device_bytes.specs.Layout.{device_size, read_device}
use Rattle.device.specs.declared.answer.Refusal.{Refusal}
use Rattle.device_session.specs.declared.effect.Replies.{Replies}
use Rattle.std.specs.Prelude.{Result, Ok, Err}
use Rattle.device_in_place.specs.InPlace.{outcome_of, offer_leaves, content_leaves}
use Rattle.c_types.specs.declared.types.CReplies.{CReplies}
use Rattle.c_types.specs.Numbers.{served_number, wrong_record, wrong_output, sized, lent_number, filled_to}
use Rattle.c_types.proofs.lent.Laws.{lent_refused, lent_served}
use Rattle.c_device_packet.specs.Packet.{replies_size, Replied, answered_by, answer_left, told_replies, refused_replies, replied_by, offer_call, content_call, content_call_staging}

-- no reply: zeros
pub none_sent : replicate 16 0 ++ replicate 16 0 ≡ filled_to replies_size (flatten [])
unfolding flatten
none_sent = refl

-- one reply, and zeros behind it
pub one_sent : (p : List ℕ) → length p ≡ 16 → p ++ replicate 16 0 ≡ filled_to replies_size (flatten (p ∷ []))
unfolding flatten
one_sent p h = rw (append-nil p, h)

-- two replies fill the buffer
pub two_sent : (p q : List ℕ) → length p ≡ 16 → length q ≡ 16 → p ++ q ≡ filled_to replies_size (flatten (p ∷ q ∷ []))
unfolding flatten
two_sent p q h k =
    let e : 32 - length (p ++ q) ≡ 0 = simp length-append (omega arith) in
    rw (append-nil q, e) (sym (append-nil (p ++ q)))

-- two packets are copied, one after the other
pub joined_as : (out first second last last2 : List ℕ) (k k2 : ℕ) → k ≡ 16 → k2 ≡ 16 → length out ≡ 32 → length first ≡ 16 → length second ≡ 16
    → last ≡ copy_of (take k (drop 0 out)) first → last2 ≡ copy_of (take k2 (drop 16 (take 0 out ++ (last ++ drop k (drop 0 out))))) second
    → take 16 (take 0 out ++ (last ++ drop k (drop 0 out))) ++ (last2 ++ drop k2 (drop 16 (take 0 out ++ (last ++ drop k (drop 0 out))))) ≡ first ++ second
joined_as out first second last last2 k k2 e e2 whole h h2 f f2 =
    let a = put_more out first last 0 16 k e h (omega arith) f in
    let mid = take 0 out ++ (last ++ drop k (drop 0 out)) in
    let n : length mid ≡ 32 = a.0 ∙ whole in
    let b = put_more mid second last2 16 16 k2 e2 h2 (omega arith) f2 in
    let m : length (take 16 mid ++ (last2 ++ drop k2 (drop 16 mid))) ≡ 32 = b.0 ∙ n in
    sym (take_all 32 (take 16 mid ++ (last2 ++ drop k2 (drop 16 mid))) (omega arith)) ∙ b.1 ∙ ap (λ (t : List ℕ). t ++ second) a.1

-- an answer tells its outcome
answers_by : (a : Result Replies Refusal) (d : Device) (left : List ℕ) → told_replies (answered_by a) left (answer_left a) ≡ replied_by left (outcome_of a d)
answers_by (Ok replies) d left = refl
answers_by (Err refusal) d left = refl

pub answers : (r : CReplies) (a : Result Replies Refusal) (d : Device) (left replies : List ℕ) {x : Outcome} → outcome_of a d ≡ x → r ≡ answered_by a → replies ≡ answer_left a
    → told_replies r left replies ≡ replied_by left x
answers r a d left replies e f g = ap₂ (λ (x : CReplies) (y : List ℕ). told_replies x left y) f g ∙ answers_by a d left ∙ ap (replied_by left) e

-- a call over a record and a buffer for replies
module _ (device replies : List ℕ) (n : ℕ) (e : n ≡ lent_number (eqb (length device) device_size) (eqb (length replies) replies_size) wrong_output) where
  -- where one does not fit it is refused
  refused : (right : Replied) → (n ≡ served_number → ⊥)
      → refused_replies n device replies ≡ sized device device_size (refused_replies wrong_record device replies) (sized replies replies_size (refused_replies wrong_output device replies) right)
  refused right = lent_refused (eqb (length device) device_size) (eqb (length replies) replies_size) wrong_output n (λ (m : ℕ). refused_replies m device replies) right e

  pub offer_refused : (m : ℕ) (report : List ℕ) → (n ≡ served_number → ⊥) → refused_replies n device replies ≡ offer_call device m report replies
  unfolding offer_call
  offer_refused m report = refused _

  pub content_refused : (staging report : List ℕ) → (n ≡ served_number → ⊥)
      → (refused_replies n device replies ≡ content_call device staging report replies) × (staging ≡ content_call_staging device staging report replies)
  unfolding content_call content_call_staging
  content_refused staging report h =
      (refused _ h, lent_refused (eqb (length device) device_size) (eqb (length replies) replies_size) wrong_output n (λ (m : ℕ). staging) _ e h)

  -- otherwise both fit
  fit : n ≡ served_number → (eqb (length device) device_size ≡ true) × (eqb (length replies) replies_size ≡ true)
  fit = lent_served (eqb (length device) device_size) (eqb (length replies) replies_size) wrong_output n (omega arith) e

  pub replies_fit : n ≡ served_number → length replies ≡ replies_size
  replies_fit h = eqb-true (length replies) replies_size (fit h).1

  pub offer_served : (m : ℕ) (report : List ℕ) (r : CReplies) (a : Result Replies Refusal) (left out : List ℕ) → n ≡ served_number
      → outcome_of a (offer_entry (read_device device) m report).device ≡ offer_entry (read_device device) m report → left ≡ offer_leaves device (offer_entry (read_device device) m report)
      → r ≡ answered_by a → out ≡ answer_left a → told_replies r left out ≡ offer_call device m report replies
  unfolding offer_call
  offer_served m report r a left out h f g i j = rw ((fit h).0, (fit h).1, g) (answers r a _ _ out f i j)

  pub content_served : (staging report : List ℕ) (r : CReplies) (a : Result Replies Refusal) (left out : List ℕ) → n ≡ served_number
      → outcome_of a (content_entry (read_device device) staging report).device ≡ content_entry (read_device device) staging report
      → left ≡ content_leaves device (content_entry (read_device device) staging report) → r ≡ answered_by a → out ≡ answer_left a
      → told_replies r left out ≡ content_call device staging report replies
  unfolding content_call
  content_served staging report r a left out h f g i j = rw ((fit h).0, (fit h).1, g) (answers r a _ _ out f i j)

  pub staging_served : (staging report left : List ℕ) → n ≡ served_number → left ≡ content_staging (read_device device) staging report → left ≡ content_call_staging device staging report replies
  unfolding content_call_staging
  staging_served staging report left h f = rw ((fit h).0, (fit h).1) f
