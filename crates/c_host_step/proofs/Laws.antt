-- What is sent of a packet, what a step leaves, and what the inner step over contents is. Assumes nothing.
use mathlib.Core.Path.{◌≡◌, refl, sym, ap, ◌∙◌}
use mathlib.Core.Bool.{Bool, true, false, cond, ◌&&◌}
use mathlib.Core.List.{List, [], ◌∷◌, flatten, append-nil}
use Rattle.std.specs.Prelude.{Option, Some, None, Result, Ok, Err}
use Prim.Native.Nat.{ℕ, ◌≤◌}
use native.Mathlib.Omega.{arith}
use borrow.Author.Tests.{eq-eqb, eqb-true, leb-true}
use lib.Dec.{eqb}
use lib.ListN.{length, get_or, take, replicate}
use lib.Seq.{length-take-le}
use Rattle.wire.specs.Bytes.{copy_of}
use Rattle.wire.proofs.Tests.{both}
use Rattle.wire.proofs.words.Copies.{copy_same}
use Rattle.wire.specs.Codes.{short_size, long_size}
use Rattle.bundle_layout.specs.Rows as bundle
use Rattle.bundle_layout.specs.declared.BundleRefusal.{BundleRefusal}
use Rattle.bundle_layout.specs.declared.BundleRow.{BundleRow}
use Rattle.bundle_layout.proofs.Numbers.{row_verdict}
use Rattle.host_record.specs.declared.record.Host.{Host}
use Rattle.host_record.specs.declared.fits.Body.{Body}
use Rattle.host_record.specs.Fits.{body_of, in_hand}
use Rattle.host_packet.specs.Answer.{served, row_of, size_of, sent_by, told}
use Rattle.host_packet.specs.Made.{InnerStep, told_inner}
use Rattle.host_packet.specs.declared.answer.Sent.{Sent}
use Rattle.host_packet.specs.declared.answer.Sent.TheVariants as sent
use Rattle.host_packet.specs.declared.answer.StepAnswer.{StepAnswer}
use Rattle.host_packet.specs.declared.answer.Stepped.{Stepped}
use Rattle.host_packet.specs.declared.answer.StepRefusal.{StepRefusal}
use Rattle.host_packet.specs.declared.answer.StepRefusal.TheVariants.{Bundle, N1}
use Rattle.host_packet.specs.Packet.{packet_size}
use Rattle.host.specs.Step.{step_of}
use Rattle.host.specs.Inner.{inner_of, row_given, count_given, lent, cursor_at}
use Rattle.host_bytes.specs.Layout.{host_size, row_offset, entry_offset, count_at, contents_size, host_bytes, read_host, row_in, contents_in, checked_by, checked_in, body_read, cursor_in, are_contents, is_row, is_kept, cursor_for, kept_in, kept_by, contents_after}
use Rattle.host_bytes.proofs.Contents.{body_read_lem}
use Rattle.c_types.specs.declared.types.CStep.{CStep}
use Rattle.c_types.specs.Numbers.{served_number, wrong_record, wrong_output, sized, lent_number}
use Rattle.c_host_step.specs.Step.{refused_by, refused_step, answered_by, told_by, host_after, kept_after, told_step, step_by, step_call, inner_over, checked, step_checked_call, step_checked_contents}
use Rattle.c_types.proofs.lent.Laws.{lent_refused, lent_served}

-- how many bytes are sent: none, the first 16, all 60
sent_none : 0 ≡ length (flatten {A = ℕ} [])
unfolding flatten
sent_none = refl

sent_short : (p : List ℕ) → length p ≡ long_size → short_size ≡ length (flatten (take short_size p ∷ []))
unfolding flatten
sent_short p h = rw (append-nil (take short_size p)) (sym (length-take-le short_size p (omega arith)))

sent_long : (p : List ℕ) → length p ≡ long_size → long_size ≡ length (flatten (p ∷ []))
unfolding flatten
sent_long p h = rw (append-nil p) (sym h)

-- no packet is longer than the long one
pub size_small : (s : Sent) → size_of s ≤ long_size
size_small sent.Nothing = omega arith
size_small sent.Offer = omega arith
size_small sent.Content = omega arith

length_sent : (s : Sent) (p : List ℕ) → length p ≡ long_size → size_of s ≡ length (flatten (sent_by s p))
length_sent sent.Nothing p h = sent_none
length_sent sent.Offer p h = sent_short p h
length_sent sent.Content p h = sent_long p h

-- what a served step leaves: the answer, the record and the packet
served_left : (host packet : List ℕ) (sent : Sent) (next : Host) → length packet ≡ long_size
    → told_step (answered_by (Ok sent)) (host_bytes next) packet ≡ step_by host (record { row = served; sent = sent_by sent packet; packet = packet; host = next })
served_left host packet sent next whole = rw (length_sent sent packet whole)

-- what a refused step leaves
refused_left : (host packet : List ℕ) (h : Host) (r : StepRefusal)
    → told_step (answered_by (Err r)) host packet ≡ step_by host (record { row = row_of r; sent = []; packet = packet; host = h })
unfolding flatten
refused_left host packet h (Bundle x) = refl
refused_left host packet h N1 = refl

-- bytes stay where a row refuses
kept_refused : (r : StepRefusal) (before after : List ℕ) → before ≡ kept_by (row_of r) before after
kept_refused (Bundle x) before after = refl
kept_refused N1 before after = refl

-- the inner step over contents that a check may have left, by the verdict of their row
module _ (host q b reply : List ℕ) (fits : are_contents q ≡ true) where
  full : length q ≡ contents_size
  full = eqb-true (length q) contents_size (both (eqb (length q) contents_size) _ fits).0

  -- over the row and the count that are kept
  given : (o : Option BundleRow) (row : bundle.Row) (entry count : ℕ) (hand : Body) (cursor : ℕ) (h : Host) → bundle.row_of o entry ≡ row
      → let c = checked_by o entry count in inner_of b (row_given c) (count_given c) hand cursor h reply ≡ inner_of b row count hand cursor h reply
  unfolding inner_of
  given None row entry count hand cursor h e = ap (λ (x : bundle.Row). inner_of b x count hand cursor h reply) e
  given (Some r) row entry count hand cursor h e = ap (λ (x : bundle.Row). inner_of b x count hand cursor h reply) e

  row_told : bundle.row_of (bundle.verdict_of (get_or q row_offset 0)) (get_or q entry_offset 0) ≡ row_in q
  row_told =
      row_verdict (get_or q row_offset 0) (get_or q entry_offset 0) (leb-true (get_or q row_offset 0) 8 (both (is_row (get_or q row_offset 0)) _ (both (eqb (length q) contents_size) _ fits).1).0)

  -- what the inner step told, with what it was given
  pub inner_told : (h : Host) (hand : Body) (cursor : ℕ) (c : Result ℕ BundleRefusal) (packet out : List ℕ) (r : Result Stepped StepRefusal) → length packet ≡ packet_size → h ≡ read_host host
      → hand ≡ body_read q (in_hand h.stage) → cursor ≡ cond (is_kept q h.stage) (cursor_in q) (cursor_at b hand h.stage) → c ≡ checked_in q
      → told_inner h cursor r out ≡ lent packet h cursor (inner_of b (row_given c) (count_given c) hand cursor h reply)
      → told_inner (read_host host) (cursor_for b q (read_host host).stage) r out ≡ inner_over host q b reply
  unfolding contents_in
  inner_told h hand cursor c packet out r whole e f g i m =
      let x : cursor ≡ cursor_for b q h.stage = g ∙ ap (λ (y : Body). cond (is_kept q h.stage) (cursor_in q) (cursor_at b y h.stage)) f in
      let u : hand ≡ body_of (contents_in q) (in_hand h.stage) = f ∙ body_read_lem q (in_hand h.stage) full in
      let w : lent packet h cursor (inner_of b (row_given c) (count_given c) hand cursor h reply) ≡ inner_of b (row_given c) (count_given c) hand cursor h reply =
      rw (eq-eqb (length packet) packet_size whole) in
      let y : inner_of b (row_given c) (count_given c) hand cursor h reply ≡ inner_of b (row_in q) (get_or q count_at 0) hand cursor h reply =
      ap (λ (k : Result ℕ BundleRefusal). inner_of b (row_given k) (count_given k) hand cursor h reply) i
      ∙ given (bundle.verdict_of (get_or q row_offset 0)) (row_in q) (get_or q entry_offset 0) (get_or q count_at 0) hand cursor h row_told in
      let z : inner_of b (row_in q) (get_or q count_at 0) hand cursor h reply ≡ inner_over host q b reply = rw (u, x, e) in
      sym (ap (λ (y : ℕ). told_inner h y r out) x ∙ ap (λ (g : Host). told_inner g (cursor_for b q g.stage) r out) e) ∙ m ∙ w ∙ y ∙ z

-- the step over a record and a buffer for the packet
module _ (host packet bundle reply : List ℕ) (n : ℕ) (e : n ≡ lent_number (eqb (length host) host_size) (eqb (length packet) long_size) wrong_output) where
  -- where one does not fit it is refused
  pub step_refused : (r : CStep) → (n ≡ served_number → ⊥) → r ≡ refused_by n → told_step r host packet ≡ step_call host bundle reply packet
  unfolding step_call
  step_refused r h f =
      ap (λ (x : CStep). told_step x host packet) f
      ∙ lent_refused (eqb (length host) host_size) (eqb (length packet) long_size) wrong_output n (λ (m : ℕ). refused_step m host packet) _ e h

  -- otherwise both fit
  fit : n ≡ served_number → (eqb (length host) host_size ≡ true) × (eqb (length packet) long_size ≡ true)
  fit = lent_served (eqb (length host) host_size) (eqb (length packet) long_size) wrong_output n (omega arith) e

  pub host_fits : n ≡ served_number → length host ≡ host_size
  host_fits h = eqb-true (length host) host_size (fit h).0

  -- it is served
  pub step_served : (h : Host) (a : StepAnswer) (y : CStep) (left out : List ℕ) → n ≡ served_number → h ≡ read_host host → told h (Ok a) ≡ step_of bundle h reply → length a.packet ≡ long_size
      → out ≡ copy_of packet a.packet → y ≡ answered_by (Ok a.sent) → left ≡ host_bytes a.host → told_step y left out ≡ step_call host bundle reply packet
  unfolding step_call
  step_served h a y left out t f g whole i j k =
      let d : out ≡ a.packet = i ∙ copy_same packet a.packet (eqb-true (length packet) long_size (fit t).1 ∙ sym whole) in
      rw ((fit t).0, (fit t).1, ← f, ← g) (rw (d, j, k) (served_left host a.packet a.sent a.host whole))

  -- or a row of the step refuses it
  pub step_row : (h : Host) (r : StepRefusal) (y : CStep) (out : List ℕ) → n ≡ served_number → h ≡ read_host host → told h (Err r) ≡ step_of bundle h reply
      → out ≡ replicate (length packet) 0 → y ≡ answered_by (Err r) → told_step y host out ≡ step_call host bundle reply packet
  unfolding step_call
  step_row h r y out t f g i j =
      let d : out ≡ replicate packet_size 0 = i ∙ ap (λ (m : ℕ). replicate m 0) (eqb-true (length packet) long_size (fit t).1) in
      rw ((fit t).0, (fit t).1, ← f, ← g) (rw (d, j) (refused_left host (replicate packet_size 0) h r))

-- two tests that one answer stands for
both_hold : {A : Type 0} (a b : Bool) (x y : A) → cond (a && b) x y ≡ cond a (cond b x y) y
both_hold true b x y = refl
both_hold false b x y = refl

-- the step over a record, contents and a buffer for the packet
module _ (host contents packet bundle reply : List ℕ) (test : Bool) (n : ℕ) (d : test ≡ are_contents contents)
    (e : n ≡ lent_number (eqb (length host) host_size && test) (eqb (length packet) long_size) wrong_output) where
  judged : n ≡ lent_number (eqb (length host) host_size && are_contents contents) (eqb (length packet) long_size) wrong_output
  judged = e ∙ ap (λ (x : Bool). lent_number (eqb (length host) host_size && x) (eqb (length packet) long_size) wrong_output) d

  -- where one does not fit it is refused
  refused : {A : Type 0} (answer : ℕ → A) (right : A) → (n ≡ served_number → ⊥)
      → answer n ≡ sized host host_size (answer wrong_record) (checked contents (answer wrong_record) (sized packet long_size (answer wrong_output) right))
  refused answer right h =
      lent_refused (eqb (length host) host_size && are_contents contents) (eqb (length packet) long_size) wrong_output n answer right judged h
      ∙ both_hold (eqb (length host) host_size) (are_contents contents) _ _

  pub checked_refused : (r : CStep) → (n ≡ served_number → ⊥) → r ≡ refused_by n
      → (told_step r host packet ≡ step_checked_call host contents bundle reply packet) × (contents ≡ step_checked_contents host contents bundle reply packet)
  unfolding step_checked_call step_checked_contents
  checked_refused r h f = (
    ap (λ (x : CStep). told_step x host packet) f ∙ refused (λ (m : ℕ). refused_step m host packet) _ h,
    refused (λ (m : ℕ). contents) _ h,
  )

  -- otherwise all fit
  all_fit : n ≡ served_number → (eqb (length host) host_size ≡ true) × (are_contents contents ≡ true) × (eqb (length packet) long_size ≡ true)
  all_fit h =
      let t = lent_served (eqb (length host) host_size && are_contents contents) (eqb (length packet) long_size) wrong_output n (omega arith) judged h in
      let b = both (eqb (length host) host_size) (are_contents contents) t.0 in (b.0, b.1, t.1)

  pub checked_fit : n ≡ served_number → (length host ≡ host_size) × (are_contents contents ≡ true) × (length packet ≡ long_size)
  checked_fit h = let t = all_fit h in (eqb-true (length host) host_size t.0, t.1, eqb-true (length packet) long_size t.2)

  -- the step is served
  pub checked_served : (s : Stepped) (a : CStep) (left after out : List ℕ) → n ≡ served_number → told_inner (read_host host) 0 (Ok s) out ≡ inner_over host contents bundle reply
      → length out ≡ long_size → a ≡ answered_by (Ok s.sent) → left ≡ host_bytes s.host → after ≡ kept_in contents s.host.stage s.cursor
      → (told_step a left out ≡ step_checked_call host contents bundle reply packet) × (after ≡ step_checked_contents host contents bundle reply packet)
  unfolding step_checked_call step_checked_contents
  checked_served s a left after out m f whole g i j =
      let t = all_fit m in
      let k : eqb (length contents) contents_size ≡ true = (both (eqb (length contents) contents_size) _ t.1).0 in
      let l : kept_in contents s.host.stage s.cursor ≡ contents_after contents (told_inner (read_host host) 0 (Ok s) out) = rw k in (
        rw (t.0, t.1, t.2) (rw (g, i) (served_left host out s.sent s.host whole) ∙ ap (λ (x : InnerStep). step_by host x.step) f),
        rw (t.0, t.1, t.2) (j ∙ l ∙ ap (contents_after contents) f),
      )

  -- or a row of the step refuses it
  pub checked_row : (h : Host) (cursor : ℕ) (r : StepRefusal) (a : CStep) (out : List ℕ) → n ≡ served_number → told_inner h cursor (Err r) out ≡ inner_over host contents bundle reply
      → a ≡ answered_by (Err r) → (told_step a host out ≡ step_checked_call host contents bundle reply packet) × (contents ≡ step_checked_contents host contents bundle reply packet)
  unfolding step_checked_call step_checked_contents
  checked_row h cursor r a out m f g =
      let t = all_fit m in (
        rw (t.0, t.1, t.2) (rw g (refused_left host out h r) ∙ ap (λ (x : InnerStep). step_by host x.step) f),
        rw (t.0, t.1, t.2) (kept_refused r contents _ ∙ ap (contents_after contents) f),
      )

  -- what is told and left of the step
  pub checked_left : (h : Host) (cursor : ℕ) (step : Result Stepped StepRefusal) (a : CStep) (left after out : List ℕ) → n ≡ served_number
      → told_inner h cursor step out ≡ inner_over host contents bundle reply → length out ≡ long_size → a ≡ told_by step → left ≡ host_after step host → after ≡ kept_after step contents
      → (told_step a left out ≡ step_checked_call host contents bundle reply packet) × (after ≡ step_checked_contents host contents bundle reply packet)
  checked_left h cursor (Ok s) a left after out m f whole g i j = checked_served s a left after out m f whole g i j
  checked_left h cursor (Err r) a left after out m f whole g i j = rw (i, j) (checked_row h cursor r a out m f g)
