-- A block sent again: an answer of checks 1 to 5 changes nothing, a copy of the packet that the session holds is answered with status 0 and any other repeat with
-- 0x0B, D1 judges the packet's sequence, and a session that is not receiving holds none. Assumes nothing.
use Prim.Native.Nat.{ℕ, ◌<◌}
use mathlib.Core.Path.{◌≡◌, refl, sym, ap, ◌∙◌}
use mathlib.Core.Bool.{Bool, true, false, ◌&&◌, true≢false}
use mathlib.Core.List.{List, map}
use native.Mathlib.Omega.{arith}
use borrow.Author.Tests.{ne_eqb, eqb-true, not-false}
use lib.Dec.{eqb}
use lib.ListN.{length}
use Rattle.wire.specs.Bytes.{same}
use Rattle.wire.specs.Checks.{first_of}
use Rattle.wire.specs.Codes.{success_status, error_invalid, long_size}
use Rattle.wire.proofs.Bounds.{word_fits}
use Rattle.wire.proofs.Chain.{either}
use Rattle.wire.proofs.words.Sames.{same_eq}
use Rattle.wire_content.specs.Head.{head_in}
use Rattle.wire_content.specs.declared.head.ContentHead.{ContentHead}
use Rattle.image.specs.declared.region.Region.{Region}
use Rattle.device_component.specs.Record.{listed}
use Rattle.device_component.specs.Setup.{SetupVerdict, row_of, setup_verdict}
use Rattle.std.specs.Prelude.{Ok, Err}
use Rattle.device_component.specs.declared.record.Listed.{Listed}
use Rattle.device_session.specs.Stage.{is_receiving, at_slot, at_token, following}
use Rattle.device_session.specs.Sound.{wrong_previous}
use Rattle.device_session.specs.declared.stage.Receiving.{Receiving as Receives}
use Rattle.device_session.specs.declared.stage.Stage.{Stage}
use Rattle.device_session.specs.declared.stage.Stage.TheVariants.{Idle, Offered, Receiving}
use Rattle.device_session.proofs.sound.Laws.{passes, keeps}
use Rattle.device_receiving.specs.Content as receiving
use Rattle.device_receiving.specs.Content.{is_first, is_last, is_copy, bad_shape, bad_first}
use Rattle.device_receiving.specs.Receive.{goes_on, on_block}
use Rattle.device_receiving.specs.declared.checks.ContentVerdict.{ContentVerdict}
use Rattle.device_receiving.specs.declared.checks.ContentVerdict.TheVariants.{Answer, Take}
use Rattle.device_receiving.proofs.checks.Laws.{ContentSays, content_says, copies, again_says}
use Rattle.device_receiving.proofs.content.Laws.{kept, packet_held_lem}
use Rattle.device.specs.declared.record.Device.{Device}
use Rattle.device.specs.declared.answer.Channel.{Channel}
use Rattle.device.specs.declared.answer.Channel.TheVariants.{Offer, Content}
use Rattle.device.specs.Record.{with_session}
use Rattle.device.specs.Refusals.{served, row_d, breaks_d1, refusal_of, Outcome, refused_by}
use Rattle.device.specs.Offer.{offer_entry}
use Rattle.device.specs.Content.{session_component, content_verdict, content_entry, content_staging}
use Rattle.device.specs.Entries.{new_device, set_up_by, set_up_of, version_entry, Reset, reset_entry, serve_entry}
use Rattle.device.specs.Copies.{only_replies, AnswerChangesNothing, CopyAnswered, ResentBlock, OtherBytesInvalid, FlaggedInvalid, PreviousJudged, HoldsNone, HeldOnlyReceiving}
use Rattle.device.proofs.Answers.{content_served}
use Rattle.device.proofs.Passes.{serves}
use Rattle.device.proofs.Calls.{Sound, rows_pass}
use Rattle.device.proofs.Moves.{Move, stays, idles, opens, owes, goes, stages, serve_moves}
use Rattle.device.proofs.Staging.{changes}
use Rattle.device.proofs.Kept.{serve_keeps_d1}

pub answer_changes_nothing : AnswerChangesNothing
unfolding content_entry content_staging
answer_changes_nothing d staging report status e v =
    let r = content_served d staging report e in (rw (r, v, kept d.components (at_slot d.session.stage)), rw (r, v))

-- a served call of a session that receives and holds this packet, of a block neither first nor last: one reply with status 0, and nothing changes
pub answers_copy : (d : Device) (s p : List ℕ) (slot token : ℕ) → Sound d s → length p ≡ long_size
    → d.session.stage ≡ Receiving (record { slot = slot; token = token; next = following (head_in p).sequence }) → d.session.previous ≡ p
    → bad_shape (head_in p) ≡ false → is_first (head_in p) ≡ false → is_last (head_in p) ≡ false → (head_in p).sequence < 65536
    → (content_entry d s p ≡ only_replies d p success_status) × (content_staging d s p ≡ s)
unfolding content_entry
answers_copy d s p slot token h l e q b f g n =
    let r : (content_entry d s p).row ≡ served = rw (rows_pass long_size d s (length p) h l) in
    let region = (session_component d).fixed.region in
    let c : is_copy d.session.previous p ≡ true = rw q (copies p f g) in
    let v : content_verdict d p ≡ Answer success_status
    = ap (λ (copy : Bool). receiving.content_verdict region d.session.stage copy (head_in p)) c
    ∙ ap (λ (stage : Stage). receiving.content_verdict region stage true (head_in p)) e ∙ again_says region slot token (head_in p) b f n in
    answer_changes_nothing d s p success_status r v

pub resent_block : ResentBlock
unfolding serve_entry content_entry on_block
resent_block d staging report slot f bytes e v first last =
    let r = content_served d staging report e in
    let w = serves 60 d (length staging) (length report) r in
    let says : ContentSays (session_component d).fixed.region d.session.stage (head_in report) (Take slot)
    = rw v at (content_says (session_component d).fixed.region d.session.stage (is_copy d.session.previous report) (head_in report)) in
    let on = with_session d d.components (goes_on d.session slot report) in
    let s = content_staging d staging report in
    let x : content_entry d staging report ≡ only_replies on report success_status = rw (r, v, last, kept d.components (at_slot d.session.stage)) in
    let kept-d1 = serve_keeps_d1 d Content staging report f (keeps w.record_passes) in
    let sound : Sound on s
    = record { d1 = ap (λ (o : Outcome). breaks_d1 o.device) (sym x) ∙ kept-d1; d2 = (changes d staging report f).0 ∙ w.staging } in
    let a = answers_copy on s report slot (at_token d.session.stage) sound w.report refl (packet_held_lem report w.report) says.3 first last (word_fits 2 2 report bytes) in
    (ap (λ (o : Outcome). content_entry o.device s report) x ∙ a.0 ∙ sym x, ap (λ (o : Outcome). content_staging o.device s report) x ∙ a.1)

-- the sequence after one is another
after_differs : (s n : ℕ) → following s ≡ n → eqb s n ≡ false
after_differs s n e = ne_eqb s n (λ z. omega (arith, e))

-- receiving, no copy and not the next sequence: 0x0B, by whichever of checks 2 to 4
invalid : (region : Region) (r : Receives) (c : ContentHead) → eqb c.sequence r.next ≡ false → receiving.content_verdict region (Receiving r) false c ≡ Answer error_invalid
unfolding receiving.content_verdict first_of
invalid region r c z =
    rw z
    (either (λ (v : ContentVerdict). v ≡ Answer error_invalid) (bad_shape c) _ _ refl
    (either (λ (v : ContentVerdict). v ≡ Answer error_invalid) (bad_first (Receiving r) c) _ _ refl refl))

-- receiving, a copy of a shape that check 2 lets pass, without the first flag, and not the next sequence: 0
again : (region : Region) (r : Receives) (c : ContentHead) → bad_shape c ≡ false → is_first c ≡ false → eqb c.sequence r.next ≡ false
    → receiving.content_verdict region (Receiving r) true c ≡ Answer success_status
unfolding receiving.content_verdict first_of
again region r c b f z = rw (b, f, z)

-- while receiving, what has the previous packet's sequence and is no copy of it
repeat_invalid : (d : Device) (staging report : List ℕ) → (content_entry d staging report).row ≡ served → is_receiving d.session.stage ≡ true
    → (head_in report).sequence ≡ (head_in d.session.previous).sequence → is_copy d.session.previous report ≡ false → content_verdict d report ≡ Answer error_invalid
repeat_invalid d staging report e r q c =
    rw c (go d.session.stage refl r (serves 60 d (length staging) (length report) (content_served d staging report e)).record_passes.previous)
  where
    go : (stage : Stage) → d.session.stage ≡ stage → is_receiving stage ≡ true → wrong_previous stage d.session.previous ≡ false
        → receiving.content_verdict (session_component d).fixed.region stage false (head_in report) ≡ Answer error_invalid
    go Idle z r w = absurd (true≢false (sym r))
    go (Offered o) z r w = absurd (true≢false (sym r))
    go (Receiving x) z r w =
        invalid (session_component d).fixed.region x (head_in report)
        (after_differs (head_in report).sequence x.next (ap following q ∙ eqb-true _ _ (not-false _ w)))

pub copy_answered : CopyAnswered
copy_answered d staging report e r q b f g =
    let c : is_copy d.session.previous report ≡ true = rw (sym q) (copies report f g) in
    rw c (go d.session.stage refl r (serves 60 d (length staging) (length report) (content_served d staging report e)).record_passes.previous)
  where
    go : (stage : Stage) → d.session.stage ≡ stage → is_receiving stage ≡ true → wrong_previous stage d.session.previous ≡ false
        → receiving.content_verdict (session_component d).fixed.region stage true (head_in report) ≡ Answer success_status
    go Idle z r w = absurd (true≢false (sym r))
    go (Offered o) z r w = absurd (true≢false (sym r))
    go (Receiving x) z r w =
        again (session_component d).fixed.region x (head_in report) b f
        (after_differs (head_in report).sequence x.next (ap (λ (p : List ℕ). following (head_in p).sequence) q ∙ eqb-true _ _ (not-false _ w)))

pub other_bytes_invalid : OtherBytesInvalid
other_bytes_invalid d staging report e r q n = repeat_invalid d staging report e r q (go (same d.session.previous report) refl)
  where
    go : (x : Bool) → same d.session.previous report ≡ x → is_copy d.session.previous report ≡ false
    go true z = absurd (n (sym (same_eq d.session.previous report z)))
    go false z = rw z

pub flagged_invalid : FlaggedInvalid
flagged_invalid d staging report e r q f = repeat_invalid d staging report e r q (rw f (and_false (same d.session.previous report)))
  where
    and_false : (x : Bool) → (x && false) ≡ false
    and_false true = refl
    and_false false = refl

-- a record whose previous packet is not just before the next breaks D1
judges_previous : (d : Device) (r : Receives) → d.session.stage ≡ Receiving r → (following (head_in d.session.previous).sequence ≡ r.next → ⊥) → breaks_d1 d ≡ true
judges_previous d r z n = go (breaks_d1 d) refl
  where
    go : (x : Bool) → breaks_d1 d ≡ x → breaks_d1 d ≡ true
    go true e = e
    go false e = absurd (n (eqb-true _ _ (not-false _ (rw z at (passes e).previous))))

pub previous_judged : PreviousJudged
unfolding serve_entry offer_entry content_entry version_entry reset_entry refusal_of first_of
previous_judged = record { packets = packets; versions = λ d r z n. rw (judges_previous d r z n); reset = λ d r z n. rw (judges_previous d r z n) }
  where
    packets : (d : Device) (channel : Channel) (staging report : List ℕ) (r : Receives) → d.session.stage ≡ Receiving r
        → (following (head_in d.session.previous).sequence ≡ r.next → ⊥) → serve_entry d channel staging report ≡ refused_by (row_d 1) d
    packets d Offer staging report r z n = rw (judges_previous d r z n)
    packets d Content staging report r z n = rw (judges_previous d r z n)

-- each of the six moves leaves a packet only where the session receives
move_holds : {d : Device} {channel : Channel} {staging report : List ℕ} {d' : Device} → Move d channel staging report d' → HoldsNone d → HoldsNone d'
move_holds stays h = h
move_holds idles h = λ e. refl
move_holds (opens k a q) h = λ e. refl
move_holds (owes o) h = h
move_holds (goes k o l) h = λ e. absurd (true≢false e)
move_holds (stages k o v w f) h = λ e. refl

-- set-up makes an idle session
set_up_holds : (platform : ℕ) (list : List Listed) (count n : ℕ) → HoldsNone (set_up_of platform list count n).device
unfolding set_up_of
set_up_holds platform list count n = go (setup_verdict n count (map listed list)) where
  go : (v : SetupVerdict) → HoldsNone (set_up_by (row_of v) (new_device platform list count n)).device
  go (Ok u) = λ e. refl
  go (Err row) = λ e. refl

-- a reset makes one too
reset_holds : (d : Device) → HoldsNone d → HoldsNone (reset_entry d).device
unfolding reset_entry
reset_holds d h = either (λ (r : Reset). HoldsNone r.device) (breaks_d1 d) _ _ h (λ e. refl)

pub held_only_receiving : HeldOnlyReceiving
held_only_receiving =
    record { set_up = set_up_holds; packets = λ d channel staging report. move_holds (serve_moves d staging report channel); reset = reset_holds }
