-- The bytes that a call leaves: read as the record of its outcome, and those of that record over the bytes of a record. Assumes nothing.
use mathlib.Core.Path.{◌≡◌, refl, sym, ap, subst, ◌∙◌}
use mathlib.Core.Bool.{true}
use mathlib.Core.List.{List}
use Prim.Native.Nat.{ℕ}
use native.Mathlib.Omega.{arith}
use lib.ListN.{length, set, replicate, length-replicate}
use lib.Seq.{set-set, set-get_or}
use Rattle.wire.specs.Bytes.{Bytes}
use Rattle.wire_offer.specs.Kind.{kind_in}
use Rattle.device_component.specs.Lists.{component_at}
use Rattle.device_component.specs.Record.{blank_component}
use Rattle.device_component.specs.declared.record.Component.{Component}
use Rattle.device_session.specs.Stage.{at_slot}
use Rattle.device_session.proofs.effect.Laws.{replicate_bytes}
use Rattle.device_receiving.specs.Receive.{on_content}
use Rattle.device_receiving.proofs.content.Laws.{taken_sized}
use Rattle.device.specs.Record.{FitsDevice, with_session}
use Rattle.device.specs.Refusals.{Row, served, row_d, refusal_of}
use Rattle.device.specs.Offer.{on_kind, offer_entry}
use Rattle.device.specs.Content.{session_component, received, content_entry}
use Rattle.device.specs.Entries.{serve_entry}
use Rattle.device.specs.declared.answer.Channel.TheVariants.{Offer, Content}
use Rattle.device.specs.declared.record.Device.{Device}
use Rattle.device.proofs.Fitting.{serve_keeps_fits}
use Rattle.device_bytes.specs.Layout.{device_bytes, device_in, is_record, read_device, with_session_bytes, with_component_bytes}
use Rattle.device_bytes.proofs.Back.{fits_sized, device_fits, device_reads_back}
use Rattle.device_bytes.proofs.Record.{Sized}
use Rattle.device_bytes.proofs.Left.{session_read, component_read, session_written, component_written}
use Rattle.device_in_place.specs.InPlace.{offer_leaves, content_leaves}
use Rattle.device_in_place.specs.Promises.{LeftReads, LeftCanonical}
use Rattle.device_in_place.proofs.Stands.{stands}
use Rattle.device_in_place.proofs.sound.Rows.{read_in}

-- a component that stands in its slot may be put there again
put_again : (l : List Component) (slot : ℕ) (c : Component) → set l slot (component_at (set l slot c) slot) ≡ set l slot c
put_again l slot c = sym (set-set l slot c (component_at (set l slot c) slot)) ∙ set-get_or (set l slot c) slot blank_component

-- what the calls leave of a record has the values of its types
offer_fits : (d : Device) (n : ℕ) (report : List ℕ) → FitsDevice d → Bytes report → FitsDevice (offer_entry d n report).device
unfolding serve_entry
offer_fits d n report f h =
    subst (λ (m : ℕ). FitsDevice (offer_entry d m report).device) (length-replicate n 0) (serve_keeps_fits d Offer (replicate n 0) report f h (replicate_bytes n 0 (omega arith)))

content_fits : (d : Device) (staging report : List ℕ) → FitsDevice d → Bytes staging → Bytes report → FitsDevice (content_entry d staging report).device
unfolding serve_entry
content_fits d staging report f g h = serve_keeps_fits d Content staging report f h g

-- another session over the bytes of a record, and then another component
with_session_lem : (b : List ℕ) (o : Device) → is_record b ≡ true → FitsDevice o → o ≡ with_session (device_in b) (device_in b).components o.session
    → read_device (with_session_bytes o.session b) ≡ o
with_session_lem b o h f e = let s = session_read o.session b h f.session in read_in (with_session_bytes o.session b) s.0 ∙ s.1 ∙ sym e

with_both : (b : List ℕ) (slot : ℕ) (x : Component) (o : Device) → is_record b ≡ true → FitsDevice o → o ≡ with_session (device_in b) (set (device_in b).components slot x) o.session
    → read_device (with_component_bytes slot (component_at o.components slot) (with_session_bytes o.session b)) ≡ o
with_both b slot x o h f e =
    let t = o.session in
    let c = component_at o.components slot in
    let s = session_read t b h f.session in
    let u = component_read slot c (with_session_bytes t b) s.0 (f.each slot) in
    let l = (device_in b).components in
    read_in (with_component_bytes slot c (with_session_bytes t b)) u.0 ∙ u.1 ∙ ap (λ (d : Device). with_session d (set d.components slot c) d.session) s.1
    ∙ ap (λ (r : List Component). with_session (device_in b) (set l slot (component_at r slot)) t) (ap (λ (d : Device). d.components) e)
    ∙ ap (λ (r : List Component). with_session (device_in b) r t) (put_again l slot x) ∙ sym e

offers_read : (b : List ℕ) (n : ℕ) (report : List ℕ) → Bytes b → Bytes report
    → read_device (offer_leaves b (offer_entry (read_device b) n report)) ≡ (offer_entry (read_device b) n report).device
unfolding offer_entry
offers_read b n report h k = go (refusal_of 16 (read_device b) n (length report)) refl
  where
    go : (r : Row) → refusal_of 16 (read_device b) n (length report) ≡ r → read_device (offer_leaves b (offer_entry (read_device b) n report)) ≡ (offer_entry (read_device b) n report).device
    go (row_d j) e = rw e
    go served e =
        let w = stands 16 b n (length report) e in
        let v = read_in b w in
        let r = rw v at e in
        let f = rw r at (offer_fits (device_in b) n report (device_fits b h) k) in
        rw (v, r) (with_session_lem b (on_kind (device_in b) (kind_in report)).device w f refl)

content_read : (b staging report : List ℕ) → Bytes b → Bytes staging → Bytes report
    → read_device (content_leaves b (content_entry (read_device b) staging report)) ≡ (content_entry (read_device b) staging report).device
unfolding content_entry
content_read b staging report h g k = go (refusal_of 60 (read_device b) (length staging) (length report)) refl
  where
    go : (r : Row) → refusal_of 60 (read_device b) (length staging) (length report) ≡ r
        → read_device (content_leaves b (content_entry (read_device b) staging report)) ≡ (content_entry (read_device b) staging report).device
    go (row_d j) e = rw e
    go served e =
        let w = stands 60 b (length staging) (length report) e in
        let v = read_in b w in
        let r = rw v at e in
        let d = device_in b in
        let f = rw r at (content_fits d staging report (device_fits b h) g k) in
        let t = on_content (session_component d) d.session report staging in
        rw (v, r) (with_both b (at_slot d.session.stage) t.component (received d t).device w f refl)

pub left_reads : LeftReads
left_reads = record { offers = offers_read; content = content_read }

offers_canonical : (d : Device) → FitsDevice d → (n : ℕ) (report : List ℕ) → offer_leaves (device_bytes d) (offer_entry d n report) ≡ device_bytes (offer_entry d n report).device
unfolding offer_entry
offers_canonical d f n report = go (refusal_of 16 d n (length report)) refl
  where
    go : (r : Row) → refusal_of 16 d n (length report) ≡ r → offer_leaves (device_bytes d) (offer_entry d n report) ≡ device_bytes (offer_entry d n report).device
    go (row_d j) e = rw e
    go served e = rw e (session_written (on_kind d (kind_in report)).device.session d (fits_sized d f))

content_canonical : (d : Device) → FitsDevice d → (staging report : List ℕ)
    → content_leaves (device_bytes d) (content_entry d staging report) ≡ device_bytes (content_entry d staging report).device
unfolding content_entry
content_canonical d f staging report = go (refusal_of 60 d (length staging) (length report)) refl
  where
    go : (r : Row) → refusal_of 60 d (length staging) (length report) ≡ r
        → content_leaves (device_bytes d) (content_entry d staging report) ≡ device_bytes (content_entry d staging report).device
    go (row_d j) e = rw e
    go served e =
        let t = on_content (session_component d) d.session report staging in
        let s = (received d t).device.session in
        let slot = at_slot d.session.stage in
        let l = d.components in
        let c = component_at (set l slot t.component) slot in
        let sized : Sized (with_session d l s) = record { slots = f.slots; previous = taken_sized (session_component d) d.session report f.session.size staging } in
        rw (e, device_reads_back d f)
        (ap (with_component_bytes slot c) (session_written s d (fits_sized d f)) ∙ component_written slot c (with_session d l s) sized
        ∙ ap (λ (r : List Component). device_bytes (with_session d r s)) (put_again l slot t.component))

pub left_canonical : LeftCanonical
left_canonical = record { offers = offers_canonical; content = content_canonical }
