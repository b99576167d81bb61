-- What an entry's own answer is: it is served, so that a refused call changes nothing, and each entry refuses the blank record. Assumes nothing.
use mathlib.Core.Path.{◌≡◌, refl}
use mathlib.Core.List.{List}
use Prim.Native.Nat.{ℕ}
use native.Mathlib.Omega.{arith}
use lib.ListN.{length}
use Rattle.wire.specs.Checks.{first_of, any}
use Rattle.wire_offer.specs.Kind.{Kind, offer, information, extended, kind_in}
use Rattle.device_component.specs.Setup.{setup_verdict}
use Rattle.device_session.specs.Sound as sound
use Rattle.device_receiving.specs.Receive.{on_content}
use Rattle.device.specs.declared.record.Device.{Device}
use Rattle.device.specs.declared.answer.Channel.{Channel}
use Rattle.device.specs.declared.answer.Channel.TheVariants.{Offer, Content}
use Rattle.device.specs.Record.{blank_device}
use Rattle.device.specs.Refusals.{Row, served, row_d, refusal_of, Outcome, refused_by, unless_refused}
use Rattle.device.specs.Offer.{on_kind, offer_entry}
use Rattle.device.specs.Content.{session_component, received, content_entry, content_staging}
use Rattle.device.specs.Entries.{version_entry, reset_entry, serve_entry, serve_staging}
use Rattle.device.specs.Promises.{BlankRefused, RefusedChangesNothing}

-- the answer to an offer packet is served
kind_served : (d : Device) (x : Kind) → (on_kind d x).row ≡ served
kind_served d (offer o) = refl
kind_served d (information s) = refl
kind_served d (extended s) = refl

module _ (row : Row) (d : Device) (answer : Outcome) where
  -- a refused call's row is one of D1 to D3
  refused_row : (k : ℕ) → answer.row ≡ served → (unless_refused row d answer).row ≡ row_d k → row ≡ row_d k
  refused_row k h e = go row e where
    go : (r : Row) → (unless_refused r d answer).row ≡ row_d k → r ≡ row_d k
    go served e = let z : ◌≡◌ {A = ℕ} 0 1 = cc in absurd (omega arith)
    go (row_d j) e = e

  -- a served call is refused by none of them
  pub served_row : (unless_refused row d answer).row ≡ served → row ≡ served
  served_row e = go row e where
    go : (r : Row) → (unless_refused r d answer).row ≡ served → r ≡ served
    go served e = refl
    go (row_d j) e = let z : ◌≡◌ {A = ℕ} 0 1 = cc in absurd (omega arith)

-- a served content packet is refused by no row
pub content_served : (d : Device) (staging report : List ℕ) → (content_entry d staging report).row ≡ served → refusal_of 60 d (length staging) (length report) ≡ served
unfolding content_entry
content_served d staging report e =
    served_row (refusal_of 60 d (length staging) (length report)) d (received d (on_content (session_component d) d.session report staging)) e

pub refused_changes_nothing : RefusedChangesNothing
unfolding serve_entry serve_staging offer_entry content_entry content_staging
refused_changes_nothing d Offer staging report k e =
    let r = refused_row (refusal_of 16 d (length staging) (length report)) d (on_kind d (kind_in report)) k (kind_served d (kind_in report)) e in (rw r, refl)
refused_changes_nothing d Content staging report k e =
    let r = refused_row (refusal_of 60 d (length staging) (length report)) d (received d (on_content (session_component d) d.session report staging)) k refl e in
    (rw r, rw r)

pub blank_refused : BlankRefused
unfolding serve_entry serve_staging offer_entry content_entry content_staging version_entry reset_entry refusal_of sound.breaks_d1 first_of any setup_verdict
blank_refused = record { packets = packets; staging = buffer; versions = refl; resets = refl } where
  packets : (channel : Channel) (staging report : List ℕ) → serve_entry blank_device channel staging report ≡ refused_by (row_d 1) blank_device
  packets Offer staging report = refl
  packets Content staging report = refl

  buffer : (channel : Channel) (staging report : List ℕ) → serve_staging blank_device channel staging report ≡ staging
  buffer Offer staging report = refl
  buffer Content staging report = refl
