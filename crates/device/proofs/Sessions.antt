-- A session opens only by an ACCEPT, and while a component is pending no packet changes its region. Assumes nothing.
use mathlib.Core.Path.{◌≡◌, refl, sym, ap, subst, ◌∙◌}
use mathlib.Core.Bool.{true, true≢false}
use mathlib.Core.Logic.{◌⊎◌, inl, inr}
use mathlib.Core.List.{List}
use Prim.Native.Nat.{ℕ, ◌<◌}
use native.Mathlib.Omega.{arith}
use lib.ListN.{length}
use Rattle.image.specs.Region.{region_bytes}
use Rattle.image.proofs.region.Within.{inside, kept_apart}
use Rattle.device_component.specs.Record.{is_pending}
use Rattle.std.specs.Prelude.{Some}
use Rattle.device_component.proofs.setup.Laws.{fine_apart}
use Rattle.device_session.specs.Stage.{open_slot}
use Rattle.device_session.proofs.sound.Laws.{fine, open_slot_lem, region_inside}
use Rattle.device.specs.declared.record.Device.{Device}
use Rattle.device.specs.declared.answer.Channel.{Channel}
use Rattle.device.specs.declared.answer.Channel.TheVariants.{Offer, Content}
use Rattle.device.specs.Record.{FitsDevice, component}
use Rattle.device.specs.Content.{window, content_staging}
use Rattle.device.specs.Entries.{serve_staging}
use Rattle.device.specs.Promises.{TakesBlock}
use Rattle.device.specs.Sessions.{Accepts, OpensByAccept, PendingKept}
use Rattle.device.proofs.Answers.{content_served}
use Rattle.device.proofs.Moves.{Move, stays, idles, opens, owes, goes, stages, serve_moves}
use Rattle.device.proofs.Passes.{serves}
use Rattle.device.proofs.Staging.{changes}

-- of the six moves only one opens a session
move_opens : {d : Device} {channel : Channel} {staging report : List ℕ} {d' : Device} (k : ℕ) → Move d channel staging report d' → open_slot d'.session.stage ≡ Some k
    → (open_slot d.session.stage ≡ Some k) ⊎ Accepts d channel staging report k
move_opens k stays e = inl e
move_opens k idles e = let z : ◌≡◌ {A = ℕ} 0 1 = cc in absurd (omega arith)
move_opens {d} {channel = channel} {staging = staging} {report = report} k (opens j a q) e =
    let same : j ≡ k = cc in inr (subst (Accepts d channel staging report) same a)
move_opens k (owes h) e = inl e
move_opens k (goes j h l) e = inl (h ∙ e)
move_opens k (stages j h v w f) e = let z : ◌≡◌ {A = ℕ} 0 1 = cc in absurd (omega arith)

pub opens_by_accept : OpensByAccept
opens_by_accept d channel staging report k e = move_opens k (serve_moves d staging report channel) e

module _ (d : Device) (staging report : List ℕ) (k : ℕ) (f : FitsDevice d) (m : k < d.count) (p : is_pending (component d k).staged ≡ true) where
  -- a block of the session is for another component, whose region does not overlap
  block_keeps : length (content_staging d staging report) ≡ length staging → TakesBlock d staging report
      → region_bytes (component d k).fixed.region (content_staging d staging report) ≡ region_bytes (component d k).fixed.region staging
  block_keeps l t =
      let v = serves 60 d (length staging) (length report) (content_served d staging report t.row) in
      let w = v.record_passes in
      let o = open_slot_lem t.slot w t.opened in
      let other : t.slot ≡ k → ⊥ = λ e. true≢false (sym p ∙ ap (λ (i : ℕ). is_pending (component d i).staged) (sym e) ∙ o.1) in
      kept_apart (window d t.slot) (component d k).fixed.region staging (content_staging d staging report) l t.beside
      (inside (component d k).fixed.region (length staging) (rw v.staging (region_inside k w f.slots m)))
      (fine_apart d.staging_len d.count d.components (fine _ w.setup) f.slots t.slot k o.0 m other)

pub pending_kept : PendingKept
unfolding serve_staging
pending_kept d Offer staging report k f m p = refl
pending_kept d Content staging report k f m p = go (changes d staging report f).1 where
  go : (content_staging d staging report ≡ staging) ⊎ TakesBlock d staging report
      → region_bytes (component d k).fixed.region (content_staging d staging report) ≡ region_bytes (component d k).fixed.region staging
  go (inl e) = rw e
  go (inr t) = block_keeps d staging report k f m p (changes d staging report f).0 t
