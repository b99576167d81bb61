-- What follows from a verdict on content. Assumes nothing.
use Rattle.std.proofs.Common.{◌≡◌, ℕ, ◌+◌, ◌<◌, ◌≤◌, Bool, true, false, eqb, List, sym, refl, true≢false, arith, ltb-false, ne_eqb, leb-true, Some}
use borrow.Author.Tests.{not-false}
use Rattle.wire.specs.Checks.{first_of}
use Rattle.wire.specs.Codes.{success_status}
use Rattle.wire.proofs.Chain.{first_says}
use Rattle.wire.proofs.Tests.{neither}
use Rattle.wire.proofs.words.Sames.{same_refl}
use Rattle.wire_content.specs.Head.{head_in}
use Rattle.wire_content.specs.declared.head.ContentHead.{ContentHead}
use Rattle.image.specs.declared.region.Region.{Region}
use Rattle.device_session.specs.Stage.{is_open, open_slot, at_slot, following}
use Rattle.device_session.specs.declared.stage.Stage.{Stage}
use Rattle.device_session.specs.declared.stage.Stage.TheVariants.{Idle, Offered, Receiving}
use Rattle.device_receiving.specs.declared.checks.ContentVerdict.{ContentVerdict}
use Rattle.device_receiving.specs.declared.checks.ContentVerdict.TheVariants.{Answer, Take}
use Rattle.device_receiving.specs.Content.{is_first, is_last, bad_shape, is_copy, content_verdict}

-- a session that is open is open on a slot
pub open_at : (s : Stage) → is_open s ≡ true → open_slot s ≡ Some (at_slot s)
open_at Idle e = absurd (true≢false (sym e))
open_at (Offered o) e = refl
open_at (Receiving r) e = refl

-- a block is taken for the slot that the session is open on, has at most 52 bytes, lies in its region, and has a right shape
abbrev pub ContentSays : Region → Stage → ContentHead → ContentVerdict → Type 0
ContentSays region stage c (Answer s) = Unit {0}
ContentSays region stage c (Take k) =
    (open_slot stage ≡ Some k) × (c.length ≤ 52) × (c.address.0 + c.length ≤ region.len) × (bad_shape c ≡ false)

pub content_says : (region : Region) (stage : Stage) (copy : Bool) (c : ContentHead) → ContentSays region stage c (content_verdict region stage copy c)
unfolding content_verdict
content_says region stage copy c = first_says (ContentSays region stage c) _ _ (tt, (tt, (tt, (tt, (tt, (tt, tt))))))
    (λ q. (
      open_at stage (not-false (is_open stage) q.0),
      ltb-false 52 c.length (neither (eqb c.length 0) _ (neither _ _ q.1.0).0).1,
      leb-true _ _ (not-false _ q.1.1.1.1.1.0),
      q.1.0,
    ))

-- a packet of a block that was neither first nor last is a copy of itself
pub copies : (report : List ℕ) → is_first (head_in report) ≡ false → is_last (head_in report) ≡ false → is_copy report report ≡ true
copies report f l = rw (same_refl report, f, l)

-- a copy of the block just taken is answered with status 0
pub again_says : (region : Region) (slot token : ℕ) (c : ContentHead) → bad_shape c ≡ false → is_first c ≡ false → c.sequence < 65536
    → content_verdict region (Receiving (record { slot = slot; token = token; next = following c.sequence })) true c ≡ Answer success_status
unfolding content_verdict first_of
again_says region slot token c b f h =
    let n : eqb c.sequence (following c.sequence) ≡ false
    = ne_eqb c.sequence (following c.sequence) (λ e. omega arith) in
    rw (b, f, n)
