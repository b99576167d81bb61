-- The cursor that a walk over the body in hand finds is right, and so the step is the inner step with that cursor. Assumes nothing.
use mathlib.Core.Path.{◌≡◌, refl, sym, ap, ◌∙◌}
use mathlib.Core.Bool.{Bool, true, false, cond}
use mathlib.Core.List.{List, [], ◌∷◌}
use Prim.Native.Nat.{ℕ, zero, suc, ◌+◌, ◌≤◌}
use native.Mathlib.Numerals.{add-one}
use native.Mathlib.Omega.{arith}
use lib.ListN.{length, drop}
use Rattle.wire.specs.Bytes.{Bytes}
use Rattle.wire.specs.declared.address.RegionAddress.{RegionAddress}
use Rattle.bundle_records.specs.Record.{Block}
use Rattle.bundle_records.specs.Parse.{whole, records_of}
use Rattle.bundle_records.specs.Walk.{between, next_of}
use Rattle.bundle_records.specs.declared.Next.{Next}
use Rattle.bundle_records.specs.declared.Next.TheVariants as next
use Rattle.bundle_records.proofs.Walks.{Goes, goes}
use Rattle.bundle_layout.specs.Rows as bundle
use Rattle.bundle.specs.Contents.{Contents, told_checked, check_of}
use Rattle.bundle_layout.specs.declared.BundleRefusal.{BundleRefusal}
use Rattle.bundle.proofs.Told.{check_row}
use Rattle.std.specs.Prelude.{Err}
use Rattle.bundle.proofs.Accepted.{accepted}
use Rattle.host_record.specs.declared.record.Host.{Host}
use Rattle.host_record.specs.declared.record.HostStage.{HostStage}
use Rattle.host_record.specs.declared.record.HostStage.TheVariants.{Fresh, Opening, Listing, Offering, Waiting, Sending, Closing, Ended}
use Rattle.host_packet.specs.Answer.{Row, served, Step, row_n, row_of, refused_by}
use Rattle.host_packet.specs.declared.answer.StepRefusal.{StepRefusal}
use Rattle.host_packet.specs.declared.answer.StepRefusal.TheVariants as refusal
use Rattle.host.specs.Step.{blocks_at, bad_stage, breaks_n1, step_on, step_by, step_of}
use Rattle.host.specs.Inner.{inner_for, CursorIn, past_record, place_after, cursor_of}
use Rattle.host.proofs.inner.IsStep.{place_inside, end_inside, first_stood, agrees}

-- a walk of one record or more, by what stands at its place
pub place_by : (b : List ℕ) (at end count m : ℕ) (n : Next) → count ≡ suc m → next_of b at end ≡ n
    → place_after b at end count ≡ past_record (λ past. place_after b past end m) at n
unfolding place_after
place_by b at end count m n e f = rw (e, f)

-- past a record the walk goes on with one record less
pub past_one : (b : List ℕ) (at end count m : ℕ) (n : Next) (address : RegionAddress) (start size x : ℕ) → count ≡ m + 1 → n ≡ next_of b at end
    → n ≡ next.Record address start size x → place_after b at end count ≡ place_after b x end m
past_one b at end count m n address start size x e f g = place_by b at end count m (next.Record address start size x) (e ∙ omega arith) (sym f ∙ g)

module _ (b : List ℕ) (end : ℕ) (m : end ≤ length b) where
  -- after the first `count` records those that are left stand
  abbrev Left : (at count : ℕ) → List Block → Type 0
  Left at count rs = (at ≤ end) × (records_of (between b at end) ≡ whole (drop count rs))

  past : (from : ℕ → ℕ) (at count : ℕ) (r : Block) (rs : List Block) → ((n : ℕ) → Left n 0 rs → Left (from n) count rs)
      → (n : Next) → Goes b at end r rs n → Left (past_record from at n) count rs
  past from at count r rs f next.End g = absurd g
  past from at count r rs f next.Bad g = absurd g
  past from at count r rs f (next.Record address start size n) g = f n (g.1, g.2)

  left : (count at : ℕ) (rs : List Block) → Left at 0 rs → count ≤ length rs → Left (place_after b at end count) count rs
  unfolding place_after
  left zero at rs h k = h
  left (suc count) at [] h k = absurd (omega arith)
  left (suc count) at (r ∷ rs) h k =
      past (λ n. place_after b n end count) at count r rs (λ n g. left count n rs g (omega arith)) (next_of b at end) (goes b at end r rs h.0 m h.1)

-- the cursor of a record that N1 leaves is right
pub cursor_found : (b : List ℕ) → Bytes b → bundle.bundle_row b ≡ bundle.served → (stage : HostStage) → bad_stage b stage ≡ false
    → CursorIn b stage (cursor_of b (check_of b) stage)
cursor_found b bytes s Fresh w = tt
cursor_found b bytes s Opening w = tt
cursor_found b bytes s Listing w = tt
cursor_found b bytes s (Offering t) w = tt
cursor_found b bytes s (Waiting t) w = tt
cursor_found b bytes s (Sending a) w =
    let α = accepted b bytes s in
    let p = a.place in
    let i = place_inside b p w in
    let o = first_stood b α s 0 p.entry i.0 in
    rw (← add-one p.block) (left b _ (end_inside b α s p.entry i.0) (p.block + 1) _ (blocks_at b p.entry) (o.below, o.reads) (omega arith))
cursor_found b bytes s Closing w = tt
cursor_found b bytes s (Ended e) w = tt

-- the step is the inner step with that cursor
pub step_is_inner : (b : List ℕ) (h : Host) (reply : List ℕ) → Bytes b → (inner_for b (check_of b) (cursor_of b (check_of b) h.stage) h reply).step ≡ step_of b h reply
step_is_inner b h reply bytes = (agrees b h (cursor_of b (check_of b) h.stage) reply bytes (λ s w. cursor_found b bytes s h.stage w)).0

module _ (b : List ℕ) (h : Host) (reply : List ℕ) where
  -- a step whose row refuses is that row's
  abbrev OfRow : Step → Type 0
  OfRow s = (s.row ≡ served → ⊥) → refused_by s.row h ≡ s

  by_row : (row : bundle.Row) → OfRow (step_by row b h reply)
  unfolding step_on
  by_row bundle.served = go (breaks_n1 b h) _ refl
    where
      go : (x : Bool) (m : Step) → m.row ≡ served → OfRow (cond x (refused_by (row_n 1) h) m)
      go true m e n = refl
      go false m e n = absurd (n e)
  by_row (bundle.row_b k entry) = λ n. refl

  -- a refusal is a row that refuses
  refuses : (r : StepRefusal) → row_of r ≡ served → ⊥
  refuses (refusal.Bundle x) e = cc
  refuses refusal.N1 e = cc

  -- a row refuses the bundle
  pub bundle_step : (r : BundleRefusal) → told_checked (Err r) ≡ check_of b → refused_by (row_of (refusal.Bundle r)) h ≡ step_of b h reply
  unfolding step_of
  bundle_step r e =
      let k : bundle.refusal_row r ≡ bundle.bundle_row b = ap (λ (c : Contents). c.row) e ∙ check_row b in
      ap (λ (row : bundle.Row). step_by row b h reply) k

  pub refused_step : (packet : List ℕ) (r : StepRefusal) → record { row = row_of r; sent = []; packet = packet; host = h } ≡ step_of b h reply
      → refused_by (row_of r) h ≡ step_of b h reply
  unfolding step_of
  refused_step packet r e =
      let k : row_of r ≡ (step_of b h reply).row = ap (λ (s : Step). s.row) e in
      ap (λ (x : Row). refused_by x h) k ∙ by_row (bundle.bundle_row b) (λ z. refuses r (k ∙ z))
