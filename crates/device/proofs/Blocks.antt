-- A block that the session waits for: checks 1 to 5 let it pass, its bytes are put into the region, and the last one is judged. Assumes nothing.
use Prim.Native.Nat.{ℕ, zero, suc, ◌%◌}
use mathlib.Core.Path.{◌≡◌, refl, ap, ◌∙◌}
use mathlib.Core.Bool.{Bool, true, false, cond}
use mathlib.Core.List.{List}
use native.Mathlib.Omega.{arith}
use borrow.Author.Tests.{eq-eqb}
use lib.Dec.{eqb, eqb-suc-zero}
use lib.ListN.{length, set, take, drop}
use Rattle.wire.specs.Checks.{first_of}
use Rattle.wire.specs.Codes.{success_status, long_size}
use Rattle.wire.specs.declared.version.Version.{Version}
use Rattle.wire_content.specs.Head.{head_in}
use Rattle.wire_content.specs.Reply.{reply_bytes}
use Rattle.wire_content.specs.declared.head.ContentHead.{ContentHead}
use Rattle.image.specs.Region.{is_inside, holds, within, region_bytes, blank, put, erase_of}
use Rattle.image.specs.Judge.{is_right, image_id, image_version, image_in}
use Rattle.image.specs.declared.region.Region.{Region}
use Rattle.std.specs.Prelude.{Ok}
use Rattle.image.proofs.region.Within.{blank_length, within_twice, erase_inside, erase_length, write_inside, inside}
use Rattle.device_component.specs.Lists.{component_at}
use Rattle.device_component.specs.Record.{with_staged}
use Rattle.device_component.specs.Versions.{image_version_fits}
use Rattle.device_component.specs.declared.record.Component.{Component}
use Rattle.std.specs.Prelude.{Some, None}
use Rattle.device.specs.declared.record.Device.{Device}
use Rattle.device_session.specs.declared.stage.Stage.{Stage}
use Rattle.device_session.specs.declared.stage.Stage.TheVariants.{Offered, Receiving}
use Rattle.device.specs.declared.answer.Channel.TheVariants.{Content}
use Rattle.device_receiving.specs.declared.checks.ContentVerdict.TheVariants.{Take}
use Rattle.device_session.specs.Stage.{open_slot, at_token, following}
use Rattle.device_session.specs.Sound.{wrong_previous}
use Rattle.device_session.specs.Effect.{idle, in_stage}
use Rattle.device_receiving.specs.Content as receiving
use Rattle.device_receiving.specs.Content.{is_first, is_last, is_copy, bad_shape, take_block}
use Rattle.device_receiving.specs.Finish.{finish}
use Rattle.device_receiving.specs.Receive.{on_block}
use Rattle.device_receiving.proofs.content.Laws.{kept, packet_held_lem}
use Rattle.device.specs.Record.{with_session, idle_with}
use Rattle.device.specs.Content.{content_verdict, received, content_entry, content_staging}
use Rattle.device.specs.Entries.{serve_entry, serve_staging}
use Rattle.device.specs.Copies.{only_replies}
use Rattle.device.proofs.Calls.{Sound, answered_with, rows_pass}
use Rattle.device.proofs.Copies.{answers_copy}

-- the record with these components in this stage, owing nothing and holding this packet
abbrev pub held : Device → List Component → Stage → (previous : List ℕ) → Device
held d components stage previous = with_session d components (in_stage idle stage previous)

-- the session that waits for block k of an image
abbrev pub awaits : (slot token k : ℕ) → Stage
awaits slot token zero = Offered (record { slot = slot; token = token })
awaits slot token (suc k) = Receiving (record { slot = slot; token = token; next = suc k % 65536 })

-- it is open on the slot, with the token
pub awaits_slot : (slot token k : ℕ) → open_slot (awaits slot token k) ≡ Some slot
awaits_slot slot token zero = refl
awaits_slot slot token (suc k) = refl

-- its token
awaits_token : (slot token k : ℕ) → at_token (awaits slot token k) ≡ token
awaits_token slot token zero = refl
awaits_token slot token (suc k) = refl

-- the packet that it holds has the sequence of the block before; before the first block any will do
abbrev pub Precedes : (k : ℕ) → (previous : List ℕ) → Type 0
Precedes zero previous = Unit {0}
Precedes (suc k) previous = (head_in previous).sequence ≡ k % 65536

-- so that D1 lets it pass
pub awaits_previous : (slot token k : ℕ) (previous : List ℕ) → Precedes k previous → wrong_previous (awaits slot token k) previous ≡ false
awaits_previous slot token zero previous h = refl
awaits_previous slot token (suc k) previous h = rw (eq-eqb (following (head_in previous).sequence) (suc k % 65536) (omega arith))

-- what block k finds in the region: the first finds it erased
abbrev pub ground_of : (k len : ℕ) → List ℕ → List ℕ
ground_of k len l = cond (eqb k 0) (blank len) l

-- block k, as it is read, for a region
pub record Fitting (c : ContentHead) (k : ℕ) (r : Region) : Type 0 where
  pub shape : bad_shape c ≡ false
  pub first : is_first c ≡ eqb k 0
  pub sequence : c.sequence ≡ k % 65536
  pub room : holds r c.address c.length ≡ true

-- a right image of a component bears its version
bears : (m : List ℕ) (id : ℕ) (v : Version) → is_right m ≡ true → image_id m ≡ id → image_version m ≡ v → image_in m id ≡ Ok v
unfolding image_in
bears m id v r i w = rw (r, eq-eqb (image_id m) id i) (ap Ok w)

-- its bytes are put into the region
pub puts : (r : Region) (c : ContentHead) (k : ℕ) (s own bytes : List ℕ) → Fitting c k r → is_inside r (length s) ≡ true
    → take c.length own ≡ bytes → length bytes ≡ c.length
    → take_block r c own s ≡ within r.base.0 r.len (λ (l : List ℕ). put c.address.0 bytes (ground_of k r.len l)) s
unfolding take_block
puts r c zero s own bytes f h e l =
    let h' : is_inside r (length (erase_of r s)) ≡ true = rw (erase_length r s) h in
    let m : holds r c.address (length bytes) ≡ true = rw l f.room in
    rw (f.first, e)
    (write_inside r (erase_of r s) c.address bytes h' m ∙ ap (within r.base.0 r.len (put c.address.0 bytes)) (erase_inside r s h)
    ∙ within_twice r (λ old. blank r.len) s (inside r (length s) h) (blank_length r.len) (put c.address.0 bytes))
puts r c (suc k) s own bytes f h e l =
    let m : holds r c.address (length bytes) ≡ true = rw l f.room in
    rw (f.first, eqb-suc-zero k, e) (write_inside r s c.address bytes h m)

-- a right image: pending with its version
finishes : (x : Component) (s m : List ℕ) (v : Version) → region_bytes x.fixed.region s ≡ m → is_right m ≡ true
    → image_id m ≡ x.fixed.id → image_version m ≡ v → image_version_fits x v ≡ true → finish x s ≡ record { status = success_status; component = with_staged x v }
unfolding finish
finishes x s m v e r i w g = rw (e, bears m x.fixed.id v r i w, g)

module _ (d : Device) (components : List Component) (slot token : ℕ) where
  -- the record whose session waits for block k
  abbrev waiting : ℕ → (previous : List ℕ) → Device
  waiting k previous = held d components (awaits slot token k) previous

  -- the reply to a block that is taken
  abbrev taken : ContentHead → List ℕ
  taken c = reply_bytes (record { sequence = c.sequence; status = success_status })

  -- checks 1 to 5 let it pass, copy or not
  takes : (c : ContentHead) (k : ℕ) (copy : Bool) → Fitting c k (component_at components slot).fixed.region
      → receiving.content_verdict (component_at components slot).fixed.region (awaits slot token k) copy c ≡ Take slot
  unfolding receiving.content_verdict first_of
  takes c zero copy f = simp (f.shape, f.first, f.room)
  takes c (suc k) copy f =
      simp (f.shape, f.first, eqb-suc-zero k, f.sequence, eq-eqb (suc k % 65536) (suc k % 65536) refl, f.room)

  module _ (previous s p : List ℕ) (k : ℕ) where
    -- a block that is not the last: the session waits for the next, and holds this one
    goes_on : length p ≡ long_size → (head_in p).sequence ≡ k % 65536 → is_last (head_in p) ≡ false
        → received (waiting k previous) (on_block (component_at components slot) (waiting k previous).session slot p s) ≡ answered_with (taken (head_in p)) None (waiting (suc k) p)
    unfolding on_block
    goes_on l q h =
        let e : following (head_in p).sequence ≡ suc k % 65536 = omega arith in
        rw (h, e, packet_held_lem p l, awaits_token slot token k, awaits_slot slot token k, kept components slot)

    -- the reply to the last block of a right image
    ends : (m : List ℕ) (v : Version) → is_last (head_in p) ≡ true → region_bytes (component_at components slot).fixed.region s ≡ m → is_right m ≡ true
        → image_id m ≡ (component_at components slot).fixed.id → image_version m ≡ v → image_version_fits (component_at components slot) v ≡ true
        → received (waiting k previous) (on_block (component_at components slot) (waiting k previous).session slot p s)
        ≡ answered_with (taken (head_in p)) None (idle_with d (set components slot (with_staged (component_at components slot) v)))
    unfolding on_block
    ends m v h e r i w g = rw (h, finishes (component_at components slot) s m v e r i w g, awaits_slot slot token k)

  module _ (c : ContentHead) (previous s p : List ℕ) (size : length p ≡ 60) (reads : head_in p ≡ c) (k : ℕ)
      (f : Fitting c k (component_at components slot).fixed.region) (sound : Sound (held d components (awaits slot token k) previous) s) where
    -- the verdict
    verdict : content_verdict (waiting k previous) p ≡ Take slot
    verdict = rw (awaits_slot slot token k, reads) (takes c k (is_copy previous p) f)

    -- the staging buffer afterwards
    pub block_staging : serve_staging (held d components (awaits slot token k) previous) Content s p
        ≡ take_block (component_at components slot).fixed.region c (drop 8 p) s
    unfolding serve_staging content_staging
    block_staging = rw (rows_pass 60 (waiting k previous) s (length p) sound size, verdict, reads, awaits_slot slot token k)

    -- the answer is that of a taken block
    block_taken : serve_entry (waiting k previous) Content s p
        ≡ received (waiting k previous) (on_block (component_at components slot) (waiting k previous).session slot p (take_block (component_at components slot).fixed.region c (drop 8 p) s))
    unfolding serve_entry content_entry
    block_taken = rw (rows_pass 60 (waiting k previous) s (length p) sound size, verdict, reads, awaits_slot slot token k)

    -- a block that is not the last: status 0, and the session waits for the next and holds this one
    pub block_next : is_last c ≡ false
        → serve_entry (held d components (awaits slot token k) previous) Content s p
        ≡ answered_with (reply_bytes (record { sequence = c.sequence; status = success_status })) None (held d components (awaits slot token (suc k)) p)
    block_next h =
        block_taken ∙ goes_on previous _ p k size (ap (λ (x : ContentHead). x.sequence) reads ∙ f.sequence) (ap (λ (x : ContentHead). is_last x) reads ∙ h)
        ∙ ap (λ (x : ContentHead). answered_with (taken x) None (waiting (suc k) p)) reads

    -- the last block of a right image that is not older: status 0, and the component is pending with its version
    pub block_last : (m : List ℕ) (v : Version) → is_last c ≡ true
        → region_bytes (component_at components slot).fixed.region (take_block (component_at components slot).fixed.region c (drop 8 p) s) ≡ m → is_right m ≡ true
        → image_id m ≡ (component_at components slot).fixed.id → image_version m ≡ v → image_version_fits (component_at components slot) v ≡ true
        → serve_entry (held d components (awaits slot token k) previous) Content s p
        ≡ answered_with (reply_bytes (record { sequence = c.sequence; status = success_status })) None
        (idle_with d (set components slot (with_staged (component_at components slot) v)))
    block_last m v h e r i w g =
        block_taken ∙ ends previous _ p k m v (ap (λ (x : ContentHead). is_last x) reads ∙ h) e r i w g
        ∙ ap (λ (x : ContentHead). answered_with (taken x) None (idle_with d (set components slot (with_staged (component_at components slot) v)))) reads

  -- a block, neither first nor last, that was taken just now and is sent again
  module _ (c : ContentHead) (s p : List ℕ) (size : length p ≡ 60) (reads : head_in p ≡ c) (k : ℕ)
      (f : Fitting c k (component_at components slot).fixed.region) (sound : Sound (held d components (awaits slot token (suc k)) p) s)
      (middle : is_first c ≡ false) (more : is_last c ≡ false) where
    -- the session holds its packet
    again : (content_entry (waiting (suc k) p) s p ≡ only_replies (waiting (suc k) p) p success_status) × (content_staging (waiting (suc k) p) s p ≡ s)
    again =
        let q : (head_in p).sequence ≡ k % 65536 = ap (λ (x : ContentHead). x.sequence) reads ∙ f.sequence in
        let e : suc k % 65536 ≡ following (head_in p).sequence = omega arith in
        let stage : awaits slot token (suc k) ≡ Receiving (record { slot = slot; token = token; next = following (head_in p).sequence })
        = ap (λ (n : ℕ). Receiving (record { slot = slot; token = token; next = n })) e in
        answers_copy (waiting (suc k) p) s p slot token sound size stage refl (ap (λ (x : ContentHead). bad_shape x) reads ∙ f.shape)
        (ap (λ (x : ContentHead). is_first x) reads ∙ middle) (ap (λ (x : ContentHead). is_last x) reads ∙ more) (omega arith)

    -- the same reply, and the same record
    pub block_again : serve_entry (held d components (awaits slot token (suc k)) p) Content s p
        ≡ answered_with (reply_bytes (record { sequence = c.sequence; status = success_status })) None (held d components (awaits slot token (suc k)) p)
    unfolding serve_entry
    block_again = again.0 ∙ ap (λ (x : ContentHead). answered_with (taken x) None (waiting (suc k) p)) reads

    -- and the same staging buffer
    pub again_staging : serve_staging (held d components (awaits slot token (suc k)) p) Content s p ≡ s
    unfolding serve_staging
    again_staging = again.1
