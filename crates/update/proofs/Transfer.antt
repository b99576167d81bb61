-- The transmission of a body: from its first block on its way to an idle session, with the image in the region and the offered version pending. Assumes
-- nothing.
use Prim.Native.Nat.{ℕ, zero, suc, ◌+◌, ◌-◌, ◌^◌, ◌≤◌, ◌<◌}
use mathlib.Core.Path.{◌≡◌, refl, sym, ap, subst, ◌∙◌}
use mathlib.Core.Bool.{Bool, true, false, ◌&&◌}
use mathlib.Core.List.{List, [], ◌∷◌, ◌++◌, append_assoc}
use native.Mathlib.Numerals.{add-one}
use native.Mathlib.Omega.{arith}
use borrow.Author.Tests.{eq-eqb, ne_eqb, not-true}
use lib.Dec.{eqb, eqb-suc-zero}
use lib.ListN.{length, get_or, set, drop}
use Rattle.wire.specs.Codes.{success_status}
use Rattle.wire.specs.declared.version.Version.{Version}
use Rattle.wire.proofs.Tests.{both, neither}
use Rattle.wire_content.specs.Head.{head_in}
use Rattle.wire_content.specs.Reply.{reply_bytes}
use Rattle.bundle_records.specs.Record.{Block}
use Rattle.image.specs.Region.{within, region_bytes, blank, put}
use Rattle.image.specs.Judge.{is_right, image_id, image_version}
use Rattle.image.specs.declared.region.Region.{Region}
use Rattle.image.proofs.region.Within.{region_length, blank_length, put_length, within_same, within_length, within_own, within_twice, lies_inside}
use Rattle.device_component.specs.Lists.{component_at}
use Rattle.device_component.specs.Record.{with_staged}
use Rattle.device_component.specs.Versions.{image_version_fits}
use Rattle.device_component.specs.declared.record.Component.{Component}
use Rattle.bundle_layout.specs.Layout.{count_in}
use Rattle.bundle.proofs.Accepted.{Accepted, Carried}
use Rattle.update_passes.proofs.Tests.{or_true}
use Rattle.device_session.specs.Effect.{blank_packet}
use Rattle.std.specs.Prelude.{None}
use Rattle.device_receiving.specs.Content.{take_block}
use Rattle.device.specs.Record.{idle_with}
use Rattle.device.specs.Refusals.{breaks_d1}
use Rattle.device.specs.declared.record.Device.{Device}
use Rattle.device.specs.declared.answer.Channel.TheVariants.{Content}
use Rattle.device_session.proofs.sound.Laws.{passes, staging_most}
use Rattle.device.proofs.Calls.{Sound, Answered, answered_with, answers_block}
use Rattle.device.proofs.Blocks.{held, awaits, ground_of, Fitting, puts, block_staging, block_next, block_last, block_again, again_staging}
use Rattle.host_record.specs.Record.{sequence_of, with_bit}
use Rattle.host_decide.specs.Decide.{goes_on, decide_of}
use Rattle.host.specs.Step.{entry_at, blocks_at, is_last, no_block, block_at, block_packet, moved, packet_of}
use Rattle.host_record.specs.declared.record.Host.{Host}
use Rattle.host_record.specs.declared.record.HostStage.TheVariants.{Sending}
use Rattle.host_record.specs.declared.record.Place.{Place}
use Rattle.host_decide.specs.declared.Move.{Move}
use Rattle.host_decide.proofs.Heard.{hears_taken, hears_again}
use Rattle.update.specs.Trace.{Exchange}
use Rattle.update.specs.Run.{System, Schedule, is_middle, channel_of, answer_to, left_by}
use Rattle.update.specs.Claim.{writes, image_of, Inside}
use Rattle.update.proofs.Leads.{said, arriving, copies, Arrives, arrives_once, Serves, serves_plain, Goes, Leads, leads_none, leads_step, leads_then, turn, pass}
use Rattle.update.proofs.Packets.{block_length}
use Rattle.update.proofs.Sent.{head_at, block_reads, block_data, block_fits, block_is_last, block_middle}
use Rattle.update.proofs.Turns.{host_as, turning, turn_packet, turn_stage, turn_sent, turn_host, turn_plain, turn_serves}

-- what a list says of its rest
drop_length : (l : List Block) (k : ℕ) (x : Block) (xs : List Block) → drop k l ≡ x ∷ xs → length l ≡ k + suc (length xs)
drop_length [] zero x xs e = omega (arith, ap length e)
drop_length [] (suc k) x xs e = omega (arith, ap length e)
drop_length (a ∷ l) zero x xs e = omega (arith, ap length e)
drop_length (a ∷ l) (suc k) x xs e = omega (arith, drop_length l k x xs e)

-- its first member is the one at that place
drop_get : (l : List Block) (k : ℕ) (x : Block) (xs : List Block) → drop k l ≡ x ∷ xs → get_or l k no_block ≡ x
drop_get [] zero x xs e = cc
drop_get [] (suc k) x xs e = cc
drop_get (a ∷ l) zero x xs e = cc
drop_get (a ∷ l) (suc k) x xs e = drop_get l k x xs e

-- the rest starts one place on
drop_rest : (l : List Block) (k : ℕ) (x : Block) (xs : List Block) → drop k l ≡ x ∷ xs → drop (suc k) l ≡ xs
drop_rest [] zero x xs e = cc
drop_rest [] (suc k) x xs e = cc
drop_rest (a ∷ l) zero x xs e = cc
drop_rest (a ∷ l) (suc k) x xs e = drop_rest l k x xs e

module _ (b : List ℕ) (twice : Schedule) (α : Accepted b) (t : ℕ) (small : t < 256) (d : Device) (ps : List Component) (slot e : ℕ) (l : e < count_in b) where
  -- the region of the slot
  abbrev r : Region
  r = (component_at ps slot).fixed.region

  -- block k of the body
  abbrev pub spot : ℕ → Place
  spot k = record { entry = e; block = k }

  -- the packet that the session holds while it waits for block k
  abbrev pub before : ℕ → List ℕ
  before zero = blank_packet
  before (suc k) = block_packet b (spot k)

  -- the device whose session waits for it
  abbrev pub waits : ℕ → Device
  waits k = held d ps (awaits slot t k) (before k)

  -- the buffer after block k, if it is x
  abbrev next : (k : ℕ) → Block → List ℕ → List ℕ
  next k x s = within r.base.0 r.len (λ (o : List ℕ). put x.address.0 x.bytes (ground_of k r.len o)) s

  -- block k is taken
  abbrev taken : ℕ → List ℕ
  taken k = reply_bytes (record { sequence = sequence_of k; status = success_status })

  -- j blocks from number k on, each taken
  unfoldable pub contents : (k j : ℕ) → List Exchange
  contents k zero = []
  contents k (suc j) = said (block_packet b (spot k)) (taken k) ∷ contents (suc k) j

  -- as many exchanges as blocks
  pub contents_length : (k j : ℕ) → length (contents k j) ≡ j
  unfolding contents
  contents_length k zero = refl
  contents_length k (suc j) = ap suc (contents_length (suc k) j)

  -- what is known of the slot: its region is one of the buffer, and D1 lets the session pass
  pub record Opens : Type 0 where
    pub len : (component_at ps slot).fixed.region.len < 256 ^ 4
    pub room : (component_at ps slot).fixed.region.base.0 + (component_at ps slot).fixed.region.len ≤ d.staging_len
    pub d1 : (k : ℕ) → breaks_d1 (held d ps (awaits slot t k) (before k)) ≡ false

  module _ (o : Opens) (m q : ℕ) (sk la : Bool) where
    -- block k arrives twice, sent after this list
    abbrev doubled : (k : ℕ) → List Exchange → Bool
    doubled k trace = is_middle (block_packet b (spot k)) && twice (length trace)

    -- the host that awaits its reply, after one was passed over or not
    abbrev host : (passed : Bool) → (k packets : ℕ) → Host
    host passed k p = host_as t (Sending (record { place = spot k; passed = passed })) m p q sk la

    -- block k arrives, with these replies on their way
    abbrev pub blocking : (passed : Bool) → (k packets : ℕ) → (s : List ℕ) → (replies : List (List ℕ)) → List Exchange → System
    blocking passed k p s replies trace = arriving (doubled k trace) (block_packet b (spot k)) (host passed k p) (waits k) s replies trace

    module _ (k : ℕ) (i : k < length (blocks_at b e)) (s : List ℕ) (d2 : length s ≡ d.staging_len) where
      -- D1 and D2 let the block pass
      sound : Sound (waits k) s
      sound = record { d1 = o.d1 k; d2 = d2 }

      -- it is 60 bytes long
      size : length (block_packet b (spot k)) ≡ 60
      size = block_length b α (spot k) l i

      -- so it goes to the content entry
      to_content : channel_of (block_packet b (spot k)) ≡ Content
      to_content = rw (ne_eqb (length (block_packet b (spot k))) 16 (λ w. omega (arith, size)))

      -- and is answered
      block_answered : Answered (answer_to (block_packet b (spot k)) (waits k) s)
      block_answered = rw to_content (answers_block (waits k) s (block_packet b (spot k)) sound refl size)

      -- the first is no middle one
      first_plain : k ≡ 0 → is_middle (block_packet b (spot k)) ≡ false
      first_plain z = block_middle b (spot k) size ∙ rw (eq-eqb k 0 z)

      -- so it is served
      pub first_serves : k ≡ 0 → Serves b twice (block_packet b (spot k)) (waits k) s
      first_serves z = serves_plain b twice (first_plain z) block_answered

      -- what is a middle one
      module _ (middle : is_middle (block_packet b (spot k)) ≡ true) where
        apart : (eqb k 0 ≡ false) × (is_last b (spot k) ≡ false)
        apart = neither (eqb k 0) (is_last b (spot k)) (not-true _ (sym (block_middle b (spot k) size) ∙ middle))

      module _ (inside : (block_at b (spot k)).address.0 + length (block_at b (spot k)).bytes ≤ r.len) (s' : List ℕ)
          (becomes : next k (block_at b (spot k)) s ≡ s') where
        -- its record has 1 to 52 bytes
        carried : Carried (block_at b (spot k))
        carried = (α.carries (entry_at b e)).each k no_block i

        -- it fits the session and the region
        fits : Fitting (head_at b (spot k)) k r
        fits = block_fits b (spot k) r carried.some carried.few inside

        -- it is read as it was built
        reads : head_in (block_packet b (spot k)) ≡ head_at b (spot k)
        reads = block_reads b (spot k) (omega (arith, o.len))

        -- its data is put into the region
        puts_it : take_block r (head_at b (spot k)) (drop 8 (block_packet b (spot k))) s ≡ s'
        puts_it =
            puts r (head_at b (spot k)) k s (drop 8 (block_packet b (spot k))) (block_at b (spot k)).bytes fits
            (lies_inside r (length s) (omega (arith, o.room)) (omega (arith, staging_most (passes (o.d1 k))))) (block_data b (spot k)) refl
            ∙ becomes

        -- so the buffer is s' afterwards
        staging_is : left_by (block_packet b (spot k)) (waits k) s ≡ s'
        staging_is =
            rw to_content
            (block_staging d ps slot t (head_at b (spot k)) (before k) s (block_packet b (spot k)) size reads k fits sound ∙ puts_it)

        -- a block that is not the last is answered, and the session waits for the next
        answer_is : is_last b (spot k) ≡ false → answer_to (block_packet b (spot k)) (waits k) s ≡ answered_with (taken k) None (waits (suc k))
        answer_is z =
            rw to_content
            (block_next d ps slot t (head_at b (spot k)) (before k) s (block_packet b (spot k)) size reads k fits sound (block_is_last b (spot k) ∙ z))

        -- the buffer keeps its length
        module _ (d2' : length s' ≡ d.staging_len) where
          -- D1 and D2 let its copy pass
          sound_again : Sound (waits (suc k)) s'
          sound_again = record { d1 = o.d1 (suc k); d2 = d2' }

          -- its copy gets the same reply, and changes nothing
          copy_is : is_middle (block_packet b (spot k)) ≡ true
              → (answer_to (block_packet b (spot k)) (waits (suc k)) s' ≡ answered_with (taken k) None (waits (suc k)))
              × (left_by (block_packet b (spot k)) (waits (suc k)) s' ≡ s')
          copy_is z =
              let a = apart z in
              let f = fits.first ∙ a.0 in
              let n = block_is_last b (spot k) ∙ a.1 in (
                rw to_content (block_again d ps slot t (head_at b (spot k)) s' (block_packet b (spot k)) size reads k fits sound_again f n),
                rw to_content (again_staging d ps slot t (head_at b (spot k)) s' (block_packet b (spot k)) size reads k fits sound_again f n),
              )

          -- it arrives, once or twice
          block_arrives : (trace : List Exchange) → is_last b (spot k) ≡ false
              → Arrives (doubled k trace) (block_packet b (spot k)) (waits k) (waits (suc k)) s s' (taken k)
          block_arrives trace z = record {
            answer = answer_is z;
            bytes = staging_is;
            copy = λ w. copy_is (both (is_middle (block_packet b (spot k))) _ w).0;
          }

          -- so it is served
          block_serves : Serves b twice (block_packet b (spot k)) (waits k) s
          block_serves = record {
            answered = block_answered;
            repeats = λ z. let a = answer_is (apart z).1 in let w = copy_is z in
                record { answer = rw (a, staging_is) w.0; bytes = rw (a, staging_is) w.1 };
          }

        -- the answer to a block
        heard_by : (passed : Bool) (p : ℕ) (x : Bool) → is_last b (spot k) ≡ x
            → decide_of (count_in b) (is_last b (spot k)) (host passed k p) (taken k) ≡ goes_on (count_in b) x (spot k) (host passed k p)
        heard_by passed p x z =
            hears_taken (count_in b) (is_last b (spot k)) (host passed k p) (record { place = spot k; passed = passed })
            ∙ ap (λ (y : Bool). goes_on (count_in b) y (spot k) (host passed k p)) z

        -- a block that is not the last
        x_mid : (passed : Bool) (p : ℕ) (trace : List Exchange) → length s' ≡ d.staging_len → is_last b (spot k) ≡ false
            → Serves b twice (block_packet b (spot (suc k))) (waits (suc k)) s'
            → Goes b twice (blocking passed k p s [] trace)
            (blocking false (suc k) (p + 1) s' (copies (doubled k trace) (taken k)) (trace ++ (said (block_packet b (spot k)) (taken k) ∷ [])))
        unfolding packet_of
        x_mid passed p trace d2' z f =
            turn b twice (doubled k trace) _ (block_packet b (spot k)) (block_packet b (spot (suc k))) (host passed k p) (host false (suc k) (p + 1))
            (waits k) (waits (suc k)) s s' (taken k) trace (block_arrives d2' trace z) refl
            (ap (λ (x : Move). (moved b x).sent) (heard_by passed p false z) ∙ ap (λ (n : ℕ). block_packet b (spot n) ∷ []) (add-one k))
            (ap (λ (x : Move). x.host) (heard_by passed p false z) ∙ ap (λ (n : ℕ). host false n (p + 1)) (add-one k))
            refl f

        -- the last block of a right image
        x_last : (passed : Bool) (p : ℕ) (trace : List Exchange) (img : List ℕ) (v : Version) → is_last b (spot k) ≡ true → region_bytes r s' ≡ img → is_right img ≡ true
            → image_id img ≡ (component_at ps slot).fixed.id → image_version img ≡ v → image_version_fits (component_at ps slot) v ≡ true
            → Sound (idle_with d (set ps slot (with_staged (component_at ps slot) v))) s'
            → Goes b twice (blocking passed k p s [] trace)
            (turning b twice α t small d (suc e) (with_bit m e) (p + 1) q sk true (set ps slot (with_staged (component_at ps slot) v)) s' (trace ++ (said (block_packet b (spot k)) (taken k) ∷ [])))
        x_last passed p trace img v z w right id version new sound' =
            let plain : is_middle (block_packet b (spot k)) ≡ false = block_middle b (spot k) size ∙ rw (z, or_true (eqb k 0)) in
            rw plain
            (turn b twice false false (block_packet b (spot k)) (turn_packet b twice α t small (suc e)) (host passed k p)
            (host_as t (turn_stage b twice α t small (suc e)) (with_bit m e) (p + 1) q sk true)
            (waits k) (idle_with d (set ps slot (with_staged (component_at ps slot) v))) s s' (taken k) trace
            (arrives_once
            (rw to_content
            (block_last d ps slot t (head_at b (spot k)) (before k) s (block_packet b (spot k)) size reads k fits sound img v (block_is_last b (spot k) ∙ z) (ap (region_bytes r) puts_it ∙ w) right id version new))
            staging_is)
            refl
            (ap (λ (x : Move). (moved b x).sent) (heard_by passed p true z) ∙ turn_sent b twice α t small (e + 1) (Sending (record { place = spot k; passed = passed })) (with_bit m e) p q sk true
            ∙ ap (λ (n : ℕ). turn_packet b twice α t small n ∷ []) (add-one e))
            (ap (λ (x : Move). x.host) (heard_by passed p true z) ∙ turn_host b twice α t small (e + 1) (Sending (record { place = spot k; passed = passed })) (with_bit m e) p q sk true
            ∙ ap (λ (n : ℕ). host_as t (turn_stage b twice α t small n) (with_bit m e) (p + 1) q sk true) (add-one e))
            (rw (turn_plain b twice α t small (suc e)))
            (turn_serves b twice α t small (suc e) (idle_with d (set ps slot (with_staged (component_at ps slot) v))) s' sound'))

    -- the region before a block, and after it
    ground_length : (k : ℕ) (s : List ℕ) → length s ≡ d.staging_len → length (ground_of k r.len (region_bytes r s)) ≡ r.len
    ground_length zero s d2 = blank_length r.len
    ground_length (suc k) s d2 = rw (eqb-suc-zero k) (region_length r s (omega (arith, o.room)))

    -- a block leaves the region its length
    kept : (k : ℕ) (x : Block) (s : List ℕ) → length s ≡ d.staging_len → x.address.0 + length x.bytes ≤ r.len
        → length (put x.address.0 x.bytes (ground_of k r.len (region_bytes r s))) ≡ r.len
    kept k x s d2 inside =
        let g = ground_length k s d2 in
        put_length x.address.0 x.bytes (ground_of k r.len (region_bytes r s)) (omega arith) ∙ g

    -- and the buffer its
    next_length : (k : ℕ) (x : Block) (s : List ℕ) → length s ≡ d.staging_len → x.address.0 + length x.bytes ≤ r.len → length (next k x s) ≡ d.staging_len
    next_length k x s d2 inside =
        within_length r (λ (old : List ℕ). put x.address.0 x.bytes (ground_of k r.len old)) s (omega (arith, o.room)) (kept k x s d2 inside) ∙ d2

    -- what the copy of the block before left on its way is passed over
    settle : (c : Bool) (k p : ℕ) (s : List ℕ) (trace : List Exchange)
        → Leads b twice (blocking false (suc k) p s (copies c (taken k)) trace) (blocking c (suc k) p s [] trace)
    unfolding packet_of
    settle false k p s trace = leads_none b twice _
    settle true k p s trace =
        let one_less : suc k - 1 ≡ k = omega arith in
        let g = rw one_less at (hears_again (count_in b) (is_last b (spot (suc k))) (host false (suc k) p) (spot (suc k)) (omega arith)) in
        leads_step b twice
        (pass b twice (doubled (suc k) trace) (block_packet b (spot (suc k))) (host false (suc k) p) (host true (suc k) p) (waits (suc k)) s (taken k) trace refl
        (ap (λ (x : Move). (moved b x).sent) g) (ap (λ (x : Move). x.host) g) refl)
        (leads_none b twice _)

    -- a right image for the slot, which leaves a device that D1 lets pass
    pub record Right (img : List ℕ) (v : Version) : Type 0 where
      pub size : length img ≡ (component_at ps slot).fixed.region.len
      pub crc : is_right img ≡ true
      pub id : image_id img ≡ (component_at ps slot).fixed.id
      pub version : image_version img ≡ v
      pub new : image_version_fits (component_at ps slot) v ≡ true
      pub d1 : breaks_d1 (idle_with d (set ps slot (with_staged (component_at ps slot) v))) ≡ false

    module _ (img : List ℕ) (v : Version) (right : Right img v) where
      -- the session is over, with the image in the region
      abbrev done : (packets : ℕ) → (s : List ℕ) → List Exchange → System
      done p s trace =
          turning b twice α t small d (suc e) (with_bit m e) p q sk true (set ps slot (with_staged (component_at ps slot) v))
          (within r.base.0 r.len (λ (old : List ℕ). img) s) trace

      -- the last block
      last_one : (passed : Bool) (x : Block) (k p p' : ℕ) (s : List ℕ) (trace : List Exchange) → drop k (blocks_at b e) ≡ x ∷ [] → x.address.0 + length x.bytes ≤ r.len
          → length s ≡ d.staging_len → put x.address.0 x.bytes (ground_of k r.len (region_bytes r s)) ≡ img → p + 1 ≡ p'
          → Leads b twice (blocking passed k p s [] trace) (done p' s (trace ++ (said (block_packet b (spot k)) (taken k) ∷ [])))
      last_one passed x k p p' s trace z inside d2 w c =
          let y = drop_get (blocks_at b e) k x [] z in
          let n = drop_length (blocks_at b e) k x [] z in
          let f : List ℕ → List ℕ = λ (old : List ℕ). put x.address.0 x.bytes (ground_of k r.len old) in
          let room : r.base.0 + r.len ≤ length s = omega (arith, o.room) in
          let s' : List ℕ = within r.base.0 r.len (λ (old : List ℕ). img) s in
          subst (λ (i : ℕ). Leads b twice (blocking passed k p s [] trace) (done i s (trace ++ (said (block_packet b (spot k)) (taken k) ∷ [])))) c
          (leads_step b twice
          (x_last k (omega arith) s d2 (rw y inside) s' (ap (λ (u : Block). next k u s) y ∙ within_same r f (λ (old : List ℕ). img) s w)
          passed p trace img v (eq-eqb (k + 1) (length (blocks_at b e)) (omega arith)) (within_own r (λ (old : List ℕ). img) s room right.size)
          right.crc right.id right.version right.new
          (record { d1 = right.d1; d2 = within_length r (λ (old : List ℕ). img) s room right.size ∙ d2 }))
          (leads_none b twice _))

      -- a block with others after it, of which the next is x'
      one_more : (passed : Bool) (x x' : Block) (k p p' j : ℕ) (s : List ℕ) (trace : List Exchange) → suc k < length (blocks_at b e) → get_or (blocks_at b e) k no_block ≡ x
          → x.address.0 + length x.bytes ≤ r.len → get_or (blocks_at b e) (suc k) no_block ≡ x' → x'.address.0 + length x'.bytes ≤ r.len
          → length s ≡ d.staging_len
          → ((passed' : Bool) → Leads b twice (blocking passed' (suc k) (p + 1) (next k x s) [] (trace ++ (said (block_packet b (spot k)) (taken k) ∷ [])))
          (done p' (next k x s) ((trace ++ (said (block_packet b (spot k)) (taken k) ∷ [])) ++ contents (suc k) j)))
          → Leads b twice (blocking passed k p s [] trace) (done p' s (trace ++ contents k (suc j)))
      unfolding contents
      one_more passed x x' k p p' j s trace more y inside y' inside' d2 rest =
          let f : List ℕ → List ℕ = λ (old : List ℕ). put x.address.0 x.bytes (ground_of k r.len old) in
          let room : r.base.0 + r.len ≤ length s = omega (arith, o.room) in
          let now = kept k x s d2 inside in
          let d2' : length (next k x s) ≡ d.staging_len = next_length k x s d2 inside in
          let more-trace = trace ++ (said (block_packet b (spot k)) (taken k) ∷ []) in
          let copied = doubled k trace in
          leads_step b twice
          (x_mid k (omega arith) s d2 (rw y inside) (next k x s) (ap (λ (u : Block). next k u s) y)
          passed p trace d2' (ne_eqb (k + 1) (length (blocks_at b e)) (λ u. omega arith))
          (block_serves (suc k) more (next k x s) d2' (rw y' inside') (next (suc k) x' (next k x s)) (ap (λ (u : Block). next (suc k) u (next k x s)) y')
          (next_length (suc k) x' (next k x s) d2' inside')))
          (leads_then b twice (settle copied k (p + 1) (next k x s) more-trace)
          (subst (λ (u : List ℕ). Leads b twice (blocking copied (suc k) (p + 1) (next k x s) [] more-trace) (turning b twice α t small d (suc e) (with_bit m e) p' q sk true (set ps slot (with_staged (component_at ps slot) v)) u (trace ++ (said (block_packet b (spot k)) (taken k) ∷ contents (suc k) j))))
          (within_twice r f s room now (λ (old : List ℕ). img))
          (subst (λ (u : List Exchange). Leads b twice (blocking copied (suc k) (p + 1) (next k x s) [] more-trace) (done p' (next k x s) u))
          (append_assoc trace (said (block_packet b (spot k)) (taken k) ∷ []) (contents (suc k) j)) (rest copied))))

      -- the region that the next block finds
      found_next : (x : Block) (xs : List Block) (k : ℕ) (s : List ℕ) → x.address.0 + length x.bytes ≤ r.len → length s ≡ d.staging_len
          → writes (put x.address.0 x.bytes (ground_of k r.len (region_bytes r s))) xs ≡ img
          → writes (ground_of (suc k) r.len (region_bytes r (next k x s))) xs ≡ img
      found_next x xs k s inside d2 w =
          let f : List ℕ → List ℕ = λ (old : List ℕ). put x.address.0 x.bytes (ground_of k r.len old) in
          let room : r.base.0 + r.len ≤ length s = omega (arith, o.room) in
          rw (eqb-suc-zero k, within_own r f s room (kept k x s d2 inside)) w

      -- the blocks from number k on
      transfer : (passed : Bool) (x : Block) (xs : List Block) (k p p' : ℕ) (s : List ℕ) (trace : List Exchange) → drop k (blocks_at b e) ≡ x ∷ xs → Inside r.len (x ∷ xs)
          → length s ≡ d.staging_len → writes (ground_of k r.len (region_bytes r s)) (x ∷ xs) ≡ img → p + suc (length xs) ≡ p'
          → Leads b twice (blocking passed k p s [] trace) (done p' s (trace ++ contents k (suc (length xs))))
      unfolding writes contents
      transfer passed x [] k p p' s trace z inside d2 w c = last_one passed x k p p' s trace z inside.0 d2 w c
      transfer passed x (x' ∷ xs) k p p' s trace z inside d2 w c =
          let rest = drop_rest (blocks_at b e) k x (x' ∷ xs) z in
          one_more passed x x' k p p' (suc (length xs)) s trace (omega (arith, drop_length (blocks_at b e) k x (x' ∷ xs) z)) (drop_get (blocks_at b e) k x (x' ∷ xs) z) inside.0
          (drop_get (blocks_at b e) (suc k) x' xs rest) inside.1.0 d2
          (λ passed'. transfer passed' x' xs (suc k) (p + 1) p' (next k x s) (trace ++ (said (block_packet b (spot k)) (taken k) ∷ [])) rest inside.1
          (next_length k x s d2 inside.0) (found_next x (x' ∷ xs) k s inside.0 d2 w) (omega arith))

      -- a body, from its first block on its way: the image is in the region, and all else of the buffer is as it was
      pub transmits : (p p' : ℕ) (s : List ℕ) (trace : List Exchange) → 1 ≤ length (blocks_at b e) → Inside (component_at ps slot).fixed.region.len (blocks_at b e)
          → length s ≡ d.staging_len → image_of (component_at ps slot).fixed.region.len (blocks_at b e) ≡ img → p + length (blocks_at b e) ≡ p'
          → Leads b twice (blocking false 0 p s [] trace) (done p' s (trace ++ contents 0 (length (blocks_at b e))))
      unfolding image_of
      transmits p p' s trace some inside d2 w c = go (blocks_at b e) refl inside w c
        where
          go : (xs : List Block) → blocks_at b e ≡ xs → Inside r.len xs → writes (blank r.len) xs ≡ img → p + length xs ≡ p'
              → Leads b twice (blocking false 0 p s [] trace) (done p' s (trace ++ contents 0 (length (blocks_at b e))))
          go [] z i u n = absurd (omega (arith, ap length z))
          go (x ∷ xs) z i u n =
              subst (λ (j : ℕ). Leads b twice (blocking false 0 p s [] trace) (done p' s (trace ++ contents 0 j))) (sym (ap length z))
              (transfer false x xs 0 p p' s trace z i d2 u n)
