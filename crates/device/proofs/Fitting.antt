-- The values of a record stay those of its type. Assumes nothing.
use mathlib.Core.Path.{◌≡◌, refl, sym, ap, ◌∙◌}
use mathlib.Core.Bool.{Bool, true, false, cond}
use mathlib.Core.List.{List, map}
use Prim.Native.Nat.{ℕ, zero, suc, ◌<◌, ◌^◌}
use native.Mathlib.Omega.{arith}
use lib.Dec.{eqb}
use lib.ListN.{length, get_or, drop, length-set, length-map, replicate}
use Rattle.wire.specs.Bytes.{Bytes}
use Rattle.wire.specs.Codes.{component_limit}
use Rattle.wire.specs.declared.version.Version.{Version}
use Rattle.wire_offer.specs.Offer as offers
use Rattle.wire_content.specs.Head.{head_in}
use Rattle.wire_content.specs.declared.head.ContentHead.{ContentHead}
use Rattle.image.specs.Region.{region_bytes}
use Rattle.image.specs.Judge.{image_version, image_id, is_right, image_in}
use Rattle.image.specs.declared.judge.ImageFault.TheVariants.{Damaged, Foreign}
use Rattle.std.specs.Prelude.{Ok, Err}
use Rattle.image.specs.declared.region.Region.{Region}
use Rattle.device_component.specs.Record.{FitsStaged, FitsComponent, effective, listed, with_staged, after_reset, blank_component}
use Rattle.device_component.specs.Lists.{component_at}
use Rattle.device_component.specs.Setup.{SetupVerdict, row_of, setup_verdict}
use Rattle.device_component.specs.declared.record.Component.{Component}
use Rattle.std.specs.Prelude.{Option, Some, None, Ok, Err}
use Rattle.device_slots.specs.Slots.{reset_components}
use Rattle.device_session.specs.Stage.{FitsStage, open_slot, at_token}
use Rattle.device_session.specs.Effect.{FitsSession}
use Rattle.device_receiving.specs.Content.{is_first, take_block}
use Rattle.device.specs.Entries.{new_device, set_up_by, set_up_of, Reset, reset_entry}
use Rattle.wire.specs.Version.{FitsVersion}
use Rattle.device.specs.declared.record.Device.{Device}
use Rattle.device_session.specs.declared.effect.Session.{Session}
use Rattle.device_session.proofs.effect.Laws as session
use Rattle.device_session.proofs.effect.Laws.{idle_fits, stage_fits, owing_fits}
use Rattle.device_receiving.proofs.content.Laws.{held_fits}
use Rattle.device_session.specs.declared.stage.Stage.{Stage}
use Rattle.device_session.specs.declared.stage.Stage.TheVariants.{Idle, Offered, Receiving}
use Rattle.device.specs.declared.answer.Channel.{Channel}
use Rattle.device.specs.Record.{FitsDevice, component, with_session, blank_device}
use Rattle.device.specs.Refusals.{breaks_d1}
use Rattle.device.specs.Promises.{SetUpFits, ResetKeepsFits, ServeKeepsFits}
use Rattle.wire.proofs.Bounds.{first_bytes, rest_bytes, version_fits}
use Rattle.wire.proofs.Chain.{either}
use Rattle.device_component.proofs.record.Fits.{blank_fits}
use Rattle.device_component.proofs.list.Laws.{find_at}
use Rattle.device_component.proofs.setup.Laws.{seen, fine_staging}
use Rattle.device.proofs.Lists.{reset_seen, each_set, each_front}
use Rattle.device.proofs.Bytes.{region_bytes_lem, erase_bytes, write_bytes}
use Rattle.device.proofs.Moves.{Move, stays, idles, opens, owes, goes, stages, serve_moves}

-- the record with other components and another session
fits_with : (d : Device) → FitsDevice d → (components : List Component) → length components ≡ component_limit → ((k : ℕ) → FitsComponent (component_at components k))
    → (s : Session) → FitsSession s → FitsDevice (with_session d components s)
fits_with d f components l e s h =
    record { platform = f.platform; staging = f.staging; count = f.count; slots = l; each = e; session = h }

slot_fits : (s : Stage) (k : ℕ) → FitsStage s → open_slot s ≡ Some k → k < 256
slot_fits Idle k f e = let z : ◌≡◌ {A = ℕ} 0 1 = cc in absurd (omega arith)
slot_fits (Offered o) k f e = let q : o.slot ≡ k = cc in omega arith
slot_fits (Receiving r) k f e = let q : r.slot ≡ k = cc in omega arith

token_fits : (s : Stage) → FitsStage s → at_token s < 256
token_fits Idle f = omega arith
token_fits (Offered o) f = f.1
token_fits (Receiving r) f = f.1

-- the version that an image bears is the one that it holds
bears : (m : List ℕ) (id : ℕ) (v : Version) → image_in m id ≡ Ok v → v ≡ image_version m
unfolding image_in
bears m id v e = go (is_right m) (eqb (image_id m) id) e where
  go : (a b : Bool) → cond a (cond b (Ok (image_version m)) (Err Foreign)) (Err Damaged) ≡ Ok v → v ≡ image_version m
  go true true h = cc
  go true false h = let z : ◌≡◌ {A = ℕ} 0 1 = cc in absurd (omega arith)
  go false b h = let z : ◌≡◌ {A = ℕ} 0 1 = cc in absurd (omega arith)

-- the staging buffer holds bytes after a block too
block_bytes_lem : (r : Region) (c : ContentHead) (bytes s : List ℕ) → Bytes bytes → Bytes s → Bytes (take_block r c bytes s)
unfolding take_block
block_bytes_lem r c bytes s h b =
    write_bytes r _ (either Bytes (is_first c) _ _ (erase_bytes r s b) b) _ _ (first_bytes c.length bytes h)

-- each of the six moves keeps the values
move_fits : {d : Device} {channel : Channel} {staging report : List ℕ} {d' : Device} → FitsDevice d → Bytes report → Bytes staging → Move d channel staging report d' → FitsDevice d'
unfolding offers.fields_in
move_fits f h b stays = f
move_fits {d} f h b idles = fits_with d f d.components f.slots f.each _ idle_fits
move_fits {d} {report = report} f h b (opens k a q) =
    let m = (find_at _ d.count d.components k a.component).0 in
    fits_with d f d.components f.slots f.each _ (stage_fits d.session _ _ f.session (omega (arith, f.count), h 3) session.blank_fits)
move_fits {d} f h b (owes e) = fits_with d f d.components f.slots f.each _ (owing_fits d.session _ f.session (h 3))
move_fits {d} {report = report} f h b (goes k e l) =
    let s = f.session.stage in
    fits_with d f d.components f.slots f.each _
    (stage_fits d.session _ _ f.session (slot_fits d.session.stage k s e, token_fits d.session.stage s, omega arith) (held_fits report h))
move_fits {d} {staging = staging} {report = report} f h b (stages k e v q w) =
    let c = f.each k in
    let r = (component d k).fixed.region in
    let after = take_block r (head_in report) (drop 8 report) staging in
    let n : v.0 < 256 ^ 4 = rw (bears (region_bytes r after) _ v q) (version_fits 0 (region_bytes r after) (region_bytes_lem r after (block_bytes_lem r (head_in report) (drop 8 report) staging (rest_bytes 8 report h) b))) in
    let g : FitsComponent (with_staged (component d k) v) = record { fixed = c.fixed; running = c.running; staged = n } in
    fits_with d f _ (length-set d.components k _ ∙ f.slots) (each_set FitsComponent d.components k _ blank_component g f.each) _ idle_fits

pub serve_keeps_fits : ServeKeepsFits
serve_keeps_fits d channel staging report f h b = move_fits f h b (serve_moves d staging report channel)

-- a list of one value holds it at every place
all_same : {A : Type 0} (n i : ℕ) (a : A) → get_or (replicate n a) i a ≡ a
all_same zero i a = refl
all_same (suc n) zero a = refl
all_same (suc n) (suc i) a = all_same n i a

-- the values of the blank record
blank_device_fits : FitsDevice blank_device
blank_device_fits = record {
  platform = omega arith;
  staging = omega arith;
  count = omega arith;
  slots = refl;
  each = λ k. rw (all_same component_limit k blank_component) blank_fits;
  session = idle_fits;
}

pub set_up_fits : SetUpFits
unfolding set_up_of
set_up_fits platform list count n p k l e = go (setup_verdict n count (map listed list)) refl where
  go : (v : SetupVerdict) → setup_verdict n count (map listed list) ≡ v → FitsDevice (set_up_by (row_of v) (new_device platform list count n)).device
  go (Err row) r = blank_device_fits
  go (Ok u) r =
      let s = fine_staging n count (map listed list) r in
      (record { platform = p; staging = omega arith; count = k; slots = length-map list listed ∙ l; each = e; session = idle_fits })

-- a component after a reset has values of its type
reset_fits : (c : Component) → FitsComponent c → FitsComponent (after_reset c)
reset_fits c f = record { fixed = f.fixed; running = effective_fits c.staged f.staged; staged = tt } where
  effective_fits : (s : Option Version) → FitsStaged s → FitsVersion (effective c.running s)
  effective_fits None h = f.running
  effective_fits (Some v) h = h

pub reset_keeps_fits : ResetKeepsFits
unfolding reset_entry
reset_keeps_fits d f =
    let l : length (reset_components d.count d.components) ≡ component_limit = sym (length-map (reset_components d.count d.components) seen) ∙ ap length (reset_seen d.count d.components) ∙ length-map d.components seen ∙ f.slots in
    either (λ (r : Reset). FitsDevice r.device) (breaks_d1 d) _ _ f
    (fits_with d f (reset_components d.count d.components) l (each_front FitsComponent after_reset blank_component reset_fits d.count d.components f.each) _ idle_fits)
