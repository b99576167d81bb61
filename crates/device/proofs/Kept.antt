-- D1 is kept: set-up, every served packet and a reset leave a record that passes. Assumes nothing.
use mathlib.Core.Path.{◌≡◌, refl}
use mathlib.Core.Bool.{Bool, false, not}
use mathlib.Core.List.{List, map}
use Prim.Native.Nat.{ℕ, ◌≤◌}
use native.Mathlib.Omega.{arith}
use borrow.Author.Tests.{lt-leb, eq-eqb}
use lib.ListN.{length, set, take}
use lib.Seq.{take-set-lt}
use Rattle.wire.specs.Checks.{any}
use Rattle.wire_content.specs.Head.{head_in}
use Rattle.device_component.specs.Record.{listed, after_reset, with_staged}
use Rattle.device_component.specs.Versions.{keeps_staged}
use Rattle.device_component.specs.Setup as setup
use Rattle.device_component.specs.Setup.{SetupVerdict, setup_verdict}
use Rattle.std.specs.Prelude.{Ok, Err}
use Rattle.device_component.specs.declared.record.Component.{Component}
use Rattle.device.specs.declared.record.Device.{Device}
use Rattle.device.specs.declared.answer.Channel.{Channel}
use Rattle.device.specs.Record.{component}
use Rattle.device.specs.Refusals.{breaks_d1}
use Rattle.device_slots.specs.Slots.{reset_components}
use Rattle.device_session.specs.Stage.{at_slot, following}
use Rattle.device_session.specs.Sound.{holds_wrong}
use Rattle.device_receiving.specs.Receive.{goes_on}
use Rattle.device_receiving.proofs.checks.Laws.{open_at}
use Rattle.device_receiving.proofs.content.Laws.{packet_held_lem}
use Rattle.device.specs.Entries.{new_device, set_up_by, set_up_of, reset_entry}
use Rattle.device.specs.Promises.{SetUpPasses, ServeKeepsD1, ResetKeepsD1}
use Rattle.device_component.proofs.list.Laws.{find_at}
use Rattle.device_component.proofs.list.Members.{map_take, any_map}
use Rattle.device_component.proofs.setup.Laws.{setup_same, setup_staged}
use Rattle.device.proofs.Lists.{any_never, any_set, reset_seen, reset_take}
use Rattle.device_session.proofs.sound.Laws.{passes, keeps, count_most, open_slot_lem}
use Rattle.device.proofs.Passes.{Passes}
use Rattle.device.proofs.Moves.{Move, stays, idles, opens, owes, goes, stages, serve_moves}

abbrev stale : Component → Bool
stale c = not (keeps_staged c c.staged)

pub set_up_passes : SetUpPasses
unfolding set_up_of
set_up_passes platform list count n l = go (setup_verdict n count (map listed list)) refl where
  new : Device
  new = new_device platform list count n

  fresh : any stale (take count (map listed list)) ≡ false
  fresh = rw (← (map_take listed count list), ← (any_map listed stale (take count list))) (any_never (take count list))

  go : (v : SetupVerdict) → setup_verdict n count (map listed list) ≡ v → (set_up_by (setup.row_of v) new).row ≡ setup.served
      → breaks_d1 (set_up_by (setup.row_of v) new).device ≡ false
  go (Ok u) e h = keeps (record { setup = rw e; slot = refl; previous = refl; owed = refl; staged = fresh })
  go (Err row) e h = let z : ◌≡◌ {A = ℕ} 0 1 = cc in absurd (omega arith)

-- each of the six moves keeps D1
move_passes : {d : Device} {channel : Channel} {staging report : List ℕ} {d' : Device} → Passes d → Move d channel staging report d' → breaks_d1 d' ≡ false
move_passes {d} p stays = keeps p
move_passes {d} p idles = keeps (record { setup = p.setup; slot = refl; previous = refl; owed = refl; staged = p.staged })
move_passes {d} p (opens k a q) =
    let b = lt-leb d.count k (find_at _ d.count d.components k a.component).0 in
    keeps (record { setup = p.setup; slot = rw (b, q); previous = refl; owed = refl; staged = p.staged })
move_passes {d} p (owes e) =
    let s = open_at d.session.stage e in
    let o = open_slot_lem (at_slot d.session.stage) p s in
    let b = lt-leb d.count (at_slot d.session.stage) o.0 in
    keeps (record { setup = p.setup; slot = rw (s, b, o.1); previous = p.previous; owed = rw s; staged = p.staged })
move_passes {d} {report = report} p (goes k s l) =
    let o = open_slot_lem k p s in
    let e : holds_wrong (goes_on d.session k report) ≡ false
    = rw (packet_held_lem report l, eq-eqb (following (head_in report).sequence) (following (head_in report).sequence) refl) in
    keeps (record { setup = p.setup; slot = rw (lt-leb d.count k o.0, o.1); previous = e; owed = refl; staged = p.staged })
move_passes {d} p (stages k s v e f) =
    let o = open_slot_lem k p s in
    let c = with_staged (component d k) v in
    let same = setup_staged d.staging_len d.count d.components k v in
    let kept : any stale (take d.count (set d.components k c)) ≡ false
    = rw (take-set-lt d.count d.components k c o.0) (any_set stale (take d.count d.components) k c (rw f) p.staged) in
    keeps (record { setup = rw same p.setup; slot = refl; previous = refl; owed = refl; staged = kept })

pub serve_keeps_d1 : ServeKeepsD1
serve_keeps_d1 d channel staging report f h = move_passes (passes h) (serve_moves d staging report channel)

pub reset_keeps_d1 : ResetKeepsD1
unfolding reset_entry
reset_keeps_d1 d f h =
    let p = passes h in
    let m : d.count ≤ length d.components = omega (arith, count_most p, f.slots) in
    let same = setup_same d.staging_len d.count (reset_components d.count d.components) d.components (reset_seen d.count d.components) in
    let kept : any stale (take d.count (reset_components d.count d.components)) ≡ false
    = rw (reset_take d.count d.components m, ← (any_map after_reset stale (take d.count d.components))) (any_never (take d.count d.components)) in
    rw h (keeps (record { setup = rw same p.setup; slot = refl; previous = refl; owed = refl; staged = kept }))
