-- No call brings a component a version below its floor, and no list of calls does. Assumes nothing.
use mathlib.Core.Path.{◌≡◌, refl, sym, subst, ◌∙◌}
use mathlib.Core.Bool.{Bool, true, false, not}
use mathlib.Core.List.{List, [], ◌∷◌, ◌++◌, map}
use mathlib.Core.Logic.{◌⊎◌, inl, inr}
use Prim.Native.Nat.{ℕ, zero, suc, ◌≤◌}
use native.Mathlib.Omega.{arith}
use borrow.Author.Tests.{not-false}
use lib.ListN.{length, take, drop, get_or, set, replicate}
use Rattle.wire.specs.Checks.{any}
use Rattle.wire.specs.Codes.{component_limit}
use Rattle.wire.specs.Version.{release_of}
use Rattle.wire.specs.declared.version.Version.{Version}
use Rattle.wire.proofs.Tests.{neither}
use Rattle.device_component.specs.Record.{blank_component, listed, with_staged, after_reset}
use Rattle.device_component.specs.Lists.{component_at}
use Rattle.device_component.specs.Setup as setup
use Rattle.device_component.specs.Setup.{setup_verdict}
use Rattle.device_component.specs.Versions.{image_version_fits, keeps_staged}
use Rattle.device_component.specs.declared.record.Component.{Component}
use Rattle.device_component.specs.declared.record.Fixed.{Fixed}
use Rattle.device_component.specs.declared.record.Listed.{Listed}
use Rattle.std.specs.Prelude.{Option, Some, None}
use Rattle.device_component.proofs.rule.Laws.{image_staged_lem, staged_floor_lem}
use Rattle.device_session.proofs.sound.Laws.{passes}
use Rattle.device.specs.declared.record.Device.{Device}
use Rattle.device.specs.declared.answer.Channel.{Channel}
use Rattle.device.specs.Record.{component}
use Rattle.device.specs.Refusals.{breaks_d1}
use Rattle.device.specs.Entries.{new_device, set_up_by, set_up_of, reset_entry}
use Rattle.device.specs.Calls.{Call, packet, versions, reset, Kept, after_call, Event, call, lends, after_event, after_events, from_set_up}
use Rattle.device.specs.Floors.{Allowed, component_of, CallKeepsFloor, SetUpGives, FloorHolds, FixStays}
use Rattle.device.proofs.Images.{at_set, one_version}
use Rattle.device.proofs.Moves.{Move, stays, idles, opens, owes, goes, stages, serve_moves}

-- what stays of a component, and what may become of it: what set-up fixed; a version that is pending was so before or is allowed; one that runs ran before or is allowed
abbrev Keeps : Component → Component → Type 0
Keeps c c' =
    (c'.fixed ≡ c.fixed)
    × ((v : Version) → c'.staged ≡ Some v → (c.staged ≡ Some v) ⊎ Allowed c v)
    × ((c'.running ≡ c.running) ⊎ Allowed c c'.running)

unchanged : (c : Component) → Keeps c c
unchanged c = (refl, (λ v h. inl h), inl refl)

-- a version that is allowed by the floor is so by the same floor elsewhere
allowed_as : (c c' : Component) (v : Version) → c'.fixed ≡ c.fixed → Allowed c' v → Allowed c v
allowed_as c c' v e h = subst (λ (f : Fixed). release_of f.floor ≤ release_of v) e h

-- one after the other
keeps_both : (a b c : Component) → Keeps a b → Keeps b c → Keeps a c
keeps_both a b c p q = (q.0 ∙ p.0, (λ v h. pending v (q.1 v h)), runs q.2 p.2)
  where
    pending : (v : Version) → (b.staged ≡ Some v) ⊎ Allowed b v → (a.staged ≡ Some v) ⊎ Allowed a v
    pending v (inl h) = p.1 v h
    pending v (inr h) = inr (allowed_as a b v p.0 h)

    runs : (c.running ≡ b.running) ⊎ Allowed b c.running → (b.running ≡ a.running) ⊎ Allowed a b.running → (c.running ≡ a.running) ⊎ Allowed a c.running
    runs (inl e) (inl f) = inl (e ∙ f)
    runs (inl e) (inr h) = inr (subst (Allowed a) (sym e) h)
    runs (inr h) f = inr (allowed_as a b c.running p.0 h)

-- nothing staged is not a staged version
never : {A : Type 0} (v : Version) → None ≡ Some v → A
never v e = let z : ◌≡◌ {A = ℕ} 0 1 = cc in absurd (omega arith)

-- an image that fits becomes pending
staged_keeps : (c : Component) (v : Version) → image_version_fits c v ≡ true → Keeps c (with_staged c v)
staged_keeps c v e = (refl, (λ w h. inr (subst (Allowed c) (one_version v w h) (staged_floor_lem c v (image_staged_lem c v e)))), inl refl)

-- a packet
move_keeps : {d : Device} {channel : Channel} {staging report : List ℕ} {d' : Device} → Move d channel staging report d' → (k : ℕ) → Keeps (component d k) (component d' k)
move_keeps {d} stays k = unchanged (component d k)
move_keeps {d} idles k = unchanged (component d k)
move_keeps {d} (opens j a q) k = unchanged (component d k)
move_keeps {d} (owes e) k = unchanged (component d k)
move_keeps {d} (goes j s l) k = unchanged (component d k)
move_keeps {d} (stages j s v e f) k = go (at_set d.components j k (with_staged (component d j) v) blank_component)
  where
    go : (get_or (set d.components j (with_staged (component d j) v)) k blank_component ≡ component d k)
        ⊎ ((k ≡ j) × (get_or (set d.components j (with_staged (component d j) v)) k blank_component ≡ with_staged (component d j) v))
        → Keeps (component d k) (get_or (set d.components j (with_staged (component d j) v)) k blank_component)
    go (inl q) = rw q (unchanged (component d k))
    go (inr q) = rw q.1 (subst (λ (i : ℕ). Keeps (component d i) (with_staged (component d j) v)) (sym q.0) (staged_keeps (component d j) v f))

-- a reset of one component that keeps the rule on what is staged
reset_one : (c : Component) → not (keeps_staged c c.staged) ≡ false → Keeps c (after_reset c)
reset_one c h = (refl, (λ v e. never v e), go c.staged refl)
  where
    go : (s : Option Version) → c.staged ≡ s → ((after_reset c).running ≡ c.running) ⊎ Allowed c (after_reset c).running
    go None e = rw e (inl refl)
    go (Some v) e = rw e (inr (staged_floor_lem c v (not-false _ (rw e at h))))

-- .. of the first n, and the others stay
reset_front : (n : ℕ) (cs : List Component) (k : ℕ) → any (λ c. not (keeps_staged c c.staged)) (take n cs) ≡ false
    → Keeps (component_at cs k) (component_at (map after_reset (take n cs) ++ drop n cs) k)
unfolding any
reset_front zero cs k h = unchanged (component_at cs k)
reset_front (suc n) [] k h = unchanged (component_at [] k)
reset_front (suc n) (c ∷ cs) zero h = reset_one c (neither (not (keeps_staged c c.staged)) _ h).0
reset_front (suc n) (c ∷ cs) (suc k) h = reset_front n cs k (neither (not (keeps_staged c c.staged)) _ h).1

reset_keeps : (d : Device) (k : ℕ) → Keeps (component d k) (component (reset_entry d).device k)
unfolding reset_entry
reset_keeps d k = go (breaks_d1 d) refl
  where
    go : (b : Bool) → breaks_d1 d ≡ b → Keeps (component d k) (component (reset_entry d).device k)
    go true e = rw e (unchanged (component d k))
    go false e = rw e (reset_front d.count d.components k (passes e).staged)

-- a call, other bytes, and a list of them
call_keeps : (s : Kept) (c : Call) (k : ℕ) → Keeps (component_of s k) (component_of (after_call s c) k)
call_keeps s (packet channel report) k = move_keeps (serve_moves s.device s.staging report channel) k
call_keeps s versions k = unchanged (component_of s k)
call_keeps s reset k = reset_keeps s.device k

event_keeps : (s : Kept) (e : Event) (k : ℕ) → Keeps (component_of s k) (component_of (after_event s e) k)
event_keeps s (call c) k = call_keeps s c k
event_keeps s (lends staging) k = unchanged (component_of s k)

events_keep : (s : Kept) (es : List Event) (k : ℕ) → Keeps (component_of s k) (component_of (after_events s es) k)
events_keep s [] k = unchanged (component_of s k)
events_keep s (e ∷ es) k =
    keeps_both (component_of s k) (component_of (after_event s e) k) (component_of (after_events s (e ∷ es)) k) (event_keeps s e k) (events_keep (after_event s e) es k)

pub call_keeps_floor : CallKeepsFloor
call_keeps_floor = record {
  fixed = λ s c k. (call_keeps s c k).0;
  pending = λ s c k v h. (call_keeps s c k).1 v h;
  running = λ s c k. (call_keeps s c k).2;
}

-- set-up stages nothing
blank_staged : (n k : ℕ) → (component_at (replicate n blank_component) k).staged ≡ None
blank_staged zero k = refl
blank_staged (suc n) zero = refl
blank_staged (suc n) (suc k) = blank_staged n k

list_staged : (l : List Listed) (k : ℕ) → (component_at (map listed l) k).staged ≡ None
list_staged [] k = refl
list_staged (x ∷ l) zero = refl
list_staged (x ∷ l) (suc k) = list_staged l k

module _ (platform : ℕ) (list : List Listed) (count : ℕ) (staging : List ℕ) where
  abbrev new : Device
  new = new_device platform list count (length staging)

  nothing_staged : (k : ℕ) → (component_of (from_set_up platform list count staging) k).staged ≡ None
  unfolding set_up_of
  nothing_staged k = go (setup.row_of (setup_verdict (length staging) count (map listed list)))
    where
      go : (row : setup.Row) → (component (set_up_by row new).device k).staged ≡ None
      go setup.served = list_staged list k
      go (setup.row_s n) = blank_staged component_limit k

pub set_up_gives : SetUpGives
unfolding set_up_of
set_up_gives platform list count staging k = go (setup.row_of (setup_verdict (length staging) count (map listed list)))
  where
    go : (row : setup.Row) → (set_up_by row (new_device platform list count (length staging))).row ≡ setup.served
        → component (set_up_by row (new_device platform list count (length staging))).device k ≡ component_at (map listed list) k
    go setup.served h = refl
    go (setup.row_s n) h = let z : ◌≡◌ {A = ℕ} 0 1 = cc in absurd (omega arith)

pub floor_holds : FloorHolds
floor_holds = record {
  fixed = λ platform list count staging es k. (events_keep (from_set_up platform list count staging) es k).0;
  pending = λ platform list count staging es k v h. allowed platform list count staging k v ((events_keep (from_set_up platform list count staging) es k).1 v h);
  running = λ platform list count staging es k. (events_keep (from_set_up platform list count staging) es k).2;
}
  where
    allowed : (platform : ℕ) (list : List Listed) (count : ℕ) (staging : List ℕ) (k : ℕ) (v : Version)
        → ((component_of (from_set_up platform list count staging) k).staged ≡ Some v) ⊎ Allowed (component_of (from_set_up platform list count staging) k) v
        → Allowed (component_of (from_set_up platform list count staging) k) v
    allowed platform list count staging k v (inl h) = never v (sym (nothing_staged platform list count staging k) ∙ h)
    allowed platform list count staging k v (inr h) = h

pub fix_stays : FixStays
fix_stays s es k h = go (events_keep s es k)
  where
    go : Keeps (component_of s k) (component_of (after_events s es) k) → Allowed (component_of (after_events s es) k) (component_of (after_events s es) k).running
    go p = runs p.2
      where
        runs : ((component_of (after_events s es) k).running ≡ (component_of s k).running) ⊎ Allowed (component_of s k) (component_of (after_events s es) k).running
            → Allowed (component_of (after_events s es) k) (component_of (after_events s es) k).running
        runs (inl e) = rw (p.0, e) h
        runs (inr a) = rw p.0 a
