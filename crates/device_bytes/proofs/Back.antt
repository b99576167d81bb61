-- Every record is bytes of the one length and reads back; bytes of another length, or with a flag that no record has, are read as a record that D1
-- refuses. Assumes nothing.
use mathlib.Core.Path.{◌≡◌, refl, sym, ap, ap₂, ◌∙◌}
use mathlib.Core.Bool.{true}
use mathlib.Core.List.{List, [], ◌∷◌, ◌++◌}
use Prim.Native.Nat.{ℕ, zero, suc}
use borrow.Author.Tests.{eq-eqb}
use lib.ListN.{length, drop}
use lib.Seq.{drop_at}
use Rattle.wire.specs.Bytes.{Bytes, bytes_of, bytes_at}
use Rattle.wire.specs.Codes.{component_limit}
use Rattle.wire.specs.Checks.{first_of}
use Rattle.wire.proofs.Bounds.{cons_bytes, join_bytes, no_bytes, word_bytes, rest_bytes, word_fits}
use Rattle.wire.proofs.words.Laws.{round}
use Rattle.device_component.specs.Record.{FitsComponent}
use Rattle.device_component.specs.Lists.{component_at}
use Rattle.device_component.specs.Setup.{setup_verdict}
use Rattle.device_component.specs.declared.record.Component.{Component}
use Rattle.device_component.proofs.record.Fits.{blank_fits}
use Rattle.device_component_bytes.specs.Layout.{component_size, component_bytes}
use Rattle.device_component_bytes.proofs.Laws.{component_sized}
use Rattle.device_component_bytes.proofs.Back.{component_bytes_lem, component_back, component_flag, component_fits}
use Rattle.device_session.specs.Effect.{FitsSession}
use Rattle.device.specs.Record.{FitsDevice, with_session, blank_device}
use Rattle.device.specs.Refusals.{breaks_d1}
use Rattle.device_session.specs.Sound as sound
use Rattle.device.specs.declared.record.Device.{Device}
use Rattle.device_session.specs.declared.effect.Session.{Session}
use Rattle.device_session_bytes.specs.Layout.{session_size, session_bytes}
use Rattle.device_session_bytes.proofs.Laws.{session_sized}
use Rattle.device_session_bytes.proofs.Back.{session_bytes_lem, session_fits}
use Rattle.device_session_bytes.proofs.Back as session
use Rattle.device_bytes.specs.Layout.{platform_at, staging_len_at, count_at, session_start, components_start, device_size, components_bytes, head_bytes, device_bytes, components_in, session_in, device_in, staged_fit, flags_fit, is_record, read_device}
use Rattle.device_bytes.specs.Promises.{DeviceSized, DeviceReadsBack, OthersBreakD1}
use Rattle.device_bytes.proofs.Record.{Sized, device_length, components_full}

-- components are bytes
components_bytes_lem : (cs : List Component) → ((k : ℕ) → FitsComponent (component_at cs k)) → Bytes (components_bytes cs)
unfolding components_bytes
components_bytes_lem [] f = no_bytes
components_bytes_lem (c ∷ cs) f = join_bytes (component_bytes c) (components_bytes cs) (component_bytes_lem c (f 0)) (components_bytes_lem cs (λ k. f (suc k)))

-- the arrays of a record that fits are as long as their types say
pub fits_sized : (d : Device) → FitsDevice d → Sized d
fits_sized d f = record { slots = f.slots; previous = f.session.size }

-- every record is bytes of the one length
pub device_sized : DeviceSized
unfolding device_bytes
device_sized d f = record {
  size = device_length d (fits_sized d f);
  bytes =
      join_bytes (head_bytes d) (session_bytes d.session ++ components_bytes d.components)
      (join_bytes (bytes_of 2 d.platform) (bytes_of 4 d.staging_len ++ (d.count ∷ [])) (word_bytes 2 d.platform)
      (join_bytes (bytes_of 4 d.staging_len) (d.count ∷ []) (word_bytes 4 d.staging_len) (cons_bytes d.count [] f.count no_bytes)))
      (join_bytes (session_bytes d.session) (components_bytes d.components)
      (session_bytes_lem d.session f.session) (components_bytes_lem d.components f.each));
}

-- components that were written read back
components_back : (cs : List Component) → ((k : ℕ) → FitsComponent (component_at cs k)) → components_in (length cs) (components_bytes cs) ≡ cs
unfolding components_bytes components_in
components_back [] f = refl
components_back (c ∷ cs) f =
    ap₂ (λ (x : Component) (l : List Component). x ∷ l) (component_back c (components_bytes cs) (f 0))
    (ap (components_in (length cs)) (drop_at (component_bytes c) (components_bytes cs) component_size (component_sized c)) ∙ components_back cs (λ k. f (suc k)))

-- so does a session between what stands before it and what follows; the flags are then those of the components
pub session_back : (p q : List ℕ) (t : Session) → FitsSession t → let w = bytes_at session_start 0 p ++ (session_bytes t ++ q) in
    (session_in w ≡ t) × (flags_fit w ≡ staged_fit component_limit q) × (drop components_start w ≡ q)
session_back p q t f =
    let b = session.session_back t q f in
    let e = drop_at (session_bytes t) q session_size (session_sized t f.size) in (b.0, rw b.1 (ap (staged_fit component_limit) e), e)

-- the record between the same
pub record_back : (p q : List ℕ) (t : Session) → FitsSession t
    → device_in (bytes_at session_start 0 p ++ (session_bytes t ++ q)) ≡ with_session (device_in p) (components_in component_limit q) t
unfolding device_in
record_back p q t f =
    let b = session_back p q t f in
    ap₂ (λ (x : Session) (r : List ℕ). with_session (device_in p) (components_in component_limit r) x) b.0 b.2

-- the flags of components that are written
flags_written : (cs : List Component) → staged_fit (length cs) (components_bytes cs) ≡ true
unfolding components_bytes staged_fit
flags_written [] = refl
flags_written (c ∷ cs) =
    rw (component_flag c (components_bytes cs), drop_at (component_bytes c) (components_bytes cs) component_size (component_sized c)) (flags_written cs)

device_back : (d : Device) → FitsDevice d → device_in (device_bytes d) ≡ d
unfolding device_bytes device_in
device_back d f =
    let e : components_in component_limit (components_bytes d.components) ≡ d.components = ap (λ (n : ℕ). components_in n (components_bytes d.components)) (sym f.slots) ∙ components_back d.components f.each in
    record_back (head_bytes d) (components_bytes d.components) d.session f.session
    ∙ rw (round 2 d.platform f.platform, round 4 d.staging_len f.staging, e)

-- every record reads back
device_flags : (d : Device) → FitsDevice d → flags_fit (device_bytes d) ≡ true
unfolding device_bytes
device_flags d f =
    (session_back (head_bytes d) (components_bytes d.components) d.session f.session).1
    ∙ ap (λ (n : ℕ). staged_fit n (components_bytes d.components)) (sym f.slots) ∙ flags_written d.components

pub device_reads_back : DeviceReadsBack
unfolding read_device is_record
device_reads_back d f =
    rw (eq-eqb (length (device_bytes d)) device_size (device_length d (fits_sized d f)), device_flags d f) (device_back d f)

-- what is read of bytes fits
components_fit : (n : ℕ) (q : List ℕ) → Bytes q → (k : ℕ) → FitsComponent (component_at (components_in n q) k)
unfolding components_in
components_fit zero q h k = blank_fits
components_fit (suc n) q h zero = component_fits q h
components_fit (suc n) q h (suc k) = components_fit n (drop component_size q) (rest_bytes component_size q h) k

pub device_fits : (b : List ℕ) → Bytes b → FitsDevice (device_in b)
unfolding device_in
device_fits b h = record {
  platform = word_fits 2 platform_at b h;
  staging = word_fits 4 staging_len_at b h;
  count = h count_at;
  slots = components_full (drop components_start b);
  each = components_fit component_limit (drop components_start b) (rest_bytes components_start b h);
  session = session_fits (drop session_start b) (rest_bytes session_start b h);
}

-- the blank record breaks D1: it has no component
pub blank_breaks : breaks_d1 blank_device ≡ true
unfolding sound.breaks_d1 setup_verdict first_of
blank_breaks = refl

-- bytes of another length, or with a flag that no record has, are read as a record that D1 refuses
pub others_break_d1 : OthersBreakD1
unfolding read_device
others_break_d1 b e = rw e blank_breaks
