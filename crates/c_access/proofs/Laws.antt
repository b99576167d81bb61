-- What the calls answer, by their tests; and that what is told of a body fits. Assumes nothing.
use mathlib.Core.Path.{◌≡◌, sym, ap, ◌∙◌}
use mathlib.Core.Bool.{Bool, true, false, cond, ◌&&◌}
use mathlib.Core.List.{List}
use Prim.Native.Nat.{ℕ, zero, suc, ◌+◌, ◌-◌, ◌^◌, ◌<◌, ◌≤◌}
use native.Mathlib.Omega.{arith}
use borrow.Author.Tests.{eq-eqb, ne_eqb, lt-ltb, le-ltb}
use lib.Dec.{eqb, ltb}
use lib.ListN.{length, get_or, drop}
use Rattle.wire.specs.Bytes.{Bytes}
use Rattle.wire.proofs.Bounds.{word_fits, rest_bytes}
use Rattle.bundle_layout.specs.Layout.{offer_limit, blank_entry}
use Rattle.device.specs.declared.record.Device.{Device}
use Rattle.device.specs.Refusals.{row_d, breaks_d1}
use Rattle.device_bytes.specs.Layout.{device_size, component_of, read_device}
use Rattle.host_record.specs.Fits.{body_of}
use Rattle.host_record.specs.declared.fits.Body.{Body}
use Rattle.host_bytes.specs.Layout.{row_offset, entry_offset, count_at, bodies_start, body_part_size, length_offset, records_offset, contents_size, are_contents, bodies_in, contents_in, body_read}
use Rattle.host_bytes.proofs.Contents.{FitsBody}
use Rattle.c_types.specs.Numbers.{wrong_place, letter_b}
use Rattle.c_types.specs.declared.types.CComponent.{CComponent}
use Rattle.c_device.specs.Numbers.{device_number}
use Rattle.c_access.specs.Access.{component_told, no_component, component_call, body_told, no_entry, entry_call}

-- the third answer of a chain of tests
picked : (t u v : Bool) (w x y z : CComponent) → t ≡ true → u ≡ false → v ≡ true → cond t (cond u x (cond v y z)) w ≡ y
picked t u v w x y z e f g = rw (e, f, g)

-- a component of bytes that are as long as a record, by what is read of them
module _ (b : List ℕ) (place : ℕ) (d : Device) (n : length b ≡ device_size) (e : d ≡ read_device b) where
  pub unsound_told : breaks_d1 d ≡ true → no_component (device_number (row_d 1)) ≡ component_call b place
  unfolding component_call
  unsound_told f = rw (eq-eqb (length b) device_size n, ← e, f)

  pub no_place_told : breaks_d1 d ≡ false → d.count ≤ place → no_component wrong_place ≡ component_call b place
  unfolding component_call
  no_place_told f h = rw (eq-eqb (length b) device_size n, ← e, f, le-ltb place d.count h)

  pub place_told : breaks_d1 d ≡ false → place < d.count → component_call b place ≡ component_told (component_of place b)
  unfolding component_call
  place_told f h =
      picked (eqb (length b) device_size) (breaks_d1 (read_device b)) (ltb place (read_device b).count) _ _ (component_told (component_of place b)) _
      (eq-eqb (length b) device_size n) (ap breaks_d1 (sym e) ∙ f) (ap (λ (x : Device). ltb place x.count) (sym e) ∙ lt-ltb place d.count h)

-- an entry of contents, by the row that they keep and their count
module _ (q : List ℕ) (place : ℕ) (are : are_contents q ≡ true) where
  pub row_told : (row entry : ℕ) → row ≡ get_or q row_offset 0 → entry ≡ get_or q entry_offset 0 → (row ≡ 0 → ⊥) → no_entry (letter_b + row) entry ≡ entry_call q place
  unfolding entry_call contents_in
  row_told row entry e f h = rw (are, ← e, ← f, ne_eqb row 0 h)

  pub no_entry_told : (row count : ℕ) → row ≡ get_or q row_offset 0 → row ≡ 0 → count ≡ get_or q count_at 0 → count ≤ place → no_entry wrong_place 0 ≡ entry_call q place
  unfolding entry_call contents_in
  no_entry_told row count e z f h = rw (are, ← e, eq-eqb row 0 z, ← f, le-ltb place count h)

  pub entry_here : (row count : ℕ) → row ≡ get_or q row_offset 0 → row ≡ 0 → count ≡ get_or q count_at 0 → place < count → body_told (body_read q place) ≡ entry_call q place
  unfolding entry_call contents_in
  entry_here row count e z f h = rw (are, ← e, eq-eqb row 0 z, ← f, lt-ltb place count h)

-- what is read of a body fits
bodies_fit : (n : ℕ) (q : List ℕ) → Bytes q → (k : ℕ) → FitsBody (get_or (bodies_in n q) k blank_entry)
unfolding bodies_in
bodies_fit zero q h k = record { offset = omega arith; length = omega arith; records = omega arith }
bodies_fit (suc n) q h zero = record { offset = word_fits 4 0 q h; length = word_fits 4 length_offset q h; records = word_fits 4 records_offset q h }
bodies_fit (suc n) q h (suc k) = bodies_fit n (drop body_part_size q) (rest_bytes body_part_size q h) k

-- so its start and its length can be told
abbrev Tells : Body → Type 0
Tells b = (b.start ≤ b.end) × (b.start < 2 ^ 32) × (b.end - b.start < 2 ^ 32)

pub body_tells : (q : List ℕ) (i : ℕ) (b : Body) → Bytes q → b ≡ body_read q i → Tells b
unfolding body_read contents_in
body_tells q i b h e = rw e (go (eqb (length q) contents_size && ltb i offer_limit))
  where
    go : (t : Bool) → Tells (cond t (body_of (contents_in q) i) (record { start = 0; end = 0; records = 0 }))
    go true = let f = bodies_fit offer_limit (drop bodies_start q) (rest_bytes bodies_start q h) i in (omega arith, omega (arith, f.offset), omega (arith, f.length))
    go false = (omega arith, omega arith, omega arith)
