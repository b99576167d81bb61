-- A component is told as the record has it, an entry as the check of its bundle has it. Assumes nothing.
use mathlib.Core.Path.{◌≡◌, refl, sym, ap, ◌∙◌}
use mathlib.Core.List.{List}
use Prim.Native.Nat.{ℕ}
use mathlib.Core.Bool.{Bool, true, false, true≢false, cond}
use lib.Dec.{ltb}
use Rattle.bundle_layout.specs.Rows as bundle
use Rattle.bundle.specs.Contents.{Contents, check_of}
use Rattle.device_component.specs.Lists.{component_at}
use Rattle.device.specs.declared.record.Device.{Device}
use Rattle.device_bytes.specs.Layout.{device_in, is_record, read_device}
use Rattle.device_bytes.proofs.Record.{component_in_slot}
use Rattle.device_bytes.proofs.Flags.{record_sized}
use Rattle.device_bytes.proofs.Back.{others_break_d1}
use Rattle.host_record.specs.declared.fits.Body.{Body}
use Rattle.host_bytes.specs.Layout.{body_read}
use Rattle.host_bytes.proofs.Kept.{contents_are, body_are, kept_are_contents}
use Rattle.c_types.specs.Numbers.{wrong_place}
use Rattle.c_access.specs.Access.{component_told, component_call, body_told, no_entry, entry_by, entry_call}
use Rattle.c_access.specs.Promises.{ComponentTold, entry_on, EntryTold}
use Rattle.c_access.proofs.Laws.{place_told}

-- what is read of a record
read_record : (b : List ℕ) → is_record b ≡ true → read_device b ≡ device_in b
unfolding read_device
read_record b e = rw e

-- of bytes that are a sound record each component is told as the record has it
pub component_told_lem : ComponentTold
component_told_lem b place sound h = go (is_record b) refl
  where
    go : (r : Bool) → is_record b ≡ r → component_call b place ≡ component_told (component_at (read_device b).components place)
    go true e =
        let n = record_sized b e in
        place_told b place (read_device b) n refl sound h
        ∙ ap component_told (component_in_slot b place n ∙ ap (λ (x : Device). component_at x.components place) (sym (read_record b e)))
    go false e = absurd (true≢false (sym (others_break_d1 b e) ∙ sound))

-- an entry is told as the bundle's check has it
pub entry_told : EntryTold
unfolding entry_call
entry_told b q place bytes k = rw (kept_are_contents b q bytes k) (ap (λ (c : Contents). entry_by c.row q place) (contents_are b q bytes k) ∙ go (check_of b).row)
  where
    go : (r : bundle.Row) → entry_by r q place ≡ entry_on r (check_of b) place
    go bundle.served =
        ap (λ (c : Contents). cond (ltb place c.count) (body_told (body_read q place)) (no_entry wrong_place 0)) (contents_are b q bytes k)
        ∙ ap (λ (x : Body). cond (ltb place (check_of b).count) (body_told x) (no_entry wrong_place 0)) (body_are b q bytes k place)
    go (bundle.row_b n entry) = refl
