-- What D1, D2 and D3 answer of the bytes of a record. Assumes nothing.
use mathlib.Core.Path.{◌≡◌, sym}
use mathlib.Core.Bool.{Bool, true, false, ◌||◌}
use mathlib.Core.List.{List}
use Prim.Native.Nat.{ℕ}
use borrow.Author.Tests.{eq-eqb, ne_eqb}
use lib.ListN.{take}
use Rattle.wire.specs.Checks.{first_of}
use Rattle.device_component.specs.Lists.{component_at}
use Rattle.device_component.specs.Setup.{staging_too_long, bad_count}
use Rattle.device_component.specs.Rules.{unsound}
use Rattle.device_component.specs.declared.record.Component.{Component}
use Rattle.std.specs.Prelude.{Option}
use Rattle.device_slots.specs.Slots.{slot_of}
use Rattle.device_session.specs.Sound as sound
use Rattle.device_session.specs.Sound.{wrong_slot, wrong_previous, owes_on}
use Rattle.device_session.specs.Stage.{open_slot}
use Rattle.device_session.specs.declared.effect.Session.{Session}
use Rattle.device_session.proofs.sound.Grouped.{grouped}
use Rattle.device.specs.Refusals.{served, row_d, breaks_d1, refusal_of}
use Rattle.device_bytes.specs.Layout.{staging_len_in, count_in, session_in, device_in, is_record, read_device}
use Rattle.device_bytes.proofs.Back.{others_break_d1}

-- D1 over the bytes of a record, for a staging buffer of n bytes
abbrev pub is_broken : List ℕ → ℕ → Bool
is_broken b n = sound.breaks_d1 n (count_in b) (device_in b).components (session_in b)

-- D1 in the order of the code, each part as its helper says
pub broken : (b : List ℕ) (n k count : ℕ) (long bad wrong held owes flaw : Bool) (session : Session) (slot : Option ℕ) (component : Component)
    → count ≡ count_in b → session ≡ session_in b → slot ≡ open_slot session.stage → k ≡ slot_of slot → component ≡ component_at (device_in b).components k
    → long ≡ staging_too_long n → bad ≡ bad_count count → wrong ≡ wrong_slot count component slot → held ≡ wrong_previous session.stage session.previous → owes ≡ owes_on slot session.owed
    → flaw ≡ unsound n (take count (device_in b).components) → ((long || bad) || (wrong || (held || (owes || flaw)))) ≡ is_broken b n
broken b n k count long bad wrong held owes flaw session slot component e g h i j l m w p o u =
    rw (l, m, w, p, o, u, j, i, h, g, e) (sym (grouped n (count_in b) (device_in b).components (session_in b)))

-- bytes that are a record are read as they stand
pub read_in : (b : List ℕ) → is_record b ≡ true → read_device b ≡ device_in b
unfolding read_device
read_in b h = rw h

module _ (b : List ℕ) (size n m : ℕ) where
  -- bytes that are no record
  pub other_refused : is_record b ≡ false → row_d 1 ≡ refusal_of size (read_device b) n m
  unfolding refusal_of first_of
  other_refused h = rw (others_break_d1 b h)

  module _ (h : is_record b ≡ true) (word : ℕ) (f : word ≡ staging_len_in b) where
    judged : (t : Bool) → is_broken b word ≡ t → breaks_d1 (device_in b) ≡ t
    unfolding device_in
    judged t k = rw f at k

    len : (device_in b).staging_len ≡ word
    unfolding device_in
    len = sym f

    -- a record that D1 refuses
    pub broken_refused : is_broken b word ≡ true → row_d 1 ≡ refusal_of size (read_device b) n m
    unfolding refusal_of first_of
    broken_refused k = rw (read_in b h, judged true k)

    -- otherwise D2 and D3 are left
    pub length_refused : is_broken b word ≡ false → (n ≡ word → ⊥) → row_d 2 ≡ refusal_of size (read_device b) n m
    unfolding refusal_of first_of
    length_refused s k = rw (read_in b h, judged false s, len, ne_eqb n word k)

    pub size_refused : is_broken b word ≡ false → n ≡ word → (m ≡ size → ⊥) → row_d 3 ≡ refusal_of size (read_device b) n m
    unfolding refusal_of first_of
    size_refused s e k = rw (read_in b h, judged false s, len, eq-eqb n word e, ne_eqb m size k)

    pub all_served : is_broken b word ≡ false → n ≡ word → m ≡ size → served ≡ refusal_of size (read_device b) n m
    unfolding refusal_of first_of
    all_served s e k = rw (read_in b h, judged false s, len, eq-eqb n word e, eq-eqb m size k)
