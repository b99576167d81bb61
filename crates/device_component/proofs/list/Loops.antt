-- A walk over the first n members of a list, from place i on: its next member and its end; and that one is found where there is some. Assumes nothing.
use mathlib.Core.Path.{◌≡◌, refl}
use mathlib.Core.Bool.{Bool, true, false}
use mathlib.Core.List.{List, [], ◌∷◌}
use Prim.Native.Nat.{ℕ, suc, ◌+◌, ◌≤◌, ◌<◌, min}
use native.Mathlib.Nat.{min-le_left}
use native.Mathlib.Omega.{arith}
use native.Mathlib.Numerals.{add-one}
use lib.ListN.{length, take, drop, get_or, drop_of_length-le, length-take}
use lib.Seq.{drop-cons, get_or-take}
use Rattle.wire.specs.Codes.{component_limit}
use Rattle.wire.specs.Checks.{any}
use Rattle.device_component.specs.Lists.{first_from}
use Rattle.std.specs.Prelude.{is_some}

-- a count as far as there are slots is the number of members it counts
pub ends : {A : Type 0} {end : ℕ} (n : ℕ) (l : List A) → length l ≡ component_limit → end ≡ min n component_limit → end ≡ length (take n l)
ends n l k e = rw (length-take, k) e

module _ {A : Type 0} (l : List A) (n i : ℕ) where
  -- the members from i on are the member at i and those from i + 1 on
  pub from_here : (d : A) → i < length (take n l) → drop i (take n l) ≡ get_or l i d ∷ drop (i + 1) (take n l)
  from_here d h =
      let k : i < n = omega (arith, length-take n l, min-le_left n (length l)) in
      rw (add-one, drop-cons (take n l) i d h, get_or-take)

  -- past the last there are none
  pub from_end : length (take n l) ≤ i → drop i (take n l) ≡ []
  from_end h = drop_of_length-le (take n l) {i = i} h

-- one is found where there is some
pub at_any : {A : Type 0} (p : A → Bool) (k : ℕ) (l : List A) → is_some (first_from p k l) ≡ any p l
unfolding first_from any
at_any p k [] = refl
at_any p k (x ∷ l) = go (p x) refl (at_any p (suc k) l) where
  go : (b : Bool) → p x ≡ b → is_some (first_from p (suc k) l) ≡ any p l → is_some (first_from p k (x ∷ l)) ≡ any p (x ∷ l)
  go true e h = rw e
  go false e h = rw e h
