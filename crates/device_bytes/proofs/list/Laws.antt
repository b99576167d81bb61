-- A component that is put into the list: the bytes, and what is read of them. Assumes nothing.
use mathlib.Core.Path.{◌≡◌, refl, ap, ap₂, ◌∙◌}
use mathlib.Core.Bool.{Bool, true, false, ◌&&◌}
use mathlib.Core.List.{List, ◌∷◌, ◌++◌}
use Prim.Native.Nat.{ℕ, zero, suc, ◌+◌, ◌*◌, ◌<◌, ◌≤◌}
use native.Mathlib.Nat.{not-suc-le-zero, le_of_suc-le-suc}
use native.Mathlib.Omega.{arith}
use borrow.Author.Tests.{eq-eqb, eqb-true, lt-ltb, ltb-true}
use lib.Dec.{eqb, ltb}
use lib.ListN.{length, set, take, drop, length-drop}
use lib.Seq.{drop_at}
use Rattle.wire.specs.Bytes.{copy_of}
use Rattle.wire.specs.Codes.{component_limit}
use Rattle.wire.proofs.Pieces.{copied}
use Rattle.wire.proofs.Tests.{both}
use Rattle.device_component.specs.Record.{FitsComponent, listed}
use Rattle.device_component.specs.declared.record.Listed.{Listed}
use Rattle.device_component_bytes.specs.Layout.{listed_size, listed_bytes, listed_in}
use Rattle.device_component_bytes.proofs.Back.{listed_back}
use Rattle.device_bytes.specs.Layout.{list_size, list_in, listed_start, with_listed_bytes}
use Rattle.device_bytes.specs.Promises.{ListReadsBack}
use Rattle.device_bytes.proofs.Spliced.{spliced, spliced_next}

-- there is such a place in a list of these bytes
abbrev pub has_place : (place : ℕ) → List ℕ → Bool
has_place place b = eqb (length b) list_size && ltb place component_limit

-- its bytes stand within the list's
pub place_within : (place at : ℕ) (b : List ℕ) → at ≡ listed_start place → has_place place b ≡ true → at + listed_size ≤ length b
place_within place at b e h =
    let t = both (eqb (length b) list_size) (ltb place component_limit) h in
    omega (arith, eqb-true (length b) list_size t.0, ltb-true place component_limit t.1)

-- a component is stored over the bytes of its place, where there is one
pub listed_stored : (b s last : List ℕ) (place at k : ℕ) (l : Listed) → has_place place b ≡ true → at ≡ listed_start place → k ≡ listed_size → s ≡ listed_bytes l
    → last ≡ copy_of (take k (drop at b)) s → take at b ++ (last ++ drop k (drop at b)) ≡ with_listed_bytes place l b
unfolding with_listed_bytes
listed_stored b s last place at k l h d e f g =
    rw h
    (copied b s last at listed_size k e (ap length f) (place_within place at b d h) g
    ∙ ap₂ (λ (i : ℕ) (p : List ℕ). take i b ++ (p ++ drop (i + listed_size) b)) d f)

pub listed_stays : (place : ℕ) (l : Listed) (b : List ℕ) → has_place place b ≡ false → b ≡ with_listed_bytes place l b
unfolding with_listed_bytes
listed_stays place l b h = rw h

-- it reads back at its place, and the others stay
spliced_list : (n k m : ℕ) (l : Listed) (q : List ℕ) → m ≡ k * listed_size → k < n → n * listed_size ≤ length q → FitsComponent (listed l)
    → list_in n (spliced listed_size m (listed_bytes l) q) ≡ set (list_in n q) k l
unfolding list_in
spliced_list zero k m l q e h w f = absurd (not-suc-le-zero h)
spliced_list (suc n) zero m l q e h w f =
    let z : m ≡ 0 = omega arith in
    let r = drop listed_size q in
    rw z (ap₂ (λ (x : Listed) (t : List ℕ). x ∷ list_in n t) (listed_back l r f) (drop_at (listed_bytes l) r listed_size refl))
spliced_list (suc n) (suc k) m l q e h w f =
    let j = k * listed_size in
    let i : m ≡ listed_size + j = omega arith in
    let r = drop listed_size q in
    ap (λ (x : ℕ). list_in (suc n) (spliced listed_size x (listed_bytes l) q)) i
    ∙ ap (list_in (suc n)) (spliced_next listed_size j (listed_bytes l) q refl (omega arith))
    ∙ ap (λ (t : List Listed). listed_in q ∷ t) (spliced_list n k j l r refl (le_of_suc-le-suc h) (omega (arith, length-drop listed_size q)) f)

-- a component that is put into the list is what set-up reads there, and the others stay
pub list_reads_back : ListReadsBack
unfolding with_listed_bytes
list_reads_back b place l whole h f =
    let i : listed_start place + listed_size ≡ listed_size + listed_start place = omega arith in
    rw (eq-eqb (length b) list_size whole, lt-ltb place component_limit h, i) (spliced_list component_limit place (listed_start place) l b refl h (omega arith) f)
