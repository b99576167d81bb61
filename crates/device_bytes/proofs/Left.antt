-- What the bytes of a record read as, and are, once a session or a component is stored in them. Assumes nothing.
use mathlib.Core.Path.{◌≡◌, refl, sym, ap, ap₂, ◌∙◌}
use mathlib.Core.Bool.{Bool, true, false}
use mathlib.Core.List.{List, [], ◌∷◌, ◌++◌, append_assoc}
use Prim.Native.Nat.{ℕ, zero, suc, ◌+◌, ◌*◌, ◌<◌, ◌≤◌}
use native.Mathlib.Nat.{not-suc-le-zero, le_of_suc-le-suc}
use native.Mathlib.Omega.{arith}
use borrow.Author.Tests.{eq-eqb, ltb-true, ltb-false}
use lib.Dec.{ltb}
use lib.ListN.{length, get_or, set, take, drop, length-append, length-take, length-drop}
use lib.Seq.{take_at, drop_at, take-add, drop-drop, set_out, set-get_or, length-take-le}
use Rattle.wire.specs.Bytes.{bytes_at}
use Rattle.wire.specs.Codes.{component_limit}
use Rattle.wire.proofs.Tests.{both}
use Rattle.device_component.specs.Record.{FitsComponent, blank_component}
use Rattle.device_component.specs.declared.record.Component.{Component}
use Rattle.device_component_bytes.specs.Layout.{component_size, component_bytes, component_in, staged_flag_fits}
use Rattle.device_component_bytes.proofs.Laws.{component_sized}
use Rattle.device_component_bytes.proofs.Back.{component_back, component_flag}
use Rattle.device_session.specs.Effect.{FitsSession}
use Rattle.device_session.specs.declared.effect.Session.{Session}
use Rattle.device_session_bytes.specs.Layout.{session_size, session_bytes, session_flags_fit}
use Rattle.device_session_bytes.proofs.Laws.{session_sized}
use Rattle.device_session_bytes.proofs.Back.{session_first}
use Rattle.device.specs.Record.{with_session}
use Rattle.device.specs.declared.record.Device.{Device}
use Rattle.device_bytes.specs.Layout.{session_start, components_start, device_size, component_start, components_bytes, head_bytes, device_bytes, components_in, device_in, staged_fit, is_record, with_session_bytes, with_component_bytes}
use Rattle.device_bytes.proofs.Back.{session_back, record_back}
use Rattle.device_bytes.proofs.Flags.{record_sized, record_flags, is_record_lem}
use Rattle.device_bytes.proofs.Spliced.{first, spliced, spliced_next}
use Rattle.device_bytes.proofs.Record.{Sized, head_sized, components_full, components_sized, device_length}

-- a session that is stored reads back, and all else stays
pub session_read : (t : Session) (b : List ℕ) → is_record b ≡ true → FitsSession t
    → (is_record (with_session_bytes t b) ≡ true) × (device_in (with_session_bytes t b) ≡ with_session (device_in b) (device_in b).components t)
unfolding with_session_bytes device_in
session_read t b h f =
    let whole = record_sized b h in
    let q = drop components_start b in
    let e : take session_start b ++ (session_bytes t ++ q) ≡ bytes_at session_start 0 b ++ (session_bytes t ++ q) = ap (λ (l : List ℕ). l ++ (session_bytes t ++ q)) (first session_start b refl (omega arith)) in
    let n : length (bytes_at session_start 0 b ++ (session_bytes t ++ q)) ≡ device_size = length-append (bytes_at session_start 0 b) (session_bytes t ++ q) ∙ rw (length-append (session_bytes t) q, session_sized t f.size, length-drop components_start b, whole) in
    let staged = (both (session_flags_fit (drop session_start b)) (staged_fit component_limit q) (record_flags b h)).1 in
    rw (eq-eqb (length b) device_size whole, e)
    (is_record_lem (bytes_at session_start 0 b ++ (session_bytes t ++ q)) n ((session_back b q t f).1 ∙ staged), record_back b q t f)

-- the bytes of components with those of another component from place m on
abbrev with_part : ℕ → Component → List ℕ → List ℕ
with_part m c q = spliced component_size m (component_bytes c) q

-- it reads back in its slot, and the others stay
spliced_read : (n k m : ℕ) (c : Component) (q : List ℕ) → m ≡ k * component_size → k < n → n * component_size ≤ length q → FitsComponent c
    → (components_in n (with_part m c q) ≡ set (components_in n q) k c) × (staged_fit n q ≡ true → staged_fit n (with_part m c q) ≡ true)
unfolding components_in staged_fit
spliced_read zero k m c q e h l f = absurd (not-suc-le-zero h)
spliced_read (suc n) zero m c q e h l f =
    let z : m ≡ 0 = omega arith in
    let r = drop component_size q in
    let d = drop_at (component_bytes c) r component_size (component_sized c) in (
      rw z (ap₂ (λ (x : Component) (t : List ℕ). x ∷ components_in n t) (component_back c r f) d),
      λ g. rw (z, component_flag c r, d) (both (staged_flag_fits q) (staged_fit n r) g).1,
    )
spliced_read (suc n) (suc k) m c q e h l f =
    let j = k * component_size in
    let i : m ≡ component_size + j = omega arith in
    let r = drop component_size q in
    let a = spliced_read n k j c r refl (le_of_suc-le-suc h) (omega (arith, length-drop component_size q)) f in
    let s = ap (λ (x : ℕ). with_part x c q) i ∙ spliced_next component_size j (component_bytes c) q refl (omega arith) in (
      ap (components_in (suc n)) s ∙ ap (λ (t : List Component). component_in q ∷ t) a.0,
      λ g.
          let b = both (staged_flag_fits q) (staged_fit n r) g in
          ap (staged_fit (suc n)) s ∙ rw b.0 (a.1 b.1),
    )

-- the bytes of a record with others in place of its components
abbrev before : (b rest : List ℕ) → List ℕ
before b rest = bytes_at session_start 0 b ++ (take session_size (drop session_start b) ++ rest)

-- as many as these stand before the components
before_sized : (b rest : List ℕ) → length b ≡ device_size → length (before b rest) ≡ components_start + length rest
before_sized b rest whole =
    let s = take session_size (drop session_start b) in
    length-append (bytes_at session_start 0 b) (s ++ rest) ∙ rw (length-append s rest, length-take, length-drop, whole) (omega arith)

-- a component that is stored reads back, and all else stays
module _ (slot : ℕ) (c : Component) (b : List ℕ) (h : is_record b ≡ true) (f : FitsComponent c) where
  stored_form : take (component_start slot) b ++ (component_bytes c ++ drop (component_start slot + component_size) b) ≡ before b (with_part (slot * component_size) c (drop components_start b))
  stored_form =
      let m = slot * component_size in
      let i : component_start slot + component_size ≡ components_start + (component_size + m) = omega arith in
      let q = drop components_start b in
      let s = take session_size (drop session_start b) in
      let r = component_bytes c ++ drop (component_size + m) q in
      ap₂ (λ (u v : List ℕ). u ++ (component_bytes c ++ v))
      (take-add components_start m b ∙ ap (λ (l : List ℕ). l ++ take m q) (take-add session_start session_size b ∙ ap (λ (l : List ℕ). l ++ s) (first session_start b refl (omega (arith, record_sized b h)))))
      (ap (λ (j : ℕ). drop j b) i ∙ sym (drop-drop (component_size + m) components_start b))
      ∙ append_assoc (bytes_at session_start 0 b ++ s) (take m q) r ∙ append_assoc (bytes_at session_start 0 b) s (take m q ++ r)

  pub component_read : (is_record (with_component_bytes slot c b) ≡ true) × (device_in (with_component_bytes slot c b) ≡ with_session (device_in b) (set (device_in b).components slot c) (device_in b).session)
  unfolding with_component_bytes device_in
  component_read = go (ltb slot component_limit) refl
    where
      go : (t : Bool) → ltb slot component_limit ≡ t
          → (is_record (with_component_bytes slot c b) ≡ true) × (device_in (with_component_bytes slot c b) ≡ with_session (device_in b) (set (device_in b).components slot c) (device_in b).session)
      go true e =
          let m = slot * component_size in
          let q = drop components_start b in
          let k = ltb-true slot component_limit e in
          let l : length q ≡ component_limit * component_size = length-drop components_start b ∙ omega (arith, record_sized b h) in
          let a = spliced_read component_limit slot m c q refl k (omega arith) f in
          let n : length (with_part m c q) ≡ component_limit * component_size = simp (length-append, length-take, length-drop) (omega (arith, component_sized c, record_sized b h)) in
          let x = both (session_flags_fit (drop session_start b)) (staged_fit component_limit q) (record_flags b h) in
          let o = drop session_start b in
          let p = session_first o (with_part m c q) (omega (arith, length-drop session_start b, record_sized b h)) in
          let d = drop_at (take session_size o) (with_part m c q) session_size (length-take-le session_size o (omega (arith, length-drop session_start b, record_sized b h))) in
          rw (eq-eqb (length b) device_size (record_sized b h), e, stored_form) (
            is_record_lem (before b (with_part m c q)) (before_sized b (with_part m c q) (record_sized b h) ∙ ap (λ (j : ℕ). components_start + j) n) (rw (p.1, x.0, d) (a.1 x.1)),
            ap₂ (λ (t : List Component) (s : Session). with_session (device_in b) t s) (ap (components_in component_limit) d ∙ a.0) p.0,
          )
      go false e =
          rw (eq-eqb (length b) device_size (record_sized b h), e)
          (h, ap (λ (t : List Component). with_session (device_in b) t (device_in b).session) (sym (set_out (device_in b).components slot c (omega (arith, components_full (drop components_start b), ltb-false slot component_limit e)))))

-- over the bytes that a record has, they are those of the record with another session
pub session_written : (t : Session) (d : Device) → Sized d → with_session_bytes t (device_bytes d) ≡ device_bytes (with_session d d.components t)
unfolding with_session_bytes device_bytes
session_written t d full =
    let q = components_bytes d.components in
    rw (eq-eqb (length (device_bytes d)) device_size (device_length d full))
    (ap (λ (l : List ℕ). head_bytes d ++ (session_bytes t ++ l))
    (ap (λ (l : List ℕ). drop components_start l) (sym (append_assoc (head_bytes d) (session_bytes d.session) q))
    ∙ drop_at (head_bytes d ++ session_bytes d.session) q components_start (head_sized d full)))

-- the components before a slot are as many bytes as each has
front_sized : (l : List Component) (i : ℕ) → i ≤ length l → length (components_bytes (take i l)) ≡ i * component_size
front_sized l i h = components_sized (take i l) ∙ ap (λ (n : ℕ). n * component_size) (length-take-le i l h)

-- the bytes of a component stand between those before it and those behind it
components_split : (l : List Component) (i : ℕ) (c : Component) → i < length l → components_bytes (set l i c) ≡ components_bytes (take i l) ++ (component_bytes c ++ components_bytes (drop (suc i) l))
unfolding components_bytes
components_split [] i c h = absurd (not-suc-le-zero h)
components_split (x ∷ l) zero c h = refl
components_split (x ∷ l) (suc i) c h =
    ap (λ (t : List ℕ). component_bytes x ++ t) (components_split l i c (le_of_suc-le-suc h)) ∙ sym (append_assoc (component_bytes x) (components_bytes (take i l)) (component_bytes c ++ components_bytes (drop (suc i) l)))

-- .. or with another component in a slot
module _ (slot : ℕ) (c : Component) (d : Device) (full : Sized d) where
  abbrev front : List ℕ
  front = (head_bytes d ++ session_bytes d.session) ++ components_bytes (take slot d.components)

  around : (x : Component) → slot < length d.components
      → device_bytes (with_session d (set d.components slot x) d.session) ≡ front ++ (component_bytes x ++ components_bytes (drop (suc slot) d.components))
  unfolding device_bytes
  around x h =
      let r = component_bytes x ++ components_bytes (drop (suc slot) d.components) in
      ap (λ (t : List ℕ). head_bytes d ++ (session_bytes d.session ++ t)) (components_split d.components slot x h)
      ∙ sym (append_assoc (head_bytes d) (session_bytes d.session) (components_bytes (take slot d.components) ++ r))
      ∙ sym (append_assoc (head_bytes d ++ session_bytes d.session) (components_bytes (take slot d.components)) r)

  pub component_written : with_component_bytes slot c (device_bytes d) ≡ device_bytes (with_session d (set d.components slot c) d.session)
  unfolding with_component_bytes
  component_written = go (ltb slot component_limit) refl
    where
      go : (t : Bool) → ltb slot component_limit ≡ t → with_component_bytes slot c (device_bytes d) ≡ device_bytes (with_session d (set d.components slot c) d.session)
      go true e =
          let in_use : slot < length d.components = omega (arith, ltb-true slot component_limit e) in
          let old = get_or d.components slot blank_component in
          let back = components_bytes (drop (suc slot) d.components) in
          let n : length front ≡ component_start slot = length-append (head_bytes d ++ session_bytes d.session) (components_bytes (take slot d.components)) ∙ ap₂ (λ (x y : ℕ). x + y) (head_sized d full) (front_sized d.components slot (omega arith)) in
          let m : length (front ++ component_bytes old) ≡ component_start slot + component_size = length-append front (component_bytes old) ∙ ap₂ (λ (x y : ℕ). x + y) n (component_sized old) in
          let w : device_bytes d ≡ front ++ (component_bytes old ++ back) = ap (λ (t : List Component). device_bytes (with_session d t d.session)) (sym (set-get_or d.components slot blank_component)) ∙ around old in_use in
          rw (eq-eqb (length (device_bytes d)) device_size (device_length d full), e)
          (ap₂ (λ (u v : List ℕ). u ++ (component_bytes c ++ v)) (ap (take (component_start slot)) w ∙ take_at front (component_bytes old ++ back) (component_start slot) n)
          (ap (drop (component_start slot + component_size)) (w ∙ sym (append_assoc front (component_bytes old) back)) ∙ drop_at (front ++ component_bytes old) back (component_start slot + component_size) m)
          ∙ sym (around c in_use))
      go false e =
          rw (eq-eqb (length (device_bytes d)) device_size (device_length d full), e)
          (ap (λ (t : List Component). device_bytes (with_session d t d.session)) (sym (set_out d.components slot c (omega (arith, ltb-false slot component_limit e)))))
